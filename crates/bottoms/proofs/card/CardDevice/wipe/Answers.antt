-- The image is what the definition makes of it.
use Rattle.std.proofs.Common.{arith}
use Rattle.std.proofs.lemmas.Grind.{common_steps}
use Rattle.bottoms.proofs.Changes.{count_shown, wipe_runs}
use Rattle.bottoms.proofs.card.CardDevice.wipe.Goals as goal

pub returns-clause-effect : goal.returns-clause-effect
returns-clause-effect g c = wipe_runs _ g.met.P.Placement.lawful _ _ _ (grind (arith, common_steps, count_shown))
