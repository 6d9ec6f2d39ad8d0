-- The block is lost on both sides.
use Rattle.std.proofs.Common.{rules}
use Rattle.layers.proofs.MirrorRuns.{both_sides}
use Rattle.layers.proofs.mirror.MirrorDevice.mark.Goals as goal

pub returns-clause-effect : goal.returns-clause-effect
returns-clause-effect g c = search (rules, both_sides)
