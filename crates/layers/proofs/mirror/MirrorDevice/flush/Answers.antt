-- Both sides are flushed. A flush that takes one side twice runs no operation either; by the lemmas on runs that is found too, so that such a
-- flush is refused for `settles`, which is false, and not here.
use Rattle.std.proofs.Common.{rules}
use Rattle.device.proofs.Operations.{ran_nothing, ran_again}
use Rattle.layers.proofs.MirrorRuns.{both_sides}
use Rattle.layers.proofs.mirror.MirrorDevice.flush.Goals as goal

pub returns-clause-effect : goal.returns-clause-effect
returns-clause-effect g c = search (rules, both_sides, ran_nothing, ran_again)
