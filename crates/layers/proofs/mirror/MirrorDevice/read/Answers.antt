-- The first side answers, or the block is lost there and the second does.
use Rattle.std.proofs.Common.{rules}
use Rattle.layers.proofs.MirrorRuns.{both_sides}
use Rattle.layers.proofs.MirrorCalls.{first_answers, first_fills, second_answers, second_fills}
use Rattle.layers.proofs.mirror.MirrorDevice.read.Goals as goal

pub returns-in-Ok-clause-buffer : goal.returns-in-Ok-clause-buffer
returns-in-Ok-clause-buffer g c = search (rules, first_fills)

pub returns-in-Ok-clause-answer : goal.returns-in-Ok-clause-answer
returns-in-Ok-clause-answer g c = search (rules, first_answers)

pub returns-in-Ok-clause-effect : goal.returns-in-Ok-clause-effect
returns-in-Ok-clause-effect g c = search (rules, both_sides)

pub returns-in-Err-clause-answer : goal.returns-in-Err-clause-answer
returns-in-Err-clause-answer g c = search (rules, second_answers)

pub returns-in-Err-clause-buffer : goal.returns-in-Err-clause-buffer
returns-in-Err-clause-buffer g c = search (rules, second_fills)

pub returns-in-Err-clause-effect : goal.returns-in-Err-clause-effect
returns-in-Err-clause-effect g c = search (rules, both_sides)
