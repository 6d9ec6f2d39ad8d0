-- The lines before this one are written.
use Rattle.std.proofs.Common.{take}
use Rattle.device.specs.Effects.{Steps}
use Rattle.lines.specs.Lines.{all_waiting}
use Rattle.lines.proofs.table.Table.write_back.Given as goal

abbrev pub invariant-loop-line : goal.invariant-loop-line
invariant-loop-line g l = Steps g.D.Device (all_waiting (take l.line-index l.line-items)) l.initial.below l.below
