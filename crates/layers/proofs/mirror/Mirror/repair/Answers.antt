-- The block is read, and both sides are mended with what it shows.
use Rattle.std.proofs.Common.{rules}
use Rattle.layers.proofs.Repairs.{side_mended, side_repaired, both_repaired}
use Rattle.layers.proofs.mirror.Mirror.repair.Goals as goal

pub returns-clause-second : goal.returns-clause-second
returns-clause-second g c = let read = c.in_ok-read.ensures in side_repaired c.args.n c.read.new.buf _ _ _ read.answer read.buffer read.second (search rules)

pub returns-clause-first : goal.returns-clause-first
returns-clause-first g c = let read = c.in_ok-read.ensures in side_repaired c.args.n c.read.new.buf _ _ _ read.answer read.buffer read.first (search rules)

pub returns-clause-effect : goal.returns-clause-effect
returns-clause-effect g c =
    let n = c.args.n in
    let s = c.read.new.buf in
    let read = c.in_ok-read.ensures in
    both_repaired n s _ _ _ read.answer read.buffer (side_mended n s read.first c.mend.ensures.effect) (side_mended n s read.second c.mend-2.ensures.effect)
