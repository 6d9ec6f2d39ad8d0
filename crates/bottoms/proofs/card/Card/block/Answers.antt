-- The part of the bytes that is lent is the block's.
use Rattle.std.proofs.Common.{arith}
use Rattle.bottoms.proofs.Lent.{lent_is}
use Rattle.bottoms.proofs.card.Card.block.Goals as goal

pub returns : goal.returns
returns g c = lent_is _ g.met.P.Placement.lawful _ _ _ _ _ _ c.in_ok-at.ensures (omega arith) c.shown.ensures
