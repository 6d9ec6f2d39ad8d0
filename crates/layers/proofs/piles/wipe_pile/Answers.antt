-- What the pile wipes is wiped on both sides.
use Rattle.layers.proofs.Naming.{wiped_both}
use Rattle.layers.proofs.piles.wipe_pile.Goals as goal

pub returns-clause-first : goal.returns-clause-first
returns-clause-first g c inside = (wiped_both g.A.Device g.B.Device c.args.n c.args.pile.now c.wipe.new.self c.wipe.ensures.effect inside).0

pub returns-clause-second : goal.returns-clause-second
returns-clause-second g c inside = (wiped_both g.A.Device g.B.Device c.args.n c.args.pile.now c.wipe.new.self c.wipe.ensures.effect inside).1
