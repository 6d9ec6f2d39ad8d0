-- The block doesn't show the sector, and it is written.
use Rattle.layers.proofs.Repairs.{mend_written}
use Rattle.layers.proofs.repairing.mend.Goals as goal

pub returns-clause-effect : goal.returns-clause-effect
returns-clause-effect g c = mend_written c.if-shows.ensures.value c.shows.ensures.effect c.write.ensures.effect
