-- All lines are written below and emptied.
use Rattle.std.proofs.Common.{rules}
use Rattle.device.proofs.Steps.{steps_before, effect_of}
use Rattle.layers.proofs.CacheCalls.{flushed}
use Rattle.layers.proofs.cache.CacheDevice.flush.Goals as goal

pub returns-clause-below : goal.returns-clause-below
returns-clause-below g c = search (rules, steps_before)

pub returns-clause-effect : goal.returns-clause-effect
returns-clause-effect g c = search (rules, flushed c.args.self.now.table, effect_of, steps_before)
