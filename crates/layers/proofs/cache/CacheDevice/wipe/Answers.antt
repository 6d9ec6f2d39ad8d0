-- The line is dropped, and the block is wiped below; or there is no such block below either.
use Rattle.std.proofs.Common.{rules}
use Rattle.device.specs.Operations.{wipe}
use Rattle.layers.proofs.CacheCalls.{none_below, passed_down}
use Rattle.layers.proofs.cache.CacheDevice.wipe.Goals as goal

pub returns-in_err-check-clause-below : goal.returns-in_err-check-clause-below
returns-in_err-check-clause-below g c = none_below c.args.self.now.table.lines (wipe c.args.n) _ _ c.in_err-check.ensures.0

pub returns-clause-effect : goal.returns-clause-effect
returns-clause-effect g c = search (rules, passed_down c.args.self.now.table)
