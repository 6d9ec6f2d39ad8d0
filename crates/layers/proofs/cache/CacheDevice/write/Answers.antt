-- The sector goes to a line, after the one that makes room is written below.
use Rattle.std.proofs.Common.{rules}
use Rattle.layers.proofs.CacheCalls.{wrote}
use Rattle.layers.proofs.cache.CacheDevice.write.Goals as goal

pub returns-clause-effect : goal.returns-clause-effect
returns-clause-effect g c = search (rules, wrote c.args.self.now.table)
