-- No sector waits in four empty lines.
use Rattle.std.proofs.Common.{rules}
use Rattle.layers.proofs.CacheRuns.{shown_bare}
use Rattle.layers.proofs.cache.Cache.new.Goals as goal

pub returns-clause-shows : goal.returns-clause-shows
returns-clause-shows g c = search (rules, shown_bare)
