-- What waits is read, else what is shown below.
use Rattle.std.proofs.Common.{rules}
use Rattle.layers.proofs.CacheRuns.{cache_kept}
use Rattle.layers.proofs.CacheCalls.{line_answers, line_fills, below_answers, below_fills}
use Rattle.layers.proofs.cache.CacheDevice.read.Goals as goal

pub returns-in-Some-clause-answer : goal.returns-in-Some-clause-answer
returns-in-Some-clause-answer g c = search (rules, line_answers)

pub returns-in-Some-clause-buffer : goal.returns-in-Some-clause-buffer
returns-in-Some-clause-buffer g c = search (rules, line_fills)

pub returns-in-None-clause-answer : goal.returns-in-None-clause-answer
returns-in-None-clause-answer g c = search (rules, below_answers)

pub returns-in-None-clause-buffer : goal.returns-in-None-clause-buffer
returns-in-None-clause-buffer g c = search (rules, below_fills)

pub returns-in-None-clause-effect : goal.returns-in-None-clause-effect
returns-in-None-clause-effect g c = search (rules, cache_kept)
