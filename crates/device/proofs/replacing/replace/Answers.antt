-- What is wiped and then written holds nothing, and has forgotten all but what was written.
use Rattle.std.proofs.Common.{rules}
use Rattle.device.proofs.Forgetting.{replaced_holds_nothing, replaced_forgot}
use Rattle.device.proofs.replacing.replace.Goals as goal

pub returns-clause-nothing : goal.returns-clause-nothing
returns-clause-nothing g c = search (rules, replaced_holds_nothing)

pub returns-clause-forgot : goal.returns-clause-forgot
returns-clause-forgot g c = search (rules, replaced_forgot)
