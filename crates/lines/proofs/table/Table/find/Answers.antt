-- The position found is that of the first line for the block.
use Rattle.std.proofs.Common.{nat_eq, ◌∙◌, rules}
use Rattle.std.specs.Option.{option_eq}
use Rattle.std.proofs.lemmas.Iterator.{YieldsList-from_slice}
use Rattle.std.proofs.lemmas.Iterator.Search.{position_from_yields_List}
use Rattle.lines.specs.declared.line.Line.{Line}
use Rattle.lines.proofs.Lines.{first_is_position}
use Rattle.lines.proofs.table.Table.find.Goals as goal
use borrow.Author.Tests.{tests}

pub returns-clause-value : goal.returns-clause-value
returns-clause-value c =
    let o = c.args.block in
    let ls = c.args.self.now.lines in
    position_from_yields_List (λ (l : Line). option_eq nat_eq l.block o) _ _ c.position.result c.position.ensures.ran (YieldsList-from_slice ls cc) (λ x b q k. search (rules, tests)) ∙ first_is_position ls o
