-- The bytes before the first zero are those that stand before its position, or all of them.
use Rattle.std.proofs.Common.{rules, ◌≡◌, ℕ, List, [], ◌∷◌, ◌==◌, not, arith}
use Rattle.std.specs.List.{before_first}
use Rattle.std.proofs.lemmas.Grind.{common_steps}
use Rattle.std.proofs.lemmas.List.Sums.{take_while-cons}
use Rattle.std.proofs.lemmas.Iterator.{YieldsList-from_slice}
use Rattle.std.proofs.lemmas.Iterator.Search.{position_from_yields_List}
use borrow.Author.Tests.{tests}
use Rattle.card.specs.Seen.{text_of}
use Rattle.card.proofs.seen.text_in.Goals as goal

text_of-by_first : (s : List ℕ) → text_of s ≡ before_first (λ (b : ℕ). b == 0) s
text_of-by_first [] = grind arith
text_of-by_first (b ∷ s) = grind (arith, text_of-by_first s, take_while-cons (λ (x : ℕ). not (x == 0)) b s)

pub returns : goal.returns
returns c =
    let s = c.args.sector.now in
    grind (arith, common_steps, text_of-by_first s, position_from_yields_List (λ (b : ℕ). b == 0) _ _ c.position.result c.position.ensures.ran (YieldsList-from_slice s cc) (λ x b q k. search (rules, tests)))
