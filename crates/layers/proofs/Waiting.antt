-- The sector that waits for a block, as the lines change.
use Rattle.std.proofs.Common.{◌≡◌, ℕ, zero, suc, ◌<◌, List, [], ◌∷◌, length, set, Some, None, refl, inl, inr, arith}
use Rattle.std.proofs.lemmas.Bool.{cases_Bool}
use Rattle.std.proofs.lemmas.Bool.Decides.{nat_tests}
use Rattle.lines.specs.declared.line.Line.{Line}
use Rattle.device.specs.Blocks.{Shown, sector}
use Rattle.device.specs.Operations.{joined, block_after_all, may_hold_all}
use Rattle.device.proofs.Operations.{block_after_all-++, may_hold_all-++}
use Rattle.lines.specs.Lines.{empty_line, line_at, block_at, same_block, Apart, all_waiting, waiting_for}
use Rattle.layers.specs.Caching.{shown_over, held_over}
use Rattle.lines.proofs.Lines.{same_is, differ, search_for, stands_within, once, at_same, at_other, came_from}

-- where one line stands for n, its sector waits
pub waits_at : (ls : List Line) → Apart ls → (i n : ℕ) → block_at ls i ≡ Some n → waiting_for ls n ≡ Some (line_at ls i).bytes
waits_at ls apart i n e = grind (arith, search_for ls (Some n), once ls apart, stands_within ls i n e)

pub waits_not : (ls : List Line) (n : ℕ) → ((i : ℕ) → block_at ls i ≡ Some n → ⊥) → waiting_for ls n ≡ None
waits_not ls n none = grind (arith, search_for ls (Some n))

-- line i is another one now
module _ (ls : List Line) (i : ℕ) (l : Line) (inside : i < length ls) (apart : Apart (set ls i l)) where
  -- nothing changes for a block that neither of the two stands for
  pub waiting_other : (n : ℕ) → (l.block ≡ Some n → ⊥) → (block_at ls i ≡ Some n → ⊥) → waiting_for (set ls i l) n ≡ waiting_for ls n
  waiting_other n new old =
      grind (arith, search_for ls (Some n), stands_within ls, at_other ls i l inside, came_from ls i l inside, waits_at (set ls i l) apart, waits_not (set ls i l) n)

  pub waiting_new : (n : ℕ) → l.block ≡ Some n → waiting_for (set ls i l) n ≡ Some l.bytes
  waiting_new n e = grind (arith, at_same ls i l inside, waits_at (set ls i l) apart i n)

-- the one line for n is emptied
pub waiting_gone : (ls : List Line) (i n : ℕ) → i < length ls → Apart ls → block_at ls i ≡ Some n → waiting_for (set ls i empty_line) n ≡ None
waiting_gone ls i n inside apart e = waits_not (set ls i empty_line) n (λ k f. grind (arith, came_from ls i empty_line inside k n f, once ls apart k i n))

-- the lines after the first
apart_rest : (l : Line) (ls : List Line) → Apart (l ∷ ls) → Apart ls
apart_rest l ls apart i j e = let p = apart (suc i) (suc j) e in cc

-- The writes that wait, one after the other, have a block show and hold what the cache does.
abbrev pub AllAt : List Line → ℕ → Shown → List (List ℕ) → Type 0
AllAt ls n c kept =
    (block_after_all (all_waiting ls) n c ≡ shown_over (waiting_for ls n) c) × (may_hold_all (all_waiting ls) n c kept ≡ held_over (waiting_for ls n) c kept)

-- The first line stands for the block, and no other does, or it doesn't.
pub all_at : (ls : List Line) → Apart ls → (n : ℕ) (c : Shown) (kept : List (List ℕ)) → AllAt ls n c kept
all_at [] apart n c kept = (refl, refl)
all_at (l ∷ ls) apart n c kept =
    elim (cases_Bool (same_block l.block (Some n))) [
      | inl t ↦
          (let e : l.block ≡ Some n = same_is l.block (Some n) t in
          let none : waiting_for ls n ≡ None = waits_not ls n (λ i f. let p = once (l ∷ ls) apart zero (suc i) n e f in cc) in
          grind (arith, nat_tests, all_at ls (apart_rest l ls apart) n (sector l.bytes) (joined c kept)))
      | inr f ↦ grind (arith, nat_tests, block_after_all-++, may_hold_all-++, differ l.block (Some n) f, all_at ls (apart_rest l ls apart) n c kept)
    ]
