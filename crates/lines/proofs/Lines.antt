-- Lines found by their block, and tables in which one line changes.
use Rattle.std.proofs.Common.{◌≡◌, ℕ, zero, suc, ◌<◌, true, false, ◌⊎◌, List, [], ◌∷◌, length, set, nat_eq, Some, None, Option, sym, refl, ap, ◌∙◌, inl, inr, arith}
use Rattle.std.proofs.lemmas.List.{get_or-set_same, get_or-set_other}
use Rattle.std.proofs.lemmas.Bool.{cases_eq, cases_Bool, eqb-true, eq-eqb}
use Rattle.std.proofs.lemmas.Bool.Decides.{nat_tests}
use Rattle.std.proofs.lemmas.Grind.{common_steps}
use Rattle.std.specs.List.{position as first}
use Rattle.std.specs.Option.{option_eq}
use Rattle.lines.specs.declared.line.Line.{Line}
use Rattle.lines.specs.Lines.{empty_line, line_at, block_at, same_block, clash, Apart, OnlyIn, position}
use Rattle.lines.specs.declared.table.Table.{Table}
use Rattle.lines.specs.Tables.{taken}

-- tests on the blocks of lines
pub same_is : (o p : Option ℕ) → same_block o p ≡ true → o ≡ p
same_is None None h = refl
same_is None (Some n) h = cc
same_is (Some m) None h = cc
same_is (Some m) (Some n) h = ap Some (eqb-true m n h)

same_self : (o : Option ℕ) → same_block o o ≡ true
same_self None = refl
same_self (Some n) = eq-eqb n n refl

pub is_same : (o p : Option ℕ) → o ≡ p → same_block o p ≡ true
is_same o p e = rw (← e) (same_self o)

pub differ : (o p : Option ℕ) → same_block o p ≡ false → o ≡ p → ⊥
differ o p h e = cc (is_same o p e)

-- `==` on options is the definition's test, so the first line that passes it is the first line for the block
option_eq_same : (o p : Option ℕ) → option_eq nat_eq o p ≡ same_block o p
option_eq_same None None = refl
option_eq_same None (Some n) = refl
option_eq_same (Some m) None = refl
option_eq_same (Some m) (Some n) = refl

pub first_is_position : (ls : List Line) (o : Option ℕ) → first (λ (l : Line). option_eq nat_eq l.block o) ls ≡ position ls o
first_is_position [] o = refl
first_is_position (l ∷ ls) o = rw (option_eq_same l.block o, ← first_is_position ls o) (grind (arith, nat_tests))

-- a line is found, or there is none
pub record Found (ls : List Line) (o : Option ℕ) : Type 0 where
  pub line : ℕ
  pub at : position ls o ≡ Some line
  pub within : line < length ls
  pub block : block_at ls line ≡ o

pub record Missing (ls : List Line) (o : Option ℕ) : Type 0 where
  pub at : position ls o ≡ None
  pub none : (i : ℕ) → i < length ls → block_at ls i ≡ o → ⊥

missing_more : (l : Line) (ls : List Line) (o : Option ℕ) → (l.block ≡ o → ⊥) → ((i : ℕ) → i < length ls → block_at ls i ≡ o → ⊥) → (i : ℕ) → i < length (l ∷ ls) → block_at (l ∷ ls) i ≡ o → ⊥
missing_more l ls o ne none zero h e = ne e
missing_more l ls o ne none (suc i) h e = none i (omega arith) e

pub search_for : (ls : List Line) (o : Option ℕ) → Found ls o ⊎ Missing ls o
search_for [] o = inr (record { at = refl; none = λ i h. absurd (omega arith) })
search_for (l ∷ ls) o =
    elim (cases_Bool (same_block l.block o)) [
      | inl e ↦ inl (record { line = zero; at = rw e; within = omega arith; block = same_is l.block o e })
      | inr e ↦ elim (search_for ls o) [
        | inl f ↦ inl (record { line = suc f.line; at = rw (e, f.at); within = omega (arith, f.within); block = f.block })
        | inr m ↦ inr (record { at = rw (e, m.at); none = missing_more l ls o (differ l.block o e) m.none })
      ]
    ]

-- a line that stands for a block is one of the table
pub stands_within : (ls : List Line) (i n : ℕ) → block_at ls i ≡ Some n → i < length ls
stands_within ls i n e = grind (arith, common_steps)

clash_of : (o p : Option ℕ) → clash o p ≡ true → (n : ℕ) × (o ≡ Some n) × (p ≡ Some n)
clash_of None p h = cc
clash_of (Some n) p h = (n, refl, sym (same_is (Some n) p h))

is_clash : (o p : Option ℕ) (n : ℕ) → o ≡ Some n → p ≡ Some n → clash o p ≡ true
is_clash o p n e f = rw (e, f) (eq-eqb n n refl)

-- where no block stands in two lines, one line stands for n
pub once : (ls : List Line) → Apart ls → (i j n : ℕ) → block_at ls i ≡ Some n → block_at ls j ≡ Some n → i ≡ j
once ls apart i j n e f = apart i j (is_clash (block_at ls i) (block_at ls j) n e f)

-- a line of the table is another one now
module _ (ls : List Line) (i : ℕ) (l : Line) (inside : i < length ls) where
  pub at_same : line_at (set ls i l) i ≡ l
  at_same = get_or-set_same ls i l empty_line inside

  pub at_other : (k : ℕ) → (k ≡ i → ⊥) → line_at (set ls i l) k ≡ line_at ls k
  at_other k ne = get_or-set_other ls i k l empty_line ne

  -- a line that stands for n is the new one, or it stood for n before
  pub came_from : (k n : ℕ) → block_at (set ls i l) k ≡ Some n → ((k ≡ i) × (l.block ≡ Some n)) ⊎ ((k ≡ i → ⊥) × (block_at ls k ≡ Some n))
  came_from k n e = elim (cases_eq k i) [ inl p ↦ inl (p, cc at_same) | inr ne ↦ inr (ne, cc (at_other k ne)) ]

  pub apart_set : Apart ls → OnlyIn ls i l.block → Apart (set ls i l)
  apart_set apart only j k e =
      let c = clash_of (block_at (set ls i l) j) (block_at (set ls i l) k) e in
      elim (came_from j c.0 c.1) [
        | inl x ↦ elim (came_from k c.0 c.2) [ inl y ↦ x.0 ∙ sym y.0 | inr y ↦ x.0 ∙ sym (only k (is_clash (block_at ls k) l.block c.0 y.1 x.1)) ]
        | inr x ↦ elim (came_from k c.0 c.2) [ inl y ↦ only j (is_clash (block_at ls j) l.block c.0 x.1 y.1) ∙ sym y.0 | inr y ↦ once ls apart j k c.0 x.1 y.1 ]
      ]

pub apart_empty : (ls : List Line) (i : ℕ) → i < length ls → Apart ls → Apart (set ls i empty_line)
apart_empty ls i inside apart = apart_set ls i empty_line inside apart (λ k e. let c = clash_of (block_at ls k) None e in cc)

-- the line that a write takes
module _ (t : Table) (n : ℕ) where
  pub taken_within : taken t n < length t.lines
  taken_within =
      elim (search_for t.lines (Some n)) [
        | inl f ↦ rw f.at f.within
        | inr m ↦ elim (search_for t.lines None) [ inl f ↦ rw (m.at, f.at) f.within | inr e ↦ rw (m.at, e.at) (omega (arith, t.four, t.turning)) ]
      ]

  -- no other line stands for the block
  pub taken_only : OnlyIn t.lines (taken t n) (Some n)
  taken_only k clashes =
      let c = clash_of (block_at t.lines k) (Some n) clashes in
      let here : block_at t.lines k ≡ Some n = c.1 ∙ sym c.2 in
      elim (search_for t.lines (Some n)) [
        | inl f ↦ rw f.at (once t.lines t.apart k f.line n here f.block)
        | inr m ↦ absurd (m.none k (stands_within t.lines k n here) here)
      ]
