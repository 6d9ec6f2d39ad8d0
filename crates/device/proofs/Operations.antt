-- Operations one after the other: lists of them joined, and one block seen alone.
use Rattle.std.proofs.Common.{◌≡◌, ℕ, ◌<◌, ◌≤◌, true, false, cond, eqb, ◌⊎◌, List, [], ◌∷◌, ◌++◌, length, sym, refl, ap, ◌∙◌, inl, inr, ⊎_elim, arith}
use mathlib.Core.List.Memᴰ
use Rattle.std.proofs.lemmas.List.{ext_get_or, length-set, get_or-set_same, get_or-set_other, set_past}
use Rattle.std.proofs.lemmas.Bool.{cases_Bool, cases_eq, cond-true, cond-false, eq-eqb, ne_eqb}
use Rattle.device.specs.Blocks.{Shown, lost, sector, shown_at, Held, ◌∈◌, is_blank}
use Rattle.device.specs.Operations.{Op, write, wipe, lose, target, outcome, after, block_after, joined, left_by, may_hold, after_all, block_after_all, may_hold_all, Ran}

-- Sectors that are all among others.
abbrev pub Among : List (List ℕ) → List (List ℕ) → Type 0
Among xs ys = (s : List ℕ) → s ∈ xs → s ∈ ys

-- no operation changes the count
pub count_after : (o : Op) (d : List Shown) → length (after o d) ≡ length d
count_after o d = length-set d (target o) (outcome o)

pub count_after_all : (os : List Op) (d : List Shown) → length (after_all os d) ≡ length d
count_after_all [] d = refl
count_after_all (o ∷ os) d = count_after_all os (after o d) ∙ count_after o d

pub ran_count : {os : List Op} {d d' : List Shown} {h h' : Held} → Ran os d h d' h' → length d' ≡ length d
ran_count {os} {d} run = ap length run.shows ∙ count_after_all os d

-- an operation at the block that it names, and at another
pub at_target : {A : Type 0} (o : Op) (n : ℕ) (x y : A) → n ≡ target o → cond (eqb n (target o)) x y ≡ x
at_target o n x y here = cond-true (eqb n (target o)) x y (eq-eqb n (target o) here)

pub elsewhere : {A : Type 0} (o : Op) (n : ℕ) (x y : A) → (n ≡ target o → ⊥) → cond (eqb n (target o)) x y ≡ y
elsewhere o n x y ne = cond-false (eqb n (target o)) x y (ne_eqb n (target o) ne)

-- the list of blocks after an operation, seen at one block
pub shown_after : (o : Op) (d : List Shown) (n : ℕ) → n < length d → shown_at (after o d) n ≡ block_after o n (shown_at d n)
shown_after o d n inside =
    elim (cases_eq n (target o)) [
      | inl here ↦ rw (at_target o n (outcome o) (shown_at d n) here, here) (get_or-set_same d (target o) (outcome o) lost (omega arith))
      | inr ne ↦ rw (elsewhere o n (outcome o) (shown_at d n) ne) (get_or-set_other d (target o) n (outcome o) lost ne)
    ]

pub shown_after_all : (os : List Op) (d : List Shown) (n : ℕ) → n < length d → shown_at (after_all os d) n ≡ block_after_all os n (shown_at d n)
shown_after_all [] d n inside = refl
shown_after_all (o ∷ os) d n inside = shown_after_all os (after o d) n (omega (arith, count_after o d)) ∙ ap (block_after_all os n) (shown_after o d n inside)

-- lists of operations joined
pub after_all-++ : (os ps : List Op) (d : List Shown) → after_all (os ++ ps) d ≡ after_all ps (after_all os d)
after_all-++ [] ps d = refl
after_all-++ (o ∷ os) ps d = after_all-++ os ps (after o d)

pub block_after_all-++ : (os ps : List Op) (n : ℕ) (c : Shown) → block_after_all (os ++ ps) n c ≡ block_after_all ps n (block_after_all os n c)
block_after_all-++ [] ps n c = refl
block_after_all-++ (o ∷ os) ps n c = block_after_all-++ os ps n (block_after o n c)

pub may_hold_all-++ : (os ps : List Op) (n : ℕ) (c : Shown) (kept : List (List ℕ)) → may_hold_all (os ++ ps) n c kept ≡ may_hold_all ps n (block_after_all os n c) (may_hold_all os n c kept)
may_hold_all-++ [] ps n c kept = refl
may_hold_all-++ (o ∷ os) ps n c kept = may_hold_all-++ os ps n (block_after o n c) (may_hold o n c kept)

-- the sector that may join what is held
pub kept_joined : (c : Shown) (kept : List (List ℕ)) → Among kept (joined c kept)
kept_joined lost kept s m = m
kept_joined (sector x) kept s m = elim (is_blank x) as (λ b. s ∈ cond b kept (x ∷ kept)) [ true ↦ m | false ↦ Memᴰ.tail m ]

pub to_joined : (c : Shown) (kept : List (List ℕ)) (s : List ℕ) → c ≡ sector s → is_blank s ≡ false → s ∈ joined c kept
to_joined c kept s e b = rw (e, b) (Memᴰ.head refl)

pub from_joined : (c : Shown) (kept : List (List ℕ)) (s : List ℕ) → s ∈ joined c kept → (s ∈ kept) ⊎ ((c ≡ sector s) × (is_blank s ≡ false))
from_joined lost kept s m = inl m
from_joined (sector x) kept s m =
    elim (cases_Bool (is_blank x)) [
      | inl b ↦ inl (rw b at m)
      | inr b ↦ elim (Memᴰ.cases_cons (rw b at m)) [ inl e ↦ inr (cc, cc) | inr k ↦ inl k ]
    ]

-- where less was held, less may be held
pub joined_among : (c : Shown) (xs ys : List (List ℕ)) → Among xs ys → Among (joined c xs) (joined c ys)
joined_among lost xs ys h = h
joined_among (sector x) xs ys h = elim (is_blank x) as (λ b. Among (cond b xs (x ∷ xs)) (cond b ys (x ∷ ys))) [ true ↦ h | false ↦ λ s m. ⊎_elim Memᴰ.head (λ i. Memᴰ.tail (h s i)) (Memᴰ.cases_cons m) ]

left_among : (o : Op) (c : Shown) (xs ys : List (List ℕ)) → Among xs ys → Among (left_by o c xs) (left_by o c ys)
left_among (write n x) c xs ys h = joined_among c xs ys h
left_among (wipe n) c xs ys h = λ s m. m
left_among (lose n) c xs ys h = joined_among c xs ys h

may_hold_among : (o : Op) (n : ℕ) (c : Shown) (xs ys : List (List ℕ)) → Among xs ys → Among (may_hold o n c xs) (may_hold o n c ys)
may_hold_among o n c xs ys h = elim (eqb n (target o)) as (λ b. Among (cond b (left_by o c xs) xs) (cond b (left_by o c ys) ys)) [ true ↦ left_among o c xs ys h | false ↦ h ]

pub may_hold_all_among : (os : List Op) (n : ℕ) (c : Shown) (xs ys : List (List ℕ)) → Among xs ys → Among (may_hold_all os n c xs) (may_hold_all os n c ys)
may_hold_all_among [] n c xs ys h = h
may_hold_all_among (o ∷ os) n c xs ys h = may_hold_all_among os n (block_after o n c) (may_hold o n c xs) (may_hold o n c ys) (may_hold_among o n c xs ys h)

-- What operations do to block n: it showed c and held these sectors, and shows c' and holds those.
pub record BlockRan (os : List Op) (n : ℕ) (c : Shown) (kept : List (List ℕ)) (c' : Shown) (kept' : List (List ℕ)) : Type 0 where
  pub shows : c' ≡ block_after_all os n c
  pub holds : Among kept' (may_hold_all os n c kept)

-- an operation on another block leaves this one alone
module _ (o : Op) (n : ℕ) (ne : n ≡ target o → ⊥) (c : Shown) (kept : List (List ℕ)) (c' : Shown) (kept' : List (List ℕ)) where
  pub block_untouched : BlockRan (o ∷ []) n c kept c' kept' → BlockRan [] n c kept c' kept'
  block_untouched run = record { shows = run.shows ∙ elsewhere o n (outcome o) c ne; holds = rw (elsewhere o n (left_by o c kept) kept ne) at run.holds }

  pub block_elsewhere : BlockRan [] n c kept c' kept' → BlockRan (o ∷ []) n c kept c' kept'
  block_elsewhere run = record { shows = run.shows ∙ sym (elsewhere o n (outcome o) c ne); holds = rw (elsewhere o n (left_by o c kept) kept ne) run.holds }

-- the block that an operation names
module _ (o : Op) (n : ℕ) (here : n ≡ target o) (c : Shown) (kept : List (List ℕ)) (c' : Shown) (kept' : List (List ℕ)) where
  pub block_here : c' ≡ outcome o → Among kept' (left_by o c kept) → BlockRan (o ∷ []) n c kept c' kept'
  block_here e among = record { shows = e ∙ sym (at_target o n (outcome o) c here); holds = rw (at_target o n (left_by o c kept) kept here) among }

  pub block_changed : BlockRan (o ∷ []) n c kept c' kept' → (c' ≡ outcome o) × Among kept' (left_by o c kept)
  block_changed run = (run.shows ∙ at_target o n (outcome o) c here, rw (at_target o n (left_by o c kept) kept here) at run.holds)

-- a run, seen at one block
pub block_ran : (os : List Op) (d d' : List Shown) (h h' : Held) → Ran os d h d' h' → (n : ℕ) → n < length d → BlockRan os n (shown_at d n) (h n) (shown_at d' n) (h' n)
block_ran os d d' h h' run n inside = record { shows = rw run.shows (shown_after_all os d n inside); holds = run.holds n inside }

-- what happens to each block makes a run
pub ran_by_block : (os : List Op) (d d' : List Shown) (h h' : Held) → length d' ≡ length d → ((n : ℕ) → n < length d → BlockRan os n (shown_at d n) (h n) (shown_at d' n) (h' n)) → Ran os d h d' h'
ran_by_block os d d' h h' len each = record { shows = ext_get_or lost d' (after_all os d) (omega (arith, count_after_all os d)) same; holds = λ n inside. (each n inside).holds } where
  same : (n : ℕ) → n < length d' → shown_at d' n ≡ shown_at (after_all os d) n
  same n inside' = let inside : n < length d = omega (arith, len) in (each n inside).shows ∙ sym (shown_after_all os d n inside)

-- a call that changes no shown block and adds nothing to what is held
pub ran_nothing : (d : List Shown) (h : Held) → Ran [] d h d h
ran_nothing d h = record { shows = refl; holds = λ n inside s m. m }

-- one run after another is the run of the joined list
pub ran-++ : (os ps : List Op) (d d₁ d₂ : List Shown) (h h₁ h₂ : Held) → Ran os d h d₁ h₁ → Ran ps d₁ h₁ d₂ h₂ → Ran (os ++ ps) d h d₂ h₂
ran-++ os ps d d₁ d₂ h h₁ h₂ one two = record { shows = two.shows ∙ ap (after_all ps) one.shows ∙ sym (after_all-++ os ps d); holds = kept } where
  kept : (n : ℕ) → n < length d → (s : List ℕ) → s ∈ h₂ n → s ∈ may_hold_all (os ++ ps) n (shown_at d n) (h n)
  kept n inside s m =
      let first = block_ran os d d₁ h h₁ one n inside in
      let inside₁ : n < length d₁ = omega (arith, ran_count one) in
      let i : s ∈ may_hold_all ps n (block_after_all os n (shown_at d n)) (h₁ n) = rw first.shows at (two.holds n inside₁ s m) in
      rw (may_hold_all-++ os ps n (shown_at d n) (h n)) (may_hold_all_among ps n (block_after_all os n (shown_at d n)) (h₁ n) (may_hold_all os n (shown_at d n) (h n)) first.holds s i)

-- an operation that names a block past the count changes nothing
pub ran_past : (o : Op) (d : List Shown) (h : Held) → length d ≤ target o → Ran (o ∷ []) d h d h
ran_past o d h past =
    record {
      shows = sym (set_past d (target o) (outcome o) past);
      holds = λ n inside s m. let ne : n ≡ target o → ⊥ = λ e. omega arith in rw (elsewhere o n (left_by o (shown_at d n) (h n)) (h n) ne) m;
    }

-- two runs of no operation are one: `ran-++` for such runs, in a form that the search can apply
pub ran_again : {d d₁ d₂ : List Shown} {h h₁ h₂ : Held} → Ran [] d h d₁ h₁ → Ran [] d₁ h₁ d₂ h₂ → Ran [] d h d₂ h₂
ran_again one two = ran-++ [] [] _ _ _ _ _ _ one two
