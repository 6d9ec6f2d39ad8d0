-- Where a held sector comes from: it was held or shown before, or was written.
use Rattle.std.proofs.Common.{◌≡◌, ℕ, ◌<◌, true, false, cond, eqb, ◌⊎◌, List, [], ◌∷◌, length, sym, refl, ap, ◌∙◌, inl, inr, arith}
use mathlib.Core.List.Memᴰ
use Rattle.std.proofs.lemmas.Bool.{cases_eq, eq-eqb}
use Rattle.device.specs.Blocks.{Shown, sector, shown_at, Held, ◌∈◌, blank, is_blank}
use Rattle.device.specs.Operations.{Op, write, wipe, lose, target, outcome, block_after, joined, left_by, may_hold, may_hold_all, Ran}
use Rattle.device.specs.Forgetting.{ForgotAllBut}
use Rattle.device.proofs.Operations.{at_target, elsewhere, from_joined, block_changed, block_ran, ran_count, shown_after_all, ran-++}

-- where a sector that may join comes from
in_joined : (c : Shown) (kept : List (List ℕ)) (x : List ℕ) → x ∈ joined c kept → (c ≡ sector x) ⊎ (x ∈ kept)
in_joined c kept x m = elim (from_joined c kept x m) [ inl k ↦ inr k | inr e ↦ inl e.0 ]

in_left : (o : Op) (c : Shown) (kept : List (List ℕ)) (x : List ℕ) → x ∈ left_by o c kept → (c ≡ sector x) ⊎ (x ∈ kept)
in_left (write n s) c kept x m = in_joined c kept x m
in_left (wipe n) c kept x m = absurd (Memᴰ.not-nil m)
in_left (lose n) c kept x m = in_joined c kept x m

in_may_hold : (o : Op) (n : ℕ) (c : Shown) (kept : List (List ℕ)) (x : List ℕ) → x ∈ may_hold o n c kept → (c ≡ sector x) ⊎ (x ∈ kept)
in_may_hold o n c kept x m = elim (eqb n (target o)) as (λ b. x ∈ cond b (left_by o c kept) kept → (c ≡ sector x) ⊎ (x ∈ kept)) [ true ↦ in_left o c kept x | false ↦ inr ] m

-- a sector that isn't blank is shown after an operation only if that wrote it, or if it was shown before
shown_by : (o : Op) (x : List ℕ) → is_blank x ≡ false → outcome o ≡ sector x → o ≡ write (target o) x
shown_by (write n s) x b e = cc
shown_by (wipe n) x b e = let z : blank ≡ x = cc in cc (ap is_blank z)
shown_by (lose n) x b e = cc

block_by : (o : Op) (n : ℕ) (c : Shown) (x : List ℕ) → is_blank x ≡ false → block_after o n c ≡ sector x → (c ≡ sector x) ⊎ (write n x ≡ o)
block_by o n c x b e =
    elim (cases_eq n (target o)) [
      | inl here ↦ inr (cc (shown_by o x b (sym (at_target o n (outcome o) c here) ∙ e)))
      | inr ne ↦ inl (sym (elsewhere o n (outcome o) c ne) ∙ e)
    ]

-- Whatever operations a block goes through, a sector that isn't blank and that it may hold then was held or shown before, or was written to it.
pub held_from : (os : List Op) (n : ℕ) (c : Shown) (kept : List (List ℕ)) (x : List ℕ) → is_blank x ≡ false → x ∈ may_hold_all os n c kept
    → (c ≡ sector x) ⊎ ((x ∈ kept) ⊎ (write n x ∈ os))
held_from [] n c kept x b m = inr (inl m)
held_from (o ∷ os) n c kept x b m =
    elim (held_from os n (block_after o n c) (may_hold o n c kept) x b m) [
      | inl e ↦ elim (block_by o n c x b e) [ inl k ↦ inl k | inr w ↦ inr (inr (Memᴰ.head w)) ]
      | inr r ↦ elim r [
        | inl i ↦ elim (in_may_hold o n c kept x i) [ inl k ↦ inl k | inr k ↦ inr (inl k) ]
        | inr w ↦ inr (inr (Memᴰ.tail w))
      ]
    ]

-- A block that shows s and holds nothing has forgotten all but s.
pub forgot_all_but : (s : List ℕ) (n : ℕ) (d : List Shown) (h : Held) → n < length d → shown_at d n ≡ sector s → ((x : List ℕ) → x ∈ h n → ⊥) → ForgotAllBut s n d h
forgot_all_but s n d h inside shows none os d' h' run x m b =
    elim (held_from os n (shown_at d n) (h n) x b (run.holds n inside x m)) [
      | inl e ↦ inl cc
      | inr r ↦ elim r [ inl i ↦ absurd (none x i) | inr w ↦ inr w ]
    ]

-- A wipe and then a write of block n: the block holds nothing and has forgotten all but what was written.
module _ (n : ℕ) (x : List ℕ) (d d₁ d₂ : List Shown) (h h₁ h₂ : Held) (wiped : Ran (wipe n ∷ []) d h d₁ h₁) (written : Ran (write n x ∷ []) d₁ h₁ d₂ h₂) (inside : n < length d) where
  run : Ran (wipe n ∷ write n x ∷ []) d h d₂ h₂
  run = ran-++ (wipe n ∷ []) (write n x ∷ []) d d₁ d₂ h h₁ h₂ wiped written

  pub replaced_holds_nothing : (s : List ℕ) → s ∈ h₂ n → ⊥
  replaced_holds_nothing s m = Memᴰ.not-nil (simp (eq-eqb n n refl) at (run.holds n inside s m))

  pub replaced_forgot : ForgotAllBut x n d₂ h₂
  replaced_forgot = forgot_all_but x n d₂ h₂ here shows replaced_holds_nothing where
    here : n < length d₂
    here = omega (arith, ran_count run)

    shows : shown_at d₂ n ≡ sector x
    shows = rw (run.shows, shown_after_all (wipe n ∷ write n x ∷ []) d n inside) (simp (eq-eqb n n refl))

-- A wiped block shows zeros and holds nothing.
pub wiped : (n : ℕ) (d d' : List Shown) (h h' : Held) → Ran (wipe n ∷ []) d h d' h' → n < length d → (x : List ℕ) → is_blank x ≡ false → (shown_at d' n ≡ sector x) ⊎ (x ∈ h' n) → ⊥
wiped n d d' h h' run inside x b kept =
    let here = block_changed (wipe n) n refl (shown_at d n) (h n) (shown_at d' n) (h' n) (block_ran (wipe n ∷ []) d d' h h' run n inside) in
    elim kept [
      | inl e ↦ cc
      | inr m ↦ Memᴰ.not-nil (here.1 x m)
    ]
