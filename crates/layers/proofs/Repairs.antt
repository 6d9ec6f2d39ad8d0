-- A block of a mirror repaired: both sides show what the mirror shows, and nothing more is held.
use Rattle.std.proofs.Common.{◌≡◌, ℕ, false, ◌⊎◌, List, [], ◌∷◌, sym, refl, ◌∙◌, inl, inr, arith}
use Rattle.std.proofs.lemmas.Slice.Eq.{bytes_eq-Decides}
use Rattle.std.proofs.lemmas.Bool.{cases_Bool, cases_eq}
use Rattle.std.specs.Str.{bytes_eq}
use Rattle.device.specs.Blocks.{Shown, lost, sector, shown_at, Held}
use Rattle.device.specs.Answers.{accepted, read_answer, read_buffer}
use Rattle.device.specs.Operations.{write, Ran}
use Rattle.device.proofs.Answers.{read_accepted}
use Rattle.device.proofs.Operations.{Among, from_joined, BlockRan, block_untouched, block_changed, ran-++}
use Rattle.layers.specs.Mirroring.{pick, mirror_shown, mirror_held, shows_sector, mending, repairing}
use Rattle.layers.proofs.Kept.{KeptBy}
use Rattle.layers.proofs.MirrorRuns.{mirror_at, Both, mirror_ran, both_ran, held_within, none_hidden, first_kept, second_kept}

-- a side is written, or it shows the sector already
mending_cases : (n : ℕ) (s : List ℕ) (c : Shown) → ((mending n s c ≡ []) × (c ≡ sector s)) ⊎ ((mending n s c ≡ write n s ∷ []) × (c ≡ sector s → ⊥))
mending_cases n s lost = inr (refl, λ e. cc)
mending_cases n s (sector t) =
    elim (cases_Bool (bytes_eq s t)) [
      | inl same ↦ inl (rw same, cc ((bytes_eq-Decides s t).0 same))
      | inr other ↦ inr (rw other, λ e. cc ((bytes_eq-Decides s t).1 (cc)))
    ]

-- the sector isn't shown, and it is written
pub mend_written : {n : ℕ} {s : List ℕ} {d d₁ d₂ : List Shown} {h h₁ h₂ : Held} → false ≡ shows_sector s (shown_at d n) → Ran [] d h d₁ h₁ → Ran (write n s ∷ []) d₁ h₁ d₂ h₂
    → Ran (mending n s (shown_at d n)) d h d₂ h₂
mend_written {n} {s} other read run = rw (← other) (ran-++ [] (write n s ∷ []) _ _ _ _ _ _ read run)

-- Block n of a mirror shows s, and each side is mended.
module _ (n : ℕ) (s : List ℕ) where
  -- a side then shows s as well, and holds nothing that the mirror didn't hold
  pub mended : {c c' shown : Shown} {kept kept' held : List (List ℕ)} → KeptBy c kept shown held → shown ≡ sector s → BlockRan (mending n s c) n c kept c' kept'
      → (c' ≡ sector s) × Among kept' held
  mended {c} {c'} {kept = kept} {kept'} more same run =
      elim (mending_cases n s c) [
        | inl done ↦ (let still = rw done.0 at run in (still.shows ∙ done.1, λ x m. more.holds x (still.holds x m)))
        | inr todo ↦
            (let b = block_changed (write n s) n refl c kept c' kept' (rw todo.0 at run) in
            (b.0, λ x m. grind (arith, from_joined c kept x (b.1 x m), more.holds x, more.shows x)))
      ]

  -- so the mirror shows what it showed, and holds no more
  both_mended : {a b a' b' : Shown} {ka kb ka' kb' : List (List ℕ)} → pick a b ≡ sector s → BlockRan (mending n s a) n a ka a' ka' → BlockRan (mending n s b) n b kb b' kb'
      → Both [] n a ka b kb a' ka' b' kb'
  both_mended {a} {b} {a'} {b'} {ka} {kb} {ka'} {kb'} shown first second =
      let x = mended (first_kept a b ka kb) shown first in
      let y = mended (second_kept a b ka kb) shown second in
      record { shows = rw (x.0, shown); holds = held_within a' b' ka' kb' x.1 y.1 (none_hidden (x.0 ∙ sym y.0)) }

  -- the other blocks stay
  pub untouched : (x : Shown) {m : ℕ} {c c' : Shown} {kept kept' : List (List ℕ)} → (m ≡ n → ⊥) → BlockRan (mending n s x) m c kept c' kept' → BlockRan [] m c kept c' kept'
  untouched x {m} {c} {c'} {kept} {kept'} ne run =
      elim (mending_cases n s x) [ inl done ↦ rw done.0 at run | inr todo ↦ block_untouched (write n s) m ne c kept c' kept' (rw todo.0 at run) ]

-- A side is mended after the mirror was read.
pub side_mended : (n : ℕ) (s : List ℕ) {d d₁ d₂ : List Shown} {h h₁ h₂ : Held} → Ran [] d h d₁ h₁ → Ran (mending n s (shown_at d₁ n)) d₁ h₁ d₂ h₂
    → Ran (mending n s (shown_at d n)) d h d₂ h₂
side_mended n s {d₁ = d₁} read run = rw read.shows at (ran-++ [] (mending n s (shown_at d₁ n)) _ _ _ _ _ _ read run)

-- The mirror was read, and shows s for block n.
module _ (n : ℕ) (s buffer : List ℕ) (a b : List Shown) (answered : accepted tt ≡ read_answer (mirror_shown a b) n) (filled : s ≡ read_buffer (mirror_shown a b) n buffer) where
  shown : shown_at (mirror_shown a b) n ≡ sector s
  shown = rw filled (read_accepted (mirror_shown a b) n buffer answered)

  -- then what a side is mended with is what repair writes to it
  pub side_repaired : {d d₁ d₂ : List Shown} {h h₁ h₂ : Held} → Ran [] d h d₁ h₁ → Ran (mending n s (shown_at d₁ n)) d₁ h₁ d₂ h₂
      → Ran (repairing n (shown_at (mirror_shown a b) n) (shown_at d n)) d h d₂ h₂
  side_repaired read run = rw shown (side_mended n s read run)

  -- both sides are mended at block n: nothing happens to the mirror
  pub both_repaired : {a' b' : List Shown} {ha hb ha' hb' : Held} → Ran (mending n s (shown_at a n)) a ha a' ha' → Ran (mending n s (shown_at b n)) b hb b' hb'
      → Ran [] (mirror_shown a b) (mirror_held a b ha hb) (mirror_shown a' b') (mirror_held a' b' ha' hb')
  both_repaired first second = mirror_ran [] first second (λ m l x y.
      elim (cases_eq m n) [
        | inl e ↦ both_mended m s (sym (mirror_at a b m l) ∙ rw e shown) (rw (← e) at x) (rw (← e) at y)
        | inr ne ↦ both_ran [] (untouched n s (shown_at a n) ne x) (untouched n s (shown_at b n) ne y)
      ])
