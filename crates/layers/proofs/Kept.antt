-- What a block of a layer keeps of what is shown and held below it.
use Rattle.std.proofs.Common.{◌≡◌, false, ◌⊎◌, List, ℕ, inl, inr, arith}
use Rattle.device.specs.Blocks.{Shown, sector, ◌∈◌, is_blank}
use Rattle.device.specs.Operations.{Op, write, wipe, lose, joined, left_by}
use Rattle.device.proofs.Operations.{Among, kept_joined, to_joined, from_joined}

-- A block shows c and holds kept there, and shows c' and holds kept' here: each sector that is kept there is kept here, but for blank ones.
pub record KeptBy (c : Shown) (kept : List (List ℕ)) (c' : Shown) (kept' : List (List ℕ)) : Type 0 where
  pub holds : Among kept kept'
  pub shows : (s : List ℕ) → is_blank s ≡ false → c ≡ sector s → (c' ≡ sector s) ⊎ (s ∈ kept')

module _ {c c' : Shown} {kept kept' : List (List ℕ)} (more : KeptBy c kept c' kept') where
  -- what is shown or held there is shown or held here
  pub keeps : (s : List ℕ) → is_blank s ≡ false → (c ≡ sector s) ⊎ (s ∈ kept) → (c' ≡ sector s) ⊎ (s ∈ kept')
  keeps s b k = elim k [ inl e ↦ more.shows s b e | inr m ↦ inr (more.holds s m) ]

  -- what joins there joins here, or was held here already
  joined_more : Among (joined c kept) (joined c' kept')
  joined_more s m = grind (arith, from_joined c kept s m, more.holds s, more.shows s, kept_joined c' kept' s, to_joined c' kept' s)

  -- so an operation on the block leaves no more there than here
  pub left_more : (o : Op) → Among (left_by o c kept) (left_by o c' kept')
  left_more (write n x) = joined_more
  left_more (wipe n) = λ s m. m
  left_more (lose n) = joined_more
