-- Nothing is kept that the meaning of an image doesn't name.
use Rattle.std.specs.Prelude.{◌≡◌, ℕ, ◌+◌, ◌*◌, ◌<◌, ◌≤◌, false, ◌⊎◌, List}
use Rattle.device.specs.Blocks.{sector, shown_at, ◌∈◌, is_blank}
use Rattle.bottoms.specs.Formats.{Format}
use Rattle.bottoms.specs.Images.{span, count, place_at, place, image_shown, image_held}

pub record Named (F : Format) (m : List ℕ) : Type 0 where
  -- every place that isn't blank is shown or held for its block
  pub every : (n j : ℕ) → n < count F m → j < F.places → is_blank (place F m n j) ≡ false
      → (shown_at (image_shown F m) n ≡ sector (place F m n j)) ⊎ (place F m n j ∈ image_held F m n)
  -- every sector held for a block is a place of the block that isn't blank
  pub only : (n : ℕ) (s : List ℕ) → s ∈ image_held F m n → (j : ℕ) × (j < F.places) × (s ≡ place F m n j) × (is_blank s ≡ false)
  -- every byte after the states is one of a place, up to the length that an image of so many blocks has
  pub covers : (i : ℕ) → count F m ≤ i → i < span F.places * count F m
      → (n : ℕ) × (j : ℕ) × (k : ℕ) × (n < count F m) × (j < F.places) × (k < 64) × (i ≡ place_at F (count F m) n j + k)
