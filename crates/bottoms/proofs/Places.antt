-- Where the places of a block lie: inside the image, after the states, and apart from those of other blocks.
use Rattle.std.proofs.Common.{◌≡◌, ℕ, ◌+◌, ◌-◌, ◌*◌, ◌/◌, ◌%◌, ◌<◌, ◌≤◌, true, List, length, ap, arith}
use Rattle.std.proofs.lemmas.Bool.Decides.{nat_tests}
use Rattle.bottoms.specs.Formats.{Format}
use Rattle.bottoms.specs.Images.{span, blocks_in, count, place_at}
use Rattle.bottoms.specs.Opening.{fits}

-- the count follows from the length alone
pub count_same : (F : Format) (m m' : List ℕ) → length m' ≡ length m → count F m' ≡ count F m
count_same F m m' e = ap (λ (l : ℕ). blocks_in l F.places) e

-- memory that opens as n blocks has n blocks
pub count_fits : (places len n : ℕ) → fits places len n ≡ true → blocks_in len places ≡ n
count_fits places len n h = grind (arith, nat_tests)

-- all places of block n end before those of a later block begin
pub places_before : (p k n : ℕ) → k < n → p * k + p ≤ p * n
places_before p k n h = grind arith

-- every block below the count has its state and its places inside the image
pub places_inside : (len p n : ℕ) → n < blocks_in len p → blocks_in len p + 64 * (p * n + p) ≤ len
places_inside len p n h = grind (arith, places_before)

-- every byte after the states is one of a place
pub byte_placed : (F : Format) (c i : ℕ) → c ≤ i → i < span F.places * c
    → (n : ℕ) × (j : ℕ) × (k : ℕ) × (n < c) × (j < F.places) × (k < 64) × (i ≡ place_at F c n j + k)
byte_placed F c i low high =
    let q : ℕ = (i - c) / 64 in (q / F.places, q % F.places, (i - c) % 64, grind arith, grind arith, grind arith, grind arith)
