-- The places of a block, seen alone: they show what the image shows for it, and hold as many sectors.
use Rattle.std.proofs.Common.{◌≡◌, ℕ, ◌*◌, ◌/◌, ◌<◌, ◌≤◌, List, map, length, take, drop, filter, Option, sym, ap, ◌∙◌, arith}
use Rattle.std.specs.List.{range_with_len}
use Rattle.std.proofs.lemmas.List.{length-take-le, length-drop, length-map}
use Rattle.std.proofs.lemmas.List.Sums.{length-filter}
use Rattle.bottoms.specs.Formats.{Format, Lawful}
use Rattle.bottoms.specs.Images.{Located, Lent, state, place, place_in, showing, block, is_held, count_in, image_held}
use Rattle.bottoms.proofs.Bytes.{part_lent}
use Rattle.bottoms.proofs.Changes.{count_shown, showing_same}
use Rattle.bottoms.proofs.Named.{held_same, shown_block}

-- the state of block n is at i and its first place at a; the k bytes of its places are lent, and o is the place that the state shows
module _ (F : Format) (laws : Lawful F) (m : List ℕ) (n i a k : ℕ) (o : Option ℕ) (found : Located (length m) F.places n i a) (wide : k ≡ 64 * F.places) (says : o ≡ F.shows (state m i)) where
  abbrev lent : List ℕ
  lent = take k (drop a m)

  says_here : o ≡ F.shows (state m n)
  says_here = says ∙ ap (λ (j : ℕ). F.shows (state m j)) found.index

  same_place : (j : ℕ) → j < F.places → place_in lent j ≡ place F m n j
  same_place j low = part_lent m a k (64 * j) (omega arith) ∙ ap (λ (b : ℕ). take 64 (drop b m)) (omega (arith, found.start))

  same_block : showing (place_in lent) o ≡ block F m n
  same_block =
      ap (showing (place_in lent)) says_here
      ∙ showing_same (place_in lent) (place F m n) (F.shows (state m n)) (λ j e. same_place j (laws.shows_below (state m n) j e))

  long : length lent / 64 ≡ F.places
  long =
      let room : k ≤ length (drop a m) = simp length-drop (omega (arith, found.inside)) in
      omega (arith, length-take-le k (drop a m) room)

  same_held : count_in lent o ≡ length (image_held F m n)
  same_held =
      sym (length-filter (is_held (place_in lent) o) (range_with_len 0 (length lent / 64)))
      ∙ sym (length-map (filter (is_held (place_in lent) o) (range_with_len 0 (length lent / 64))) (place_in lent))
      ∙ ap (λ (q : ℕ). length (map (place_in lent) (filter (is_held (place_in lent) o) (range_with_len 0 q)))) long
      ∙ ap length (held_same F.places (place_in lent) (place F m n) o same_place)
      ∙ ap (λ (x : Option ℕ). length (map (place F m n) (filter (is_held (place F m n) x) (range_with_len 0 F.places)))) says_here

  pub lent_is : Lent F m n lent o
  lent_is =
      record {
        below = omega (arith, found.below, count_shown F m);
        shows = same_block ∙ sym (shown_block F m n found.below);
        holds = same_held;
      }
