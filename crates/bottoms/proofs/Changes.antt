-- What write, wipe and mark make of an image: one block changes, and what is held for it is what the operation lets it hold.
use Rattle.std.proofs.Common.{◌≡◌, ℕ, ◌+◌, ◌-◌, ◌*◌, ◌<◌, ◌≤◌, true, eqb, ltb, ◌⊎◌, List, [], ◌∷◌, map, length, take, set, replicate, Some, None, filter, Option, sym, refl, ap, ◌∙◌, subst, inl, inr, ⊎_elim, arith}
use Rattle.std.specs.List.{range_with_len}
use Rattle.std.proofs.lemmas.List.FromFn.{length-map-range_with_len}
use Rattle.std.proofs.lemmas.List.{length-set, get_or-set_same, get_or-set_other, length-replicate, drop-replicate, take-replicate, take_all}
use Rattle.std.proofs.lemmas.Bool.{cases_eq, cases_lt, cond_both, both_ways, eq-eqb, ltb-true, ltb-false, not-true}
use Rattle.device.specs.Blocks.{sector, shown_at, ◌∈◌, blank, is_blank}
use Rattle.device.specs.Operations.{Op, write, wipe, lose, target, outcome, left_by}
use Rattle.device.proofs.Operations.{Among, BlockRan, block_here, block_elsewhere, ran_by_block, ran_past}
use Rattle.bottoms.specs.Formats.{Format, Lawful}
use Rattle.bottoms.specs.Images.{count, state, part, place_at, place, showing, block, image_shown, hidden, is_held, image_held, overwritten, if_block, write_image, wipe_image, mark_image, Runs}
use Rattle.bottoms.proofs.Bytes.{part_set, length_over, byte_over_before, part_over_before, part_over_after, part_over_inside}
use Rattle.bottoms.proofs.Named.{held_same, held_blank, in_held, place_joined, shown_block}
use Rattle.bottoms.proofs.Places.{count_same, places_before, places_inside}

-- as many blocks are shown as there are
pub count_shown : (F : Format) (m : List ℕ) → length (image_shown F m) ≡ count F m
count_shown F m = length-map-range_with_len (block F m) 0 (count F m)

pub showing_same : (at at' : ℕ → List ℕ) (o : Option ℕ) → ((j : ℕ) → o ≡ Some j → at j ≡ at' j) → showing at o ≡ showing at' o
showing_same at at' None h = refl
showing_same at at' (Some j) h = ap sector (h j refl)

-- m' is m but for the block that an operation names
module _ (F : Format) (laws : Lawful F) (m m' : List ℕ) (o : Op) (len : length m' ≡ length m)
    (states : (k : ℕ) → k < count F m → (k ≡ target o → ⊥) → state m' k ≡ state m k)
    (places : (k j : ℕ) → k < count F m → (k ≡ target o → ⊥) → j < F.places → place F m' k j ≡ place F m k j) where
  block_there : (k : ℕ) → k < count F m → (k ≡ target o → ⊥) → block F m' k ≡ block F m k
  block_there k h ne =
      ap (λ (s : ℕ). showing (place F m' k) (F.shows s)) (states k h ne)
      ∙ showing_same (place F m' k) (place F m k) (F.shows (state m k)) (λ j e. places k j h ne (laws.shows_below (state m k) j e))

  held_there : (k : ℕ) → k < count F m → (k ≡ target o → ⊥) → image_held F m' k ≡ image_held F m k
  held_there k h ne =
      ap (λ (s : ℕ). map (place F m' k) (filter (is_held (place F m' k) (F.shows s)) (range_with_len 0 F.places))) (states k h ne)
      ∙ held_same F.places (place F m' k) (place F m k) (F.shows (state m k)) (λ j low. places k j h ne low)

  abbrev Went : ℕ → Type 0
  Went k = BlockRan (o ∷ []) k (block F m k) (image_held F m k) (block F m' k) (image_held F m' k)

  -- the operation that the block went through
  runs_op : block F m' (target o) ≡ outcome o → Among (image_held F m' (target o)) (left_by o (block F m (target o)) (image_held F m (target o))) → Runs F (o ∷ []) m m'
  runs_op here kept = ran_by_block (o ∷ []) (image_shown F m) (image_shown F m') (image_held F m) (image_held F m') (omega (arith, same, count_shown F m, count_shown F m')) each where
    same : count F m' ≡ count F m
    same = count_same F m m' len

    went : (k : ℕ) → k < count F m → Went k
    went k h =
        ⊎_elim
        (λ (e : k ≡ target o). subst Went (sym e) (block_here o (target o) refl _ _ _ _ here kept))
        (λ (ne : k ≡ target o → ⊥). block_elsewhere o k ne _ _ _ _ (record { shows = block_there k h ne; holds = λ s i. subst (λ (l : List (List ℕ)). s ∈ l) (held_there k h ne) i }))
        (cases_eq k (target o))

    each : (k : ℕ) → k < length (image_shown F m) → BlockRan (o ∷ []) k (shown_at (image_shown F m) k) (image_held F m k) (shown_at (image_shown F m') k) (image_held F m' k)
    each k l =
        let h : k < count F m = omega (arith, count_shown F m) in
        let h' : k < count F m' = omega (arith, same) in
        rw (shown_block F m k h, shown_block F m' k h') (went k h)

-- block n of an image
module _ (F : Format) (laws : Lawful F) (m : List ℕ) (n : ℕ) (lt : n < count F m) where
  abbrev first : ℕ
  first = place_at F (count F m) n 0

  inside : first + 64 * F.places ≤ length m
  inside = omega (arith, places_inside (length m) F.places n lt)

  -- where an image of the same length has its places
  place_is : (m' : List ℕ) (k j : ℕ) → length m' ≡ length m → place F m' k j ≡ part m' (place_at F (count F m) k j)
  place_is m' k j e = ap (λ (c : ℕ). part m' (place_at F c k j)) (count_same F m m' e)

  state_set : (v : ℕ) → state (set m n v) n ≡ v
  state_set v = let h : n < length m = omega (arith, inside) in get_or-set_same m n v 0 h

  place_set : (v k j : ℕ) → place F (set m n v) k j ≡ place F m k j
  place_set v k j = place_is (set m n v) k j (length-set m n v) ∙ part_set m n v (place_at F (count F m) k j) (omega arith)

  -- a place that stays as it was and isn't shown any more is one that the block may hold
  stays_joined : (m' : List ℕ) (o : Option ℕ) → F.shows (state m' n) ≡ o → ((j : ℕ) → j < F.places → hidden o j ≡ true → place F m' n j ≡ place F m n j)
      → (s : List ℕ) → s ∈ image_held F m' n → s ∈ left_by (lose n) (block F m n) (image_held F m n)
  stays_joined m' o e same s i =
      let r = in_held F.places (place F m' n) (F.shows (state m' n)) s i in
      place_joined F m n r.0 s r.1 (r.3 ∙ same r.0 r.1 (subst (λ (x : Option ℕ). hidden x r.0 ≡ true) e r.2)) r.4

  runs_mark : Runs F (lose n ∷ []) m (set m n (F.marked (state m n)))
  runs_mark =
      runs_op F laws m (set m n v) (lose n) (length-set m n v) (λ k h ne. get_or-set_other m n k v 0 ne) (λ k j h ne low. place_set v k j)
      (ap (showing (place F (set m n v) n)) shows)
      (stays_joined (set m n v) None shows (λ j low t. place_set v n j)) where
        v : ℕ
        v = F.marked (state m n)

        shows : F.shows (state (set m n v) n) ≡ None
        shows = ap F.shows (state_set v) ∙ laws.marked_lost (state m n)

  -- state v, and bytes written over the places of block n
  module _ (v a : ℕ) (ys : List ℕ) (low : first ≤ a) (high : a + length ys ≤ first + 64 * F.places) where
    abbrev changed : List ℕ
    changed = overwritten a ys (set m n v)

    room : a + length ys ≤ length (set m n v)
    room = simp length-set (omega (arith, inside))

    changed_length : length changed ≡ length m
    changed_length = length_over a ys (set m n v) room ∙ length-set m n v

    changed_state : state changed n ≡ v
    changed_state = byte_over_before a ys (set m n v) room n (omega arith) ∙ state_set v

    changed_states : (k : ℕ) → k < count F m → (k ≡ n → ⊥) → state changed k ≡ state m k
    changed_states k h ne = byte_over_before a ys (set m n v) room k (omega arith) ∙ get_or-set_other m n k v 0 ne

    -- a place that ends before the bytes or begins after them
    place_outside : (k j : ℕ) → (place_at F (count F m) k j + 64 ≤ a) ⊎ (a + length ys ≤ place_at F (count F m) k j) → place F changed k j ≡ place F m k j
    place_outside k j apart =
        place_is changed k j changed_length
        ∙ ⊎_elim (part_over_before a ys (set m n v) room (place_at F (count F m) k j)) (part_over_after a ys (set m n v) room (place_at F (count F m) k j)) apart
        ∙ part_set m n v (place_at F (count F m) k j) (omega arith)

    changed_places : (k j : ℕ) → k < count F m → (k ≡ n → ⊥) → j < F.places → place F changed k j ≡ place F m k j
    changed_places k j h ne l =
        place_outside k j
        (⊎_elim (λ (b : k < n). inl (omega (arith, places_before F.places k n b))) (λ (b : n ≤ k). let g : n < k = omega arith in inr (omega (arith, places_before F.places n k g))) (cases_lt k n))

    place_inside : (j b : ℕ) → place_at F (count F m) n j ≡ a + b → b + 64 ≤ length ys → place F changed n j ≡ part ys b
    place_inside j b e h = place_is changed n j changed_length ∙ ap (part changed) e ∙ part_over_inside a ys (set m n v) room b h

  runs_write : (s : List ℕ) → length s ≡ 64 → Runs F (write n s ∷ []) m (overwritten (place_at F (count F m) n (F.next (state m n))) s (set m n (F.next (state m n))))
  runs_write s len =
      runs_op F laws m m' (write n s) (changed_length v a s low high) (changed_states v a s low high) (changed_places v a s low high)
      (ap (showing (place F m' n)) shows ∙ ap sector filled)
      (stays_joined m' (Some v) shows others) where
        v : ℕ
        v = F.next (state m n)

        a : ℕ
        a = place_at F (count F m) n v

        m' : List ℕ
        m' = overwritten a s (set m n v)

        low : first ≤ a
        low = omega arith

        high : a + length s ≤ first + 64 * F.places
        high = omega (arith, laws.next_below (state m n))

        shows : F.shows (state m' n) ≡ Some v
        shows = ap F.shows (changed_state v a s low high) ∙ laws.next_shows (state m n)

        filled : place F m' n v ≡ s
        filled = let le : length s ≤ 64 = omega arith in place_inside v a s low high v 0 (omega arith) (omega arith) ∙ take_all 64 s le

        others : (j : ℕ) → j < F.places → hidden (Some v) j ≡ true → place F m' n j ≡ place F m n j
        others j l t =
            let ne : j ≡ v → ⊥ = λ e. both_ways (eqb j v) (not-true (eqb j v) t) (eq-eqb j v e) in
            place_outside v a s low high n j (⊎_elim (λ (b : j < v). inl (omega arith)) (λ (b : v ≤ j). inr (omega arith)) (cases_lt j v))

  runs_wipe : Runs F (wipe n ∷ []) m (overwritten first (replicate (64 * F.places) 0) (set m n 0))
  runs_wipe =
      runs_op F laws m m' (wipe n) (changed_length 0 first zeros low high) (changed_states 0 first zeros low high) (changed_places 0 first zeros low high)
      (ap (showing (place F m' n)) shows ∙ ap sector (cleared 0 (laws.shows_below 0 0 laws.wiped_shows)))
      (λ s i. subst (λ (l : List (List ℕ)). s ∈ l) (held_blank F.places (place F m' n) (F.shows (state m' n)) (λ j l. ap is_blank (cleared j l))) i) where
        zeros : List ℕ
        zeros = replicate (64 * F.places) 0

        m' : List ℕ
        m' = overwritten first zeros (set m n 0)

        low : first ≤ first
        low = omega arith

        long : length zeros ≡ 64 * F.places
        long = length-replicate (64 * F.places) 0

        high : first + length zeros ≤ first + 64 * F.places
        high = omega (arith, long)

        shows : F.shows (state m' n) ≡ Some 0
        shows = ap F.shows (changed_state 0 first zeros low high) ∙ laws.wiped_shows

        cleared : (j : ℕ) → j < F.places → place F m' n j ≡ blank
        cleared j l =
            let h : 64 ≤ 64 * F.places - 64 * j = omega arith in
            place_inside 0 first zeros low high j (64 * j) (omega arith) (omega (arith, long))
            ∙ ap (take 64) (drop-replicate (64 * j) (64 * F.places) 0) ∙ take-replicate 64 (64 * F.places - 64 * j) 0 h

-- an image that a call makes: an operation of a block below the count, nothing past it
call_runs : (F : Format) (m m₁ m' : List ℕ) (o : Op) → (target o < count F m → Runs F (o ∷ []) m m₁) → m' ≡ if_block F m (target o) m₁ → Runs F (o ∷ []) m m'
call_runs F m m₁ m' o run e =
    subst (Runs F (o ∷ []) m) (sym e)
    (cond_both (ltb (target o) (count F m)) m₁ m (Runs F (o ∷ []) m)
    (λ t. run (ltb-true (target o) (count F m) t))
    (λ t. ran_past o (image_shown F m) (image_held F m) (omega (arith, ltb-false (target o) (count F m) t, count_shown F m))))

-- each call's image is what its operation makes of what is shown and held
module _ (F : Format) (laws : Lawful F) (m m' : List ℕ) (n : ℕ) where
  pub write_runs : (s : List ℕ) → length s ≡ 64 → m' ≡ write_image F m n s → Runs F (write n s ∷ []) m m'
  write_runs s len = call_runs F m _ m' (write n s) (λ lt. runs_write F laws m n lt s len)

  pub wipe_runs : m' ≡ wipe_image F m n → Runs F (wipe n ∷ []) m m'
  wipe_runs = call_runs F m _ m' (wipe n) (runs_wipe F laws m n)

  pub mark_runs : m' ≡ mark_image F m n → Runs F (lose n ∷ []) m m'
  mark_runs = call_runs F m _ m' (lose n) (runs_mark F laws m n)
