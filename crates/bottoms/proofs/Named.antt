-- The sectors that an image holds for a block: those of its places that aren't shown and aren't blank.
use Rattle.std.proofs.Common.{◌≡◌, ℕ, zero, suc, ◌+◌, ◌<◌, ◌≤◌, Bool, true, false, cond, not, ◌⊎◌, List, [], ◌∷◌, map, Some, None, filter, Option, sym, refl, ap, ◌∙◌, inl, inr, ⊎_elim, arith}
use mathlib.Core.List.Memᴰ
use Rattle.std.specs.List.{range_with_len}
use Rattle.std.proofs.lemmas.List.FromFn.{get_or-map-range_with_len}
use Rattle.std.proofs.lemmas.Bool.Decides.{nat_tests}
use Rattle.std.proofs.lemmas.Bool.{cases_Bool, cases_lt, and_parts, not-true}
use Rattle.device.specs.Blocks.{lost, sector, shown_at, ◌∈◌, is_blank}
use Rattle.device.specs.Operations.{joined}
use Rattle.device.proofs.Operations.{to_joined, kept_joined}
use Rattle.bottoms.specs.Formats.{Format}
use Rattle.bottoms.specs.Images.{count, state, place, showing, block, image_shown, hidden, is_held, image_held}
use Rattle.bottoms.specs.Named.{Named}
use Rattle.bottoms.proofs.Places.{byte_placed}

-- f at the k numbers from a on that pass a test
in_kept : (f : ℕ → List ℕ) (p : ℕ → Bool) (s : List ℕ) (a k : ℕ) → s ∈ map f (filter p (range_with_len a k)) → (j : ℕ) × (a ≤ j) × (j < a + k) × (p j ≡ true) × (s ≡ f j)
in_kept f p s a zero m = absurd (Memᴰ.not-nil m)
in_kept f p s a (suc k) m =
    let rest = filter p (range_with_len (a + 1) k) in
    let later : s ∈ map f rest → (j : ℕ) × (a ≤ j) × (j < a + suc k) × (p j ≡ true) × (s ≡ f j) = λ i. let r = in_kept f p s (a + 1) k i in (r.0, omega (arith, r.1), omega (arith, r.2), r.3, r.4) in
    elim (p a) as (λ b. p a ≡ b → s ∈ map f (cond b (a ∷ rest) rest) → (j : ℕ) × (a ≤ j) × (j < a + suc k) × (p j ≡ true) × (s ≡ f j)) [
      | true ↦ λ t i. ⊎_elim (λ (e : s ≡ f a). (a, omega arith, omega arith, t, e)) later (Memᴰ.cases_cons i)
      | false ↦ λ _. later
    ] refl m

kept_in : (f : ℕ → List ℕ) (p : ℕ → Bool) (a k j : ℕ) → a ≤ j → j < a + k → p j ≡ true → f j ∈ map f (filter p (range_with_len a k))
kept_in f p a zero j low high t = absurd (omega arith)
kept_in f p a (suc k) j low high t =
    let rest = filter p (range_with_len (a + 1) k) in
    let later : a < j → f j ∈ map f rest = λ l. kept_in f p (a + 1) k j (omega (arith, l)) (omega arith) t in
    elim (p a) as (λ b. p a ≡ b → f j ∈ map f (cond b (a ∷ rest) rest)) [
      | true ↦ λ _. ⊎_elim (λ (l : a < j). Memᴰ.tail (later l)) (λ (l : j ≤ a). let e : j ≡ a = omega arith in Memᴰ.head (ap f e)) (cases_lt a j)
      | false ↦ λ e. later (grind arith)
    ] refl

kept_same : (f g : ℕ → List ℕ) (p q : ℕ → Bool) (a k : ℕ) → ((j : ℕ) → a ≤ j → j < a + k → (f j ≡ g j) × (p j ≡ q j)) → map f (filter p (range_with_len a k)) ≡ map g (filter q (range_with_len a k))
kept_same f g p q a zero h = refl
kept_same f g p q a (suc k) h = let here = h a (omega arith) (omega arith) in let rest = kept_same f g p q (a + 1) k (λ j low high. h j (omega arith) (omega arith)) in grind arith

kept_none : (p : ℕ → Bool) (a k : ℕ) → ((j : ℕ) → a ≤ j → j < a + k → p j ≡ false) → filter p (range_with_len a k) ≡ []
kept_none p a zero h = refl
kept_none p a (suc k) h =
    let here = h a (omega arith) (omega arith) in
    let rest = kept_none p (a + 1) k (λ j low high. h j (omega arith) (omega arith)) in grind arith

-- the sectors that are held among p places
module _ (p : ℕ) where
  -- places alike, held alike
  pub held_same : (at at' : ℕ → List ℕ) (o : Option ℕ) → ((j : ℕ) → j < p → at j ≡ at' j)
      → map at (filter (is_held at o) (range_with_len 0 p)) ≡ map at' (filter (is_held at' o) (range_with_len 0 p))
  held_same at at' o h = kept_same at at' (is_held at o) (is_held at' o) 0 p (λ j _ l. let e = h j (omega arith) in (e, grind arith))

  pub held_blank : (at : ℕ → List ℕ) (o : Option ℕ) → ((j : ℕ) → j < p → is_blank (at j) ≡ true) → map at (filter (is_held at o) (range_with_len 0 p)) ≡ []
  held_blank at o h = ap (map at) (kept_none (is_held at o) 0 p (λ j _ l. let e = h j (omega arith) in grind (arith, nat_tests)))

  pub in_held : (at : ℕ → List ℕ) (o : Option ℕ) (s : List ℕ) → s ∈ map at (filter (is_held at o) (range_with_len 0 p))
      → (j : ℕ) × (j < p) × (hidden o j ≡ true) × (s ≡ at j) × (is_blank s ≡ false)
  in_held at o s m =
      let r = in_kept at (is_held at o) s 0 p m in
      let t = and_parts (hidden o r.0) (not (is_blank (at r.0))) r.3 in
      (r.0, omega (arith, r.2), t.0, r.4, ap is_blank r.4 ∙ not-true (is_blank (at r.0)) t.1)

  held_in : (at : ℕ → List ℕ) (o : Option ℕ) (j : ℕ) → j < p → hidden o j ≡ true → is_blank (at j) ≡ false → at j ∈ map at (filter (is_held at o) (range_with_len 0 p))
  held_in at o j low t b = kept_in at (is_held at o) 0 p j (omega arith) (omega arith) (grind (arith, nat_tests))

not_hidden : (o : Option ℕ) (j : ℕ) → hidden o j ≡ false → o ≡ Some j
not_hidden None j h = grind (arith, nat_tests)
not_hidden (Some k) j h = grind (arith, nat_tests)

module _ (F : Format) (m : List ℕ) (n : ℕ) where
  -- a place that isn't blank is shown or held
  place_named : (j : ℕ) → j < F.places → is_blank (place F m n j) ≡ false → (block F m n ≡ sector (place F m n j)) ⊎ (place F m n j ∈ image_held F m n)
  place_named j low b =
      ⊎_elim
      (λ (t : hidden (F.shows (state m n)) j ≡ true). inr (held_in F.places (place F m n) (F.shows (state m n)) j low t b))
      (λ (t : hidden (F.shows (state m n)) j ≡ false). inl (ap (showing (place F m n)) (not_hidden (F.shows (state m n)) j t)))
      (cases_Bool (hidden (F.shows (state m n)) j))

  -- so it is among what the block may hold once it shows something else
  pub place_joined : (j : ℕ) (s : List ℕ) → j < F.places → s ≡ place F m n j → is_blank s ≡ false → s ∈ joined (block F m n) (image_held F m n)
  place_joined j s low e b =
      ⊎_elim
      (λ (q : block F m n ≡ sector (place F m n j)). to_joined (block F m n) (image_held F m n) s (q ∙ ap sector (sym e)) b)
      (λ (i : place F m n j ∈ image_held F m n). kept_joined (block F m n) (image_held F m n) s (Memᴰ.cast e i))
      (place_named j low (ap is_blank (sym e) ∙ b))

pub shown_block : (F : Format) (m : List ℕ) (n : ℕ) → n < count F m → shown_at (image_shown F m) n ≡ block F m n
shown_block F m n h = get_or-map-range_with_len (block F m) 0 (count F m) n n lost h (omega arith)

pub image_named : (F : Format) (m : List ℕ) → Named F m
image_named F m =
    record {
      every = λ n j h low b. ⊎_elim (λ q. inl (shown_block F m n h ∙ q)) inr (place_named F m n j low b);
      only = λ n s i. let r = in_held F.places (place F m n) (F.shows (state m n)) s i in (r.0, r.1, r.3, r.4);
      covers = byte_placed F (count F m);
    }
