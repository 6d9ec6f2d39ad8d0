-- What a mirror shows and holds, as its sides change.
use Rattle.std.proofs.Common.{◌≡◌, ℕ, zero, suc, ◌<◌, min, false, eqb, ◌⊎◌, List, [], ◌∷◌, ◌++◌, length, refl, ap, ◌∙◌, ap₂, inl, inr, arith}
use mathlib.Core.List.Memᴰ
use Rattle.std.proofs.lemmas.Slice.Eq.{bytes_eq-Decides}
use Rattle.std.proofs.lemmas.Bool.{cases_Bool}
use Rattle.device.specs.Blocks.{Shown, lost, sector, shown_at, Held, ◌∈◌, is_blank}
use Rattle.device.specs.Operations.{Op, target, outcome, block_after, may_hold, block_after_all, Ran}
use Rattle.device.proofs.Operations.{ran_count, Among, to_joined, may_hold_all_among, BlockRan, block_ran, ran_by_block}
use Rattle.layers.specs.Mirroring.{pick, mirror_shown, hidden, held_both, mirror_held}
use Rattle.layers.proofs.Kept.{KeptBy, left_more}

-- as many blocks as the smaller side has
pub mirror_count : (a b : List Shown) → length (mirror_shown a b) ≡ min (length a) (length b)
mirror_count [] b = omega arith
mirror_count (x ∷ a) [] = omega arith
mirror_count (x ∷ a) (y ∷ b) = omega (arith, mirror_count a b)

pub within_both : (a b : List Shown) (n : ℕ) → n < length (mirror_shown a b) → (n < length a) × (n < length b)
within_both a b n l = omega (arith, mirror_count a b)

pub mirror_at : (a b : List Shown) (n : ℕ) → n < length (mirror_shown a b) → shown_at (mirror_shown a b) n ≡ pick (shown_at a n) (shown_at b n)
mirror_at [] b n h = absurd (omega arith)
mirror_at (x ∷ a) [] n h = absurd (omega arith)
mirror_at (x ∷ a) (y ∷ b) zero h = refl
mirror_at (x ∷ a) (y ∷ b) (suc n) h = mirror_at a b n (omega arith)

-- two sides that show the same
pick_same : (c : Shown) → pick c c ≡ c
pick_same lost = refl
pick_same (sector s) = refl

hidden_same : (c : Shown) → hidden c c ≡ []
hidden_same lost = refl
hidden_same (sector s) = rw ((bytes_eq-Decides s s).1 refl)

-- of two sides that show the same, nothing is hidden
pub none_hidden : {a b : Shown} {xs : List (List ℕ)} → a ≡ b → Among (hidden a b) xs
none_hidden e s m = absurd (Memᴰ.not-nil (rw (e, hidden_same) at m))

-- what the second side shows is shown by the mirror or hidden
pub seen : (a b : Shown) (s : List ℕ) → b ≡ sector s → is_blank s ≡ false → (pick a b ≡ sector s) ⊎ (s ∈ hidden a b)
seen lost b s e n = inl e
seen (sector x) b s e n = grind (arith, bytes_eq-Decides x s, to_joined (sector s) [] s refl n)

-- the three parts of what a mirror holds
module _ (a b : Shown) (ka kb : List (List ℕ)) where
  pub in_hidden : Among (hidden a b) (held_both a b ka kb)
  in_hidden s m = Memᴰ.append_right (ka ++ kb) m

  pub held_within : {xs : List (List ℕ)} → Among ka xs → Among kb xs → Among (hidden a b) xs → Among (held_both a b ka kb) xs
  held_within first second third s m = grind (arith, Memᴰ.append_cases (ka ++ kb) m, Memᴰ.append_cases {a = s} ka)

  -- what the first side keeps, the mirror keeps
  pub first_kept : KeptBy a ka (pick a b) (held_both a b ka kb)
  first_kept = record { holds = λ s m. Memᴰ.append_left (hidden a b) (Memᴰ.append_left kb m); shows = λ s n e. inl (rw e) }

  -- and what the second keeps: it is shown, or held, or hidden
  pub second_kept : KeptBy b kb (pick a b) (held_both a b ka kb)
  second_kept =
      record {
        holds = λ s m. Memᴰ.append_left (hidden a b) (Memᴰ.append_right ka m);
        shows = λ s n e. elim (seen a b s e n) [ inl p ↦ inl p | inr m ↦ inr (in_hidden s m) ];
      }

-- What happens to a block of the mirror, by what its sides show and hold.
abbrev pub Both : List Op → ℕ → Shown → List (List ℕ) → Shown → List (List ℕ) → Shown → List (List ℕ) → Shown → List (List ℕ) → Type 0
Both os n a ka b kb a' ka' b' kb' = BlockRan os n (pick a b) (held_both a b ka kb) (pick a' b') (held_both a' b' ka' kb')

-- one operation on both sides
one_after : (o : Op) (n : ℕ) (a b : Shown) (ka kb : List (List ℕ)) → Both (o ∷ []) n a ka b kb (block_after o n a) (may_hold o n a ka) (block_after o n b) (may_hold o n b kb)
one_after o n a b ka kb =
    elim (cases_Bool (eqb n (target o))) [
      | inl t ↦ record {
        shows = rw t (pick_same (outcome o));
        holds = rw t (held_within (outcome o) (outcome o) _ _ (left_more (first_kept a b ka kb) o) (left_more (second_kept a b ka kb) o) (none_hidden {a = outcome o} refl));
      }
      | inr f ↦ record { shows = rw f; holds = rw f (λ s m. m) }
    ]

-- what the operations after the first do
after_first : {o : Op} {os : List Op} {n : ℕ} {c c' : Shown} {kept kept' : List (List ℕ)} → BlockRan (o ∷ os) n c kept c' kept' → BlockRan os n (block_after o n c) (may_hold o n c kept) c' kept'
after_first run = record { shows = run.shows; holds = run.holds }

-- the same operations on both sides, one after the other
pub both_ran : (os : List Op) {n : ℕ} {a b a' b' : Shown} {ka kb ka' kb' : List (List ℕ)} → BlockRan os n a ka a' ka' → BlockRan os n b kb b' kb' → Both os n a ka b kb a' ka' b' kb'
both_ran [] {n} {a} {b} {a'} {b'} {ka} {kb} {ka'} {kb'} first second =
    record {
      shows = ap₂ pick first.shows second.shows;
      holds =
          rw (first.shows, second.shows)
          (held_within a b ka' kb' (λ s m. (first_kept a b ka kb).holds s (first.holds s m)) (λ s m. (second_kept a b ka kb).holds s (second.holds s m)) (in_hidden a b ka kb));
    }
both_ran (o ∷ os) {n} {a} {b} {ka = ka} {kb = kb} first second =
    let one = one_after o n a b ka kb in
    let rest = both_ran os (after_first first) (after_first second) in
    record {
      shows = rest.shows ∙ ap (block_after_all os n) one.shows;
      holds = λ s m. may_hold_all_among os n _ _ _ one.holds s (rw one.shows at (rest.holds s m));
    }

-- the sides' runs are a run of the mirror, if at each block what happens on them makes what happens to the mirror
pub mirror_ran : (os : List Op) {ps qs : List Op} {a b a' b' : List Shown} {ha hb ha' hb' : Held} → Ran ps a ha a' ha' → Ran qs b hb b' hb'
    → ((n : ℕ) → n < length (mirror_shown a b) → BlockRan ps n (shown_at a n) (ha n) (shown_at a' n) (ha' n) → BlockRan qs n (shown_at b n) (hb n) (shown_at b' n) (hb' n)
    → Both os n (shown_at a n) (ha n) (shown_at b n) (hb n) (shown_at a' n) (ha' n) (shown_at b' n) (hb' n))
    → Ran os (mirror_shown a b) (mirror_held a b ha hb) (mirror_shown a' b') (mirror_held a' b' ha' hb')
mirror_ran os {a = a} {b} {a'} {b'} first second each = ran_by_block os _ _ _ _ same (λ n l.
    let within = within_both a b n l in
    rw (mirror_at a b n l, mirror_at a' b' n (omega (arith, same))) (each n l (block_ran _ _ _ _ _ first n within.0) (block_ran _ _ _ _ _ second n within.1))) where
      same : length (mirror_shown a' b') ≡ length (mirror_shown a b)
      same = omega (arith, mirror_count a b, mirror_count a' b', ran_count first, ran_count second)

-- The same operations on both sides are those of the mirror.
pub both_sides : (os : List Op) (a b a' b' : List Shown) (ha hb ha' hb' : Held) → Ran os a ha a' ha' → Ran os b hb b' hb'
    → Ran os (mirror_shown a b) (mirror_held a b ha hb) (mirror_shown a' b') (mirror_held a' b' ha' hb')
both_sides os a b a' b' ha hb ha' hb' first second = mirror_ran os first second (λ n l x y. both_ran os x y)
