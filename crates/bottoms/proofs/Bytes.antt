-- Bytes written over others, seen byte by byte and in parts of 64.
use Rattle.std.proofs.Common.{◌≡◌, ℕ, ◌+◌, ◌-◌, ◌<◌, ◌≤◌, List, ◌++◌, length, get_or, take, drop, set, sym, refl, ap, ◌∙◌, arith}
use Rattle.std.proofs.lemmas.Grind.{common_steps}
use borrow.Rule.Slice.PartMut.{put_mid}
use Rattle.std.proofs.lemmas.List.{length-drop, take-take, drop-drop, drop_at, length-take-le, drop-append-le, take-append-le, drop-set-lt, drop-take}
use Rattle.std.proofs.lemmas.Slice.{drop-put_mid, take-put_mid_below}
use Rattle.bottoms.specs.Images.{part, overwritten}

-- a part past the byte that was set
pub part_set : (m : List ℕ) (i v a : ℕ) → i < a → part (set m i v) a ≡ part m a
part_set m i v a h = ap (take 64) (drop-set-lt a m i v h)

-- what the checker says of a slice that a part was lent from
pub put_over : (a k : ℕ) (m ys : List ℕ) → length ys ≡ k → put_mid a k m ys ≡ overwritten a ys m
put_over a k m ys e = ap (λ (z : List ℕ). take a m ++ (ys ++ z)) (drop-drop k a m ∙ ap (λ (i : ℕ). drop (a + i) m) (sym e))

-- a part of a part
pub part_lent : (m : List ℕ) (a k b : ℕ) → b + 64 ≤ k → part (take k (drop a m)) b ≡ part m (a + b)
part_lent m a k b h = grind (arith, drop-take b (k - b) (drop a m), take-take 64 (k - b) (drop b (drop a m)), drop-drop b a m)

module _ (a : ℕ) (ys m : List ℕ) (room : a + length ys ≤ length m) where
  start : a ≤ length m
  start = omega arith

  as_put : overwritten a ys m ≡ put_mid a (length ys) m ys
  as_put = sym (put_over a (length ys) m ys refl)

  pub length_over : length (overwritten a ys m) ≡ length m
  length_over = grind (arith, common_steps)

  pub byte_over_before : (i : ℕ) → i < a → get_or (overwritten a ys m) i 0 ≡ get_or m i 0
  byte_over_before i h = grind (arith, common_steps)

  pub part_over_before : (b : ℕ) → b + 64 ≤ a → part (overwritten a ys m) b ≡ part m b
  part_over_before b h =
      ap (λ (l : List ℕ). part l b) as_put
      ∙ sym (drop-take b 64 (put_mid a (length ys) m ys)) ∙ ap (drop b) (take-put_mid_below a (length ys) m ys (b + 64) h start) ∙ drop-take b 64 m

  pub part_over_after : (b : ℕ) → a + length ys ≤ b → part (overwritten a ys m) b ≡ part m b
  part_over_after b h = ap (λ (l : List ℕ). part l b) as_put ∙ ap (take 64) (drop-put_mid a (length ys) m ys b h start refl)

  pub part_over_inside : (b : ℕ) → b + 64 ≤ length ys → part (overwritten a ys m) (a + b) ≡ part ys b
  part_over_inside b h =
      let le : b ≤ length ys = omega arith in
      let wide : 64 ≤ length (drop b ys) = simp length-drop (omega arith) in
      let rest : List ℕ = drop (a + length ys) m in
      ap (take 64) (sym (drop-drop b a (overwritten a ys m)) ∙ ap (drop b) (drop_at (take a m) (ys ++ rest) a (length-take-le a m start)) ∙ drop-append-le b ys rest le)
      ∙ take-append-le 64 (drop b ys) rest wide
