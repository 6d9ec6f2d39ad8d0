-- What a block device means: what it shows and what it holds for each of its blocks.
use Rattle.std.specs.Prelude.{ℕ, Bool, true, if◌then◌else◌, ◌&&◌, List, [], ◌∷◌, length, replicate, ◌==◌, nat_lt, slice_index_or}
use mathlib.Core.List.{Memᴰ}

-- A block shows a sector, by its 64 bytes, or it is lost.
pub data Shown : Type 0 where
  lost : Shown
  sector : List ℕ → Shown

-- A device shows a list, one element for each block in order, and its length is the count. Past the count nothing is shown.
abbrev pub shown_at : List Shown → ℕ → Shown
shown_at d n = slice_index_or d n lost

-- x where a device that shows d has a block n, else y
abbrev pub if_block : {A : Type 0} → List Shown → ℕ → A → A → A
if_block d n x y = if nat_lt n (length d) then x else y

-- The sectors that a device holds for each block: those that aren't blank and that it keeps beside the one shown. Only membership counts.
abbrev pub Held : Type 0
Held = ℕ → List (List ℕ)

infix 40 ◌∈◌
-- a is an element of the list
abbrev pub ◌∈◌ : {A : Type 0} → A → List A → Type 0
◌∈◌ a l = Memᴰ a l

-- A blank sector is 64 zeros.
abbrev pub blank : List ℕ
blank = replicate 64 0

-- every byte is zero
abbrev pub is_blank : List ℕ → Bool
is_blank [] = true
is_blank (b ∷ bs) = b == 0 && is_blank bs
