-- The image of a card: N state bytes, then for each block its places. What it shows and holds, and what each call makes of it.
use Rattle.std.specs.Prelude.{◌≡◌, ℕ, ◌+◌, ◌*◌, ◌/◌, ◌<◌, ◌≤◌, min, Bool, true, if◌then◌else◌, not, ◌&&◌, List, ◌++◌, map, count_by, length, take, drop, replicate, Some, None, filter, Option, ◌==◌, nat_lt, slice_index, slice_set}
use Rattle.std.specs.List.{range_with_len}
use Rattle.device.specs.Blocks.{Shown, lost, sector, shown_at, Held, is_blank}
use Rattle.device.specs.Operations.{Op, Ran}
use Rattle.bottoms.specs.Formats.{Format}

-- the bytes of one block: its state and its places
abbrev pub span : ℕ → ℕ
span places = 1 + 64 * places

-- how many blocks so many bytes have, at most 1,024
abbrev pub blocks_in : ℕ → ℕ → ℕ
blocks_in len places = min (len / span places) 1024

-- how many blocks an image has
abbrev pub count : Format → List ℕ → ℕ
count F m = blocks_in (length m) F.places

-- the state of block n
abbrev pub state : List ℕ → ℕ → ℕ
state m n = slice_index m n

-- where place j of block n begins, among c blocks
abbrev pub place_at : Format → ℕ → ℕ → ℕ → ℕ
place_at F c n j = c + 64 * (F.places * n + j)

-- the 64 bytes from `at` on
abbrev pub part : List ℕ → ℕ → List ℕ
part m at = take 64 (drop at m)

-- place j of block n
abbrev pub place : Format → List ℕ → ℕ → ℕ → List ℕ
place F m n j = part m (place_at F (count F m) n j)

-- place j of a block whose places alone are given
abbrev pub place_in : List ℕ → ℕ → List ℕ
place_in places j = part places (64 * j)

-- what a block shows whose shown place, if any, is given
abbrev pub showing : (ℕ → List ℕ) → Option ℕ → Shown
showing at None = lost
showing at (Some j) = sector (at j)

-- what block n shows
abbrev pub block : Format → List ℕ → ℕ → Shown
block F m n = showing (place F m n) (F.shows (state m n))

-- what the image shows, block by block
abbrev pub image_shown : Format → List ℕ → List Shown
image_shown F m = map (block F m) (range_with_len 0 (count F m))

-- place j isn't the one shown
abbrev pub hidden : Option ℕ → ℕ → Bool
hidden None j = true
hidden (Some k) j = not (j == k)

-- place j counts as held: it isn't shown, and it isn't blank
abbrev pub is_held : (ℕ → List ℕ) → Option ℕ → ℕ → Bool
is_held at shows j = hidden shows j && not (is_blank (at j))

-- how many sectors a block holds whose places alone are given, and which of them is shown
abbrev pub count_in : List ℕ → Option ℕ → ℕ
count_in places shows = count_by (λ j. is_held (place_in places) shows j) (range_with_len 0 (length places / 64))

-- what the image holds for block n, in the order of the places
abbrev pub image_held : Format → List ℕ → Held
image_held F m n = map (place F m n) (filter (is_held (place F m n) (F.shows (state m n))) (range_with_len 0 F.places))

-- operations that an image goes through, from m to m', by what it shows and holds
abbrev pub Runs : Format → List Op → List ℕ → List ℕ → Type 0
Runs F os m m' = Ran os (image_shown F m) (image_held F m) (image_shown F m') (image_held F m')

-- bytes written over others from `at` on
abbrev pub overwritten : ℕ → List ℕ → List ℕ → List ℕ
overwritten at new m = take at m ++ (new ++ drop (at + length new) m)

-- the image after a call that names block n: as given, and unchanged where there is no such block
abbrev pub if_block : Format → List ℕ → ℕ → List ℕ → List ℕ
if_block F m n changed = if nat_lt n (count F m) then changed else m

-- After a write the sector fills the next place, and the number of that place is the state.
abbrev pub write_image : Format → List ℕ → ℕ → List ℕ → List ℕ
write_image F m n s = if_block F m n (overwritten (place_at F (count F m) n (F.next (state m n))) s (slice_set m n (F.next (state m n))))

-- After a wipe every place of the block is zeros, and the state is 0.
abbrev pub wipe_image : Format → List ℕ → ℕ → List ℕ
wipe_image F m n = if_block F m n (overwritten (place_at F (count F m) n 0) (replicate (64 * F.places) 0) (slice_set m n 0))

-- After a mark the state alone has changed.
abbrev pub mark_image : Format → List ℕ → ℕ → List ℕ
mark_image F m n = if_block F m n (slice_set m n (F.marked (state m n)))

-- What the code finds when it looks for block n among so many bytes: the index i of its state, and the start of its first place.
pub record Located (len places n i first : ℕ) : Type 0 where
  pub below : n < blocks_in len places
  pub index : i ≡ n
  pub start : first ≡ blocks_in len places + 64 * (places * n)
  pub inside : first + 64 * places ≤ len

-- What the code finds when it asks for the places of block n: they show what the image shows for it, and hold as many sectors.
pub record Lent (F : Format) (m : List ℕ) (n : ℕ) (places : List ℕ) (shown : Option ℕ) : Type 0 where
  pub below : n < length (image_shown F m)
  pub shows : showing (place_in places) shown ≡ shown_at (image_shown F m) n
  pub holds : count_in places shown ≡ length (image_held F m n)
