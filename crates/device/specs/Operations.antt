-- The operations on blocks as data: what a device shows after them, and the most that it may hold.
use Rattle.std.specs.Prelude.{◌≡◌, ℕ, ◌<◌, if◌then◌else◌, List, [], ◌∷◌, length, ◌==◌, slice_set}
use Rattle.device.specs.Blocks.{Shown, lost, sector, shown_at, Held, ◌∈◌, blank, is_blank}

-- A write of a sector to a block, a wipe of a block, or its loss, which mark brings about.
pub data Op : Type 0 where
  write : ℕ → List ℕ → Op
  wipe : ℕ → Op
  lose : ℕ → Op

-- the block that an operation changes
abbrev pub target : Op → ℕ
target (write n s) = n
target (wipe n) = n
target (lose n) = n

-- what that block shows then
abbrev pub outcome : Op → Shown
outcome (write n s) = sector s
outcome (wipe n) = sector blank
outcome (lose n) = lost

-- The blocks shown after an operation. One that names a block past the count changes nothing.
abbrev pub after : Op → List Shown → List Shown
after o d = slice_set d (target o) (outcome o)

-- the same for block n alone, which showed c
abbrev pub block_after : Op → ℕ → Shown → Shown
block_after o n c = if n == target o then outcome o else c

-- what a block may hold once it shows something else: the sector shown before joins, unless it is blank
abbrev pub joined : Shown → List (List ℕ) → List (List ℕ)
joined lost kept = kept
joined (sector s) kept = if is_blank s then kept else s ∷ kept

-- what the changed block may hold, if it showed c and held these sectors
abbrev pub left_by : Op → Shown → List (List ℕ) → List (List ℕ)
left_by (write n s) c kept = joined c kept
left_by (wipe n) c kept = []
left_by (lose n) c kept = joined c kept

-- The most that block n may hold after an operation.
abbrev pub may_hold : Op → ℕ → Shown → List (List ℕ) → List (List ℕ)
may_hold o n c kept = if n == target o then left_by o c kept else kept

-- operations one after the other
abbrev pub after_all : List Op → List Shown → List Shown
after_all [] d = d
after_all (o ∷ os) d = after_all os (after o d)

abbrev pub block_after_all : List Op → ℕ → Shown → Shown
block_after_all [] n c = c
block_after_all (o ∷ os) n c = block_after_all os n (block_after o n c)

abbrev pub may_hold_all : List Op → ℕ → Shown → List (List ℕ) → List (List ℕ)
may_hold_all [] n c kept = kept
may_hold_all (o ∷ os) n c kept = may_hold_all os n (block_after o n c) (may_hold o n c kept)

-- A device that showed d and held h shows d' and holds h' after these operations. What it shows is determined; of what it holds for a
-- block, each sector is one that it may hold.
pub record Ran (os : List Op) (d : List Shown) (h : Held) (d' : List Shown) (h' : Held) : Type 0 where
  pub shows : d' ≡ after_all os d
  pub holds : (n : ℕ) → n < length d → (s : List ℕ) → s ∈ h' n → s ∈ may_hold_all os n (shown_at d n) (h n)
