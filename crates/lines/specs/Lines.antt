-- The lines of a cache, how they are found, and the writes that wait in them.
use Rattle.std.specs.Prelude.{◌≡◌, ℕ, suc, Bool, true, false, if◌then◌else◌, List, [], ◌∷◌, ◌++◌, Some, None, Option, ◌==◌, slice_index_or}
use Rattle.std.specs.Option.{option_map}
use Rattle.device.specs.Blocks.{blank}
use Rattle.device.specs.Operations.{Op, write}
use Rattle.lines.specs.declared.line.Line.{Line}

-- A line is empty, or it stands for a block with a sector that waits to be written below.
abbrev pub empty_line : Line
empty_line = record { block = None; bytes = blank }

abbrev pub line_of : ℕ → List ℕ → Line
line_of n s = record { block = Some n; bytes = s }

-- past the last line there are only empty ones
abbrev pub line_at : List Line → ℕ → Line
line_at ls i = slice_index_or ls i empty_line

abbrev pub block_at : List Line → ℕ → Option ℕ
block_at ls i = (line_at ls i).block

-- do two lines stand for the same block, or are both empty
abbrev pub same_block : Option ℕ → Option ℕ → Bool
same_block None None = true
same_block None (Some n) = false
same_block (Some m) None = false
same_block (Some m) (Some n) = m == n

-- do two lines stand for one block
abbrev pub clash : Option ℕ → Option ℕ → Bool
clash None o = false
clash (Some n) o = same_block (Some n) o

-- An empty line holds only zero bytes.
abbrev pub Clean : List Line → Type 0
Clean ls = (i : ℕ) → block_at ls i ≡ None → (line_at ls i).bytes ≡ blank

-- No block stands in two lines.
abbrev pub Apart : List Line → Type 0
Apart ls = (i j : ℕ) → clash (block_at ls i) (block_at ls j) ≡ true → i ≡ j

-- no line but line i stands for the block
abbrev pub OnlyIn : List Line → ℕ → Option ℕ → Type 0
OnlyIn ls i o = (k : ℕ) → clash (block_at ls k) o ≡ true → k ≡ i

-- the first line for this block, or the first empty one for None
abbrev pub position : List Line → Option ℕ → Option ℕ
position [] o = None
position (l ∷ ls) o = if same_block l.block o then Some 0 else option_map suc (position ls o)

-- the sector that waits for block n, if a line stands for it
abbrev pub waiting_for : List Line → ℕ → Option (List ℕ)
waiting_for ls n = option_map (λ i. (line_at ls i).bytes) (position ls (Some n))

-- the write that waits in a line
abbrev pub waiting_in : Option ℕ → List ℕ → List Op
waiting_in None s = []
waiting_in (Some n) s = write n s ∷ []

abbrev pub waiting : Line → List Op
waiting l = waiting_in l.block l.bytes

-- the writes that wait, in the order of the lines
abbrev pub all_waiting : List Line → List Op
all_waiting [] = []
all_waiting (l ∷ ls) = waiting l ++ all_waiting ls
