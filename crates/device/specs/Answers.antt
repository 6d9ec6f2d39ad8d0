-- What a device answers: each refusal by its ground number and the block that it names.
use Rattle.std.specs.Prelude.{ℕ, if◌then◌else◌, List, length, Ok, Err, Result, nat_lt}
use Rattle.device.specs.Blocks.{Shown, lost, sector, shown_at}
use Rattle.device.specs.declared.fault.DeviceFault.{DeviceFault}
use Rattle.device.specs.declared.fault.DeviceFault.TheVariants.{NoBlock, Lost}

-- Ground 1: the block number is not below the count. Ground 9: the block is lost.
abbrev pub ground_of : DeviceFault → ℕ
ground_of (NoBlock n) = 1
ground_of (Lost n) = 9

-- the block that the fault names
abbrev pub block_of : DeviceFault → ℕ
block_of (NoBlock n) = n
block_of (Lost n) = n

-- A call is accepted with a value, or refused on a ground that names a block.
pub data Answer (A : Type 0) : Type 0 where
  accepted : A → Answer A
  refused : ℕ → ℕ → Answer A

-- what a result of the code says
abbrev pub answer_of : {A : Type 0} → Result A DeviceFault → Answer A
answer_of (Ok a) = accepted a
answer_of (Err f) = refused (ground_of f) (block_of f)

-- a call that names block n of a device that shows d: the given answer, unless there is no such block
abbrev pub of_block : {A : Type 0} → List Shown → ℕ → Answer A → Answer A
of_block d n a = if nat_lt n (length d) then a else refused 1 n

-- write, wipe and mark
abbrev pub change_answer : List Shown → ℕ → Answer Unit
change_answer d n = of_block d n (accepted tt)

-- a read of block n, by what the block shows
abbrev pub read_block : ℕ → Shown → Answer Unit
read_block n lost = refused 9 n
read_block n (sector s) = accepted tt

abbrev pub read_answer : List Shown → ℕ → Answer Unit
read_answer d n = of_block d n (read_block n (shown_at d n))

-- The buffer after a read: the sector shown, and as it was where the read is refused.
abbrev pub filled : Shown → List ℕ → List ℕ
filled lost buffer = buffer
filled (sector s) buffer = s

abbrev pub read_buffer : List Shown → ℕ → List ℕ → List ℕ
read_buffer d n buffer = filled (shown_at d n) buffer
