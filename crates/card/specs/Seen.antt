-- What a person is shown of a block, and texts in sectors.
use Rattle.std.specs.Prelude.{ℕ, if◌then◌else◌, List, [], ◌∷◌, ◌++◌, length, take, Ok, Err, ◌==◌, nat_lt}
use Rattle.device.specs.Blocks.{Shown, lost, sector, shown_at, blank}
use Rattle.device.specs.declared.fault.DeviceFault.TheVariants.{NoBlock, Lost}
use Rattle.card.specs.declared.seen.Seen.{Seen}

-- the sector that block n shows, or why it can't be read
abbrev pub seen_block : ℕ → Shown → Seen
seen_block n lost = record { 0 = Err (Lost n) }
seen_block n (sector s) = record { 0 = Ok s }

abbrev pub seen_at : List Shown → ℕ → Seen
seen_at d n = if nat_lt n (length d) then seen_block n (shown_at d n) else record { 0 = Err (NoBlock n) }

-- the bytes before the first zero
abbrev pub text_of : List ℕ → List ℕ
text_of [] = []
text_of (b ∷ bs) = if b == 0 then [] else b ∷ text_of bs

-- a text with zeros after it, cut at 64 bytes
abbrev pub padded : List ℕ → List ℕ
padded text = take 64 (text ++ blank)
