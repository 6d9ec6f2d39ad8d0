-- What opening a card answers.
use Rattle.std.specs.Prelude.{ℕ, ◌*◌, Bool, if◌then◌else◌, ◌&&◌, List, length, Ok, Err, Result, ◌==◌, nat_le}
use Rattle.bottoms.specs.Formats.{Format}
use Rattle.bottoms.specs.Images.{span}
use Rattle.bottoms.specs.declared.fault.OpenFault.{OpenFault}
use Rattle.bottoms.specs.declared.fault.Refused.{Refused}
use Rattle.bottoms.specs.declared.fault.OpenFault.TheVariants.{WrongMemory}

-- Ground 2: the memory has a wrong length, or the count isn't 1 to 1,024.
abbrev pub open_ground_of : OpenFault → ℕ
open_ground_of WrongMemory = 2

-- An opening gives a card on the caller's bytes, or is refused on a ground and hands the bytes back.
pub data Opening : Type 0 where
  opened : List ℕ → Opening
  rejected : ℕ → List ℕ → Opening

-- so many bytes are an image of so many blocks
abbrev pub fits : ℕ → ℕ → ℕ → Bool
fits places len n = nat_le 1 n && (nat_le n 1024 && len == span places * n)

-- what the test of the size answers
abbrev pub size_answer : ℕ → ℕ → ℕ → Result Unit OpenFault
size_answer places len n = if fits places len n then Ok tt else Err WrongMemory

-- memory m, opened as n blocks
abbrev pub opening : Format → List ℕ → ℕ → Opening
opening F m n = if fits F.places (length m) n then opened m else rejected 2 m

-- what a result of the code says, by the bytes of the card that was opened
abbrev pub opening_of : {A : Type 0} → (A → List ℕ) → Result A Refused → Opening
opening_of image (Ok a) = opened (image a)
opening_of image (Err e) = rejected (open_ground_of e.fault) e.bytes.now
