-- What it means that a block has forgotten what it held: nothing that comes later brings it back.
use Rattle.std.specs.Prelude.{◌≡◌, ℕ, false, ◌⊎◌, List}
use Rattle.device.specs.Blocks.{Shown, Held, ◌∈◌, is_blank}
use Rattle.device.specs.Operations.{Op, write, Ran}

-- Block n of a device that shows d and holds h has forgotten all but s: whatever operations follow, a sector that is held for it then and
-- isn't blank is s, or one of them wrote it there.
abbrev pub ForgotAllBut : List ℕ → ℕ → List Shown → Held → Type 0
ForgotAllBut s n d h =
    (os : List Op) (d' : List Shown) (h' : Held) → Ran os d h d' h' → (x : List ℕ) → x ∈ h' n → is_blank x ≡ false → (x ≡ s) ⊎ (write n x ∈ os)
