-- What a device keeps and what operations do to it, by what its type says that one shows and holds.
use Rattle.std.specs.Prelude.{◌≡◌, ℕ, false, ◌⊎◌, List, [], ◌∷◌}
use Rattle.device.specs.Blocks.{sector, shown_at, ◌∈◌, is_blank}
use Rattle.device.specs.Operations.{Op, Ran}
use Rattle.device.specs.declared.traits.Device.{Ghosts}

-- The device was d, and is d' after these operations.
abbrev pub Effect : {D : Type 0} → Ghosts D → List Op → D → D → Type 0
Effect g os d d' = Ran os (g.shown d) (g.held d) (g.shown d') (g.held d')

-- It went through these operations in this order: after each of them it was in some state, from which it went on to the next. That says more
-- than the effect of all of them, which is the same in another order where the blocks differ.
abbrev pub Steps : {D : Type 0} → Ghosts D → List Op → D → D → Type 0
Steps g [] d d' = Effect g [] d d'
Steps {D} g (o ∷ os) d d' = (m : D) × Effect g (o ∷ []) d m × Steps g os m d'

-- Sector x is shown or held for block n.
abbrev pub Keeps : {D : Type 0} → Ghosts D → D → ℕ → List ℕ → Type 0
Keeps g d n x = (shown_at (g.shown d) n ≡ sector x) ⊎ (x ∈ g.held d n)

-- Nothing but zeros is shown or held for block n.
abbrev pub KeepsNothing : {D : Type 0} → Ghosts D → D → ℕ → Type 0
KeepsNothing g d n = (x : List ℕ) → is_blank x ≡ false → Keeps g d n x → ⊥
