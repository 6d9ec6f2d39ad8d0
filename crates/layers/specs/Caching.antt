-- What a cache of late writes shows and holds.
use Rattle.std.specs.Prelude.{◌≡◌, ℕ, suc, ◌<◌, Bool, true, false, ◌&&◌, List, [], ◌∷◌, length, Some, None, Option}
use Rattle.device.specs.Blocks.{Shown, sector, shown_at, Held, is_blank}
use Rattle.device.specs.Operations.{joined}
use Rattle.device.specs.Effects.{Keeps}
use Rattle.device.specs.declared.traits.Device.{Ghosts}
use Rattle.lines.specs.declared.line.Line.{Line}
use Rattle.layers.specs.declared.cache.Cache.{Cache}
use Rattle.lines.specs.Lines.{line_at, block_at, same_block, waiting_for}

-- A block shows the sector that waits for it, else what is shown below.
abbrev pub shown_over : Option (List ℕ) → Shown → Shown
shown_over None c = c
shown_over (Some s) c = sector s

-- It holds what is held below, and where a sector waits for it also the one shown below, unless that is blank.
abbrev pub held_over : Option (List ℕ) → Shown → List (List ℕ) → List (List ℕ)
held_over None c kept = kept
held_over (Some s) c kept = joined c kept

-- all blocks from n on
abbrev pub shown_from : ℕ → List Line → List Shown → List Shown
shown_from n ls [] = []
shown_from n ls (c ∷ d) = shown_over (waiting_for ls n) c ∷ shown_from (suc n) ls d

abbrev pub cache_shown : List Line → List Shown → List Shown
cache_shown ls d = shown_from 0 ls d

abbrev pub cache_held : List Line → List Shown → Held → Held
cache_held ls d h n = held_over (waiting_for ls n) (shown_at d n) (h n)

-- no line stands for a block
abbrev pub all_empty : List Line → Bool
all_empty [] = true
all_empty (l ∷ ls) = same_block l.block None && all_empty ls

-- A cache as a device, over any device.
abbrev pub cached : {D : Type 0} → Ghosts D → Ghosts (Cache D)
cached g =
    record {
      shown = λ c. cache_shown c.table.lines (g.shown c.below);
      held = λ c. cache_held c.table.lines (g.shown c.below) (g.held c.below);
      settled = λ c. all_empty c.table.lines && g.settled c.below;
    }

-- A cache keeps nothing unnamed: it shows or holds what is shown or held below, and it shows what waits.
pub record CacheNamed {D : Type 0} (g : Ghosts D) (c : Cache D) : Type 0 where
  pub below : (n : ℕ) → n < length (g.shown c.below) → (x : List ℕ) → is_blank x ≡ false → Keeps g c.below n x → Keeps (cached g) c n x
  pub waits : (i n : ℕ) → n < length (g.shown c.below) → block_at c.table.lines i ≡ Some n → Keeps (cached g) c n (line_at c.table.lines i).bytes
