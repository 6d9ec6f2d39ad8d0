-- What a mirror of two devices shows and holds, and what repair does.
use Rattle.std.specs.Prelude.{◌≡◌, ℕ, ◌+◌, ◌<◌, Bool, false, if◌then◌else◌, ◌&&◌, List, [], ◌∷◌, ◌++◌, length}
use Rattle.std.specs.Str.{bytes_eq}
use Rattle.device.specs.Blocks.{Shown, lost, sector, shown_at, if_block, Held, is_blank}
use Rattle.device.specs.Answers.{Answer, accepted, refused, of_block}
use Rattle.device.specs.Operations.{Op, write, target, joined}
use Rattle.device.specs.Effects.{Keeps}
use Rattle.device.specs.declared.traits.Device.{Ghosts}
use Rattle.layers.specs.declared.mirror.Mirror.{Mirror}

-- A block shows what the first side shows, unless that is lost, else what the second shows.
abbrev pub pick : Shown → Shown → Shown
pick lost b = b
pick (sector s) b = sector s

-- all blocks that both sides have
abbrev pub mirror_shown : List Shown → List Shown → List Shown
mirror_shown [] bs = []
mirror_shown (a ∷ as') [] = []
mirror_shown (a ∷ as') (b ∷ bs) = pick a b ∷ mirror_shown as' bs

-- the sector that the second side shows, unless it is blank, where the first isn't lost and shows a different one
abbrev pub hidden : Shown → Shown → List (List ℕ)
hidden lost b = []
hidden (sector s) lost = []
hidden (sector s) (sector t) = if bytes_eq s t then [] else joined (sector t) []

-- It holds what both sides hold, and what the second side hides.
abbrev pub held_both : Shown → Shown → List (List ℕ) → List (List ℕ) → List (List ℕ)
held_both a b kept kept' = kept ++ kept' ++ hidden a b

abbrev pub mirror_held : List Shown → List Shown → Held → Held → Held
mirror_held a b ha hb n = held_both (shown_at a n) (shown_at b n) (ha n) (hb n)

-- A mirror as a device, over any two devices.
abbrev pub mirrored : {A B : Type 0} → Ghosts A → Ghosts B → Ghosts (Mirror A B)
mirrored g k =
    record {
      shown = λ m. mirror_shown (g.shown m.a) (k.shown m.b);
      held = λ m. mirror_held (g.shown m.a) (k.shown m.b) (g.held m.a) (k.held m.b);
      settled = λ m. g.settled m.a && k.settled m.b;
    }

-- A mirror keeps nothing unnamed: it shows or holds what is shown or held on either side.
pub record MirrorNamed {A B : Type 0} (g : Ghosts A) (k : Ghosts B) (m : Mirror A B) : Type 0 where
  pub first : (n : ℕ) → n < length ((mirrored g k).shown m) → (x : List ℕ) → is_blank x ≡ false → Keeps g m.a n x → Keeps (mirrored g k) m n x
  pub second : (n : ℕ) → n < length ((mirrored g k).shown m) → (x : List ℕ) → is_blank x ≡ false → Keeps k m.b n x → Keeps (mirrored g k) m n x

-- what reaches the sides of an operation on a mirror that shows d: all of it, or nothing past the count
abbrev pub passed : List Shown → Op → List Op
passed d o = if_block d (target o) (o ∷ []) []

-- does a block show sector s
abbrev pub shows_sector : List ℕ → Shown → Bool
shows_sector s lost = false
shows_sector s (sector t) = bytes_eq s t

-- what it takes to have block n show sector s, if it shows c
abbrev pub mending : ℕ → List ℕ → Shown → List Op
mending n s c = if shows_sector s c then [] else write n s ∷ []

-- What repair of block n writes to a side where it shows c, if the mirror shows x for it.
abbrev pub repairing : ℕ → Shown → Shown → List Op
repairing n lost c = []
repairing n (sector s) c = mending n s c

-- It answers how many sides it wrote. A block that is lost on both sides is refused with 9.
abbrev pub repair_block : ℕ → Shown → Shown → Shown → Answer ℕ
repair_block n lost a b = refused 9 n
repair_block n (sector s) a b = accepted (length (mending n s a) + length (mending n s b))

abbrev pub repair_answer : List Shown → List Shown → ℕ → Answer ℕ
repair_answer a b n = of_block (mirror_shown a b) n (repair_block n (shown_at (mirror_shown a b) n) (shown_at a n) (shown_at b n))
