-- How a card keeps a block: a state byte, and one or more places of 64 bytes.
use Rattle.std.specs.Prelude.{◌≡◌, ℕ, ◌+◌, ◌%◌, ◌<◌, if◌then◌else◌, Some, None, Option, ◌==◌, nat_lt}

-- The places of a block, and what its state says.
pub record Format : Type 0 where
  -- how many places a block has
  pub places : ℕ
  -- the place that a state shows; none where it is a lost block's
  pub shows : ℕ → Option ℕ
  -- the place that a write fills; the state after the write is its number
  pub next : ℕ → ℕ
  -- the state after a mark
  pub marked : ℕ → ℕ

-- What the rules of a card rest on.
pub record Lawful (F : Format) : Type 0 where
  -- a state shows one of the block's places
  pub shows_below : (state j : ℕ) → F.shows state ≡ Some j → j < F.places
  -- a write fills one of them, and it is shown then
  pub next_below : (state : ℕ) → F.next state < F.places
  pub next_shows : (state : ℕ) → F.shows (F.next state) ≡ Some (F.next state)
  -- a marked block shows nothing
  pub marked_lost : (state : ℕ) → F.shows (F.marked state) ≡ None
  -- a wiped block shows its first place
  pub wiped_shows : F.shows 0 ≡ Some 0

-- The plain card has one place, which is written over. State 0 is sound and any other is lost; mark makes it 1.
abbrev pub plain_shows : ℕ → Option ℕ
plain_shows state = if state == 0 then Some 0 else None

abbrev pub plain : Format
plain = record { places = 1; shows = plain_shows; next = λ _. 0; marked = λ _. 1 }

-- The rotating card has four places. The current one is the state mod 4, and the block is lost when the state is 4 or more. A write goes to
-- the place after the current one, 0 after 3; mark adds 4 to a state below 4.
abbrev pub rotating_shows : ℕ → Option ℕ
rotating_shows state = if nat_lt state 4 then Some (state % 4) else None

abbrev pub rotating_next : ℕ → ℕ
rotating_next state = (state % 4 + 1) % 4

abbrev pub rotating_marked : ℕ → ℕ
rotating_marked state = if nat_lt state 4 then state + 4 else state

abbrev pub rotating : Format
rotating = record { places = 4; shows = rotating_shows; next = rotating_next; marked = rotating_marked }
