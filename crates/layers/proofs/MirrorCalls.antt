-- A read of a mirror: from the first side, or from the second where the block is lost on the first.
use Rattle.std.proofs.Common.{◌≡◌, ℕ, ◌<◌, List, [], length, ◌∙◌}
use Rattle.device.specs.Blocks.{Shown, lost, shown_at}
use Rattle.device.specs.Answers.{accepted, refused, read_answer, read_buffer}
use Rattle.device.proofs.Answers.{read_accepted, read_refused, read_same, buffer_same}
use Rattle.layers.specs.Mirroring.{mirror_shown}
use Rattle.layers.proofs.MirrorRuns.{mirror_at, within_both}

-- the first side answers
module _ (a b : List Shown) (n : ℕ) (inside : n < length (mirror_shown a b)) (answered : accepted tt ≡ read_answer a n) where
  shown_first : shown_at a n ≡ shown_at (mirror_shown a b) n
  shown_first = rw (mirror_at a b n inside, read_accepted a n [] answered)

  pub first_answers : accepted tt ≡ read_answer (mirror_shown a b) n
  first_answers = answered ∙ read_same a (mirror_shown a b) n (within_both a b n inside).0 inside shown_first

  pub first_fills : (buffer : List ℕ) → read_buffer a n buffer ≡ read_buffer (mirror_shown a b) n buffer
  first_fills buffer = buffer_same a (mirror_shown a b) n buffer shown_first

-- the first side refuses
module _ (a b : List Shown) (n ground block : ℕ) (inside : n < length (mirror_shown a b)) (answered : refused ground block ≡ read_answer a n) where
  gone : shown_at a n ≡ lost
  gone = read_refused a n ground block answered

  shown_second : shown_at b n ≡ shown_at (mirror_shown a b) n
  shown_second = rw (mirror_at a b n inside, gone)

  pub second_answers : read_answer b n ≡ read_answer (mirror_shown a b) n
  second_answers = read_same b (mirror_shown a b) n (within_both a b n inside).1 inside shown_second

  -- the buffer that the first side left is the caller's
  pub second_fills : (buffer : List ℕ) → read_buffer b n (read_buffer a n buffer) ≡ read_buffer (mirror_shown a b) n buffer
  second_fills buffer = rw gone (buffer_same b (mirror_shown a b) n buffer shown_second)
