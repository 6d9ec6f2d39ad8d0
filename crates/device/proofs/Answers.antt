-- Reads: what they answer below the count, and what an answer tells.
use Rattle.std.proofs.Common.{◌≡◌, ℕ, ◌<◌, List, length, sym, refl, ◌∙◌, inl, inr, arith}
use Rattle.std.proofs.lemmas.Bool.{cases_lt}
use Rattle.std.proofs.lemmas.Bool.Decides.{nat_tests}
use Rattle.std.proofs.lemmas.List.{get_or_past}
use Rattle.device.specs.Blocks.{Shown, lost, sector, shown_at}
use Rattle.device.specs.Answers.{Answer, accepted, refused, of_block, read_block, read_answer, filled, read_buffer}

-- a read of a block that shows c
pub read_within : (d : List Shown) (n : ℕ) (c : Shown) → n < length d → shown_at d n ≡ c → read_answer d n ≡ read_block n c
read_within d n c inside e = grind (arith, nat_tests)

-- two devices that both have a block n are read alike where they show the same for it
pub read_same : (d d' : List Shown) (n : ℕ) → n < length d → n < length d' → shown_at d n ≡ shown_at d' n → read_answer d n ≡ read_answer d' n
read_same d d' n inside inside' e = read_within d n (shown_at d' n) inside e ∙ sym (read_within d' n (shown_at d' n) inside' refl)

pub buffer_same : (d d' : List Shown) (n : ℕ) (buffer : List ℕ) → shown_at d n ≡ shown_at d' n → read_buffer d n buffer ≡ read_buffer d' n buffer
buffer_same d d' n buffer e = rw e

-- what is accepted named a block below the count
pub accepted_within : {A : Type 0} (d : List Shown) (n : ℕ) (a : Answer A) (x : A) → accepted x ≡ of_block d n a → n < length d
accepted_within d n a x e = grind (arith, nat_tests)

-- what the answer of a read tells: the block shows what is in the buffer, or it is lost or there is none
accepted_block : (n : ℕ) (c : Shown) (buffer : List ℕ) → accepted tt ≡ read_block n c → c ≡ sector (filled c buffer)
accepted_block n lost buffer e = cc
accepted_block n (sector s) buffer e = refl

refused_block : (n : ℕ) (c : Shown) (ground block : ℕ) → refused ground block ≡ read_block n c → c ≡ lost
refused_block n lost ground block e = refl
refused_block n (sector s) ground block e = cc

pub read_accepted : (d : List Shown) (n : ℕ) (buffer : List ℕ) → accepted tt ≡ read_answer d n → shown_at d n ≡ sector (read_buffer d n buffer)
read_accepted d n buffer e =
    let inside = accepted_within d n (read_block n (shown_at d n)) tt e in accepted_block n (shown_at d n) buffer (e ∙ read_within d n (shown_at d n) inside refl)

pub read_refused : (d : List Shown) (n ground block : ℕ) → refused ground block ≡ read_answer d n → shown_at d n ≡ lost
read_refused d n ground block e =
    elim (cases_lt n (length d)) [ inl inside ↦ refused_block n (shown_at d n) ground block (e ∙ read_within d n (shown_at d n) inside refl) | inr past ↦ get_or_past d n lost past ]
