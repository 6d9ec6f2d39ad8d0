-- The text as far as there is room, and the zeros that were there.
use Rattle.std.proofs.Common.{◌≡◌, ℕ, ◌+◌, ◌-◌, ◌≤◌, List, ◌++◌, length, replicate, arith}
use Rattle.std.proofs.lemmas.Grind.{common_steps}
use Rattle.std.proofs.lemmas.List.{drop-replicate, take-replicate, take-append-le}
use Rattle.std.proofs.Math.Seq.{take-append-add}
use Rattle.device.specs.Blocks.{blank}
use Rattle.card.specs.Seen.{padded}
use Rattle.card.proofs.seen.sector_of.Goals as goal

short : (text : List ℕ) (n : ℕ) → length text + n ≡ 64 → padded text ≡ text ++ replicate n 0
short text n h =
    let k : n ≤ 64 = omega arith in
    grind (arith, take-append-add text blank n, take-replicate {X = ℕ} n 64 0 k)

pub returns : goal.returns
returns c =
    let text = c.args.text.now in
    grind (arith, common_steps, short text (64 - length text), take-append-le 64 text blank, drop-replicate {X = ℕ} c.min-room.result 64 0)
