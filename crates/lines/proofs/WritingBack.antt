-- The lines of a table written below one after the other.
use Rattle.std.proofs.Common.{◌≡◌, ℕ, ◌+◌, ◌<◌, length, List, [], ◌∷◌, ◌++◌, take, get_or, Some, None, Option, append_assoc}
use Rattle.std.proofs.lemmas.List.{append-nil, take_more}
use Rattle.device.specs.Operations.{write}
use Rattle.device.specs.Effects.{Effect, Steps}
use Rattle.device.specs.declared.traits.Device.{Ghosts}
use Rattle.device.proofs.Steps.{one_step, steps-++}
use Rattle.lines.specs.declared.line.Line.{Line}
use Rattle.lines.specs.Lines.{waiting, waiting_in, all_waiting}

all_waiting_push : (ls : List Line) (l : Line) → all_waiting (ls ++ l ∷ []) ≡ all_waiting ls ++ waiting l
all_waiting_push [] l = append-nil (waiting l)
all_waiting_push (x ∷ ls) l = simp (all_waiting_push ls l, append_assoc)

module _ {D : Type 0} (g : Ghosts D) where
  -- one line is at most one step
  line_steps : (o : Option ℕ) (s : List ℕ) (d d' : D) → Effect g (waiting_in o s) d d' → Steps g (waiting_in o s) d d'
  line_steps None s d d' run = run
  line_steps (Some n) s d d' run = one_step g (write n s) d d' run

  -- the line as it was read, whatever would stand past the end
  pub steps_one_more : (ls : List Line) (i : ℕ) (past : Line) (d m d' : D) → i < length ls → Steps g (all_waiting (take i ls)) d m → Effect g (waiting (get_or ls i past)) m d' → Steps g (all_waiting (take (i + 1) ls)) d d'
  steps_one_more ls i past d m d' inside before next =
      let l = get_or ls i past in
      rw (take_more ls i past inside, all_waiting_push) (steps-++ g (all_waiting (take i ls)) (waiting l) d m d' before (line_steps l.block l.bytes m d' next))
