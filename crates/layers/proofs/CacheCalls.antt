-- The calls of a cache, by what becomes of its lines and of the device below.
use Rattle.std.proofs.Common.{◌≡◌, ℕ, ◌<◌, ◌≤◌, List, [], ◌∷◌, length, replicate, Some, None, Option, sym, arith}
use Rattle.device.specs.Blocks.{Shown, sector, shown_at, Held}
use Rattle.device.specs.Answers.{accepted, read_answer, read_buffer}
use Rattle.device.specs.Operations.{Op, write, target, Ran}
use Rattle.device.proofs.Operations.{ran_past}
use Rattle.device.proofs.Answers.{read_within, read_same}
use Rattle.lines.specs.declared.line.Line.{Line}
use Rattle.lines.specs.declared.table.Table.{Table}
use Rattle.lines.specs.Lines.{empty_line, waiting_for, waiting, all_waiting}
use Rattle.lines.specs.Tables.{lines_written, evicted, lines_without}
use Rattle.layers.specs.Caching.{shown_over, cache_shown}
use Rattle.layers.proofs.CacheRuns.{CacheRan, cache_count, cache_at, written, dropped, all_written_back}

-- The table was t, and the lines are ls' now; below, d and h were shown and held, and d' and h' are.
module _ (t : Table) (ls' : List Line) {d d' : List Shown} {h h' : Held} where
  -- a line comes to stand for block n, after the one that makes room is written below
  pub wrote : (n : ℕ) (s : List ℕ) (left : Line) → ls' ≡ lines_written t n s → left ≡ evicted t n → Ran (waiting left) d h d' h'
      → CacheRan (write n s ∷ []) t.lines d h ls' d' h'
  wrote n s left lines leaves run = rw lines (written t n s (rw leaves at run))

  -- a wipe or a mark, which drops the line for the block
  pub passed_down : (o : Op) → ls' ≡ lines_without t (target o) → Ran (o ∷ []) d h d' h' → CacheRan (o ∷ []) t.lines d h ls' d' h'
  passed_down o lines run = rw lines (dropped t o run)

  -- all lines are written below and emptied
  pub flushed : ls' ≡ replicate 4 empty_line → Ran (all_waiting t.lines) d h d' h' → CacheRan [] t.lines d h ls' d' h'
  flushed lines run = all_written_back t.lines ls' t.apart (λ n. rw lines) run

-- A block past the count of the cache is past that of the device below, where an operation on it does nothing.
pub none_below : (ls : List Line) (o : Op) (d : List Shown) (h : Held) → length (cache_shown ls d) ≤ target o → Ran (o ∷ []) d h d h
none_below ls o d h past = ran_past o d h (omega (arith, cache_count ls d))

-- A read shows what waits for the block, else what is shown below.
module _ (ls : List Line) (d : List Shown) (n : ℕ) (within : n < length (cache_shown ls d)) where
  inside : n < length d
  inside = omega (arith, cache_count ls d)

  shown_here : (w : Option (List ℕ)) → w ≡ waiting_for ls n → shown_at (cache_shown ls d) n ≡ shown_over w (shown_at d n)
  shown_here w e = rw e (cache_at ls d n inside)

  pub line_answers : (s : List ℕ) → Some s ≡ waiting_for ls n → accepted tt ≡ read_answer (cache_shown ls d) n
  line_answers s e = sym (read_within (cache_shown ls d) n (sector s) within (shown_here (Some s) e))

  pub line_fills : (s buffer : List ℕ) → Some s ≡ waiting_for ls n → s ≡ read_buffer (cache_shown ls d) n buffer
  line_fills s buffer e = rw (shown_here (Some s) e)

  pub below_answers : None ≡ waiting_for ls n → read_answer d n ≡ read_answer (cache_shown ls d) n
  below_answers e = read_same d (cache_shown ls d) n inside within (sym (shown_here None e))

  pub below_fills : (buffer : List ℕ) → None ≡ waiting_for ls n → read_buffer d n buffer ≡ read_buffer (cache_shown ls d) n buffer
  below_fills buffer e = rw (shown_here None e)
