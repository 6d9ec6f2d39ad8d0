-- The table of a cache: which line a write takes, which one makes room for it, and whose turn is next.
use Rattle.std.specs.Prelude.{ℕ, ◌+◌, ◌%◌, List, Some, None, Option, slice_set}
use Rattle.std.specs.Option.{option_or, unwrap_or}
use Rattle.lines.specs.declared.line.Line.{Line}
use Rattle.lines.specs.declared.table.Table.{Table}
use Rattle.lines.specs.Lines.{empty_line, line_of, line_at, position}

-- The line that a write of block n may take at once: the one that stands for n, else the first empty one.
abbrev pub room : Table → ℕ → Option ℕ
room t n = option_or (position t.lines (Some n)) (position t.lines None)

-- Without room it takes the line whose turn it is.
abbrev pub taken : Table → ℕ → ℕ
taken t n = unwrap_or (room t n) t.turn

-- what has to make room where a line is taken: that line, if there was no room, else nothing
abbrev pub leaving : Option ℕ → Line → Line
leaving None l = l
leaving (Some i) l = empty_line

-- and only then the turn goes on: 0, 1, 2, 3, then 0
abbrev pub next_turn : Option ℕ → ℕ → ℕ
next_turn None turn = (turn + 1) % 4
next_turn (Some i) turn = turn

-- A write of sector s to block n: the lines and the turn after it, and the line that makes room.
abbrev pub lines_written : Table → ℕ → List ℕ → List Line
lines_written t n s = slice_set t.lines (taken t n) (line_of n s)

abbrev pub turn_written : Table → ℕ → ℕ
turn_written t n = next_turn (room t n) t.turn

abbrev pub evicted : Table → ℕ → Line
evicted t n = leaving (room t n) (line_at t.lines (taken t n))

-- the lines with line i emptied, or all of them as they are for None
abbrev pub emptied : List Line → Option ℕ → List Line
emptied ls None = ls
emptied ls (Some i) = slice_set ls i empty_line

-- The lines without one for block n.
abbrev pub lines_without : Table → ℕ → List Line
lines_without t n = emptied t.lines (position t.lines (Some n))
