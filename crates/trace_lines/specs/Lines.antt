-- What is written of an item, of a row and of all rows, and what is told of a trace.
use Rattle.std.specs.Prelude.{ℕ, ◌+◌, ◌≤◌, ◌<◌, min, ◌≡◌, true, List, ltb, length, drop, if◌then◌else◌, Option, Some, None, Result, Ok, Err}
use Rattle.definition.specs.Numbers.{too_little_line_room}
use Rattle.definition.specs.Records.{Record}
use Rattle.definition.specs.Reading.{in_front, zeros}
use Rattle.definition_replay.specs.Integers.{Integer}
use Rattle.definition_replay.specs.Trace.{taken, row_of, rows_of}
use Rattle.definition_replay.specs.Replay.{Made, made, stopped, Part, items_from, parts_from, field_count, row_line, all_in_range, lines_from, concat, most_bytes}
use Rattle.traces.specs.Cells.{says_behind, ended_with, cell_of, fit_cell, check_of}
use Rattle.formats.specs.Parts.{written_by}
use Rattle.buffers.specs.Over.{over}
use Rattle.templates.specs.Walk.{Stand}
use Rattle.traces.specs.declared.Ends.{Ends}
use Rattle.traces.specs.declared.Ends.TheVariants.{Nothing, Comma}
use Rattle.trace_lines.specs.declared.Line.{Line}
use Rattle.trace_lines.specs.declared.Written.{Written}
use Rattle.trace_lines.specs.declared.Stopped.{Stopped}

-- some bytes written from an index on: where they end, and the buffer afterwards
abbrev pub Writes : (bytes out : List ℕ) (used : ℕ) (out' : List ℕ) (used' : ℕ) → Type 0
Writes bytes out used out' used' = (used' ≡ used + length bytes) × (out' ≡ over out used bytes)

-- a field: the column is read and written by the spec, if a row's column may stand there
pub record FieldIs (spec trace : List ℕ) (ends : Ends) (at : ℕ) (out : List ℕ) (used : ℕ) (out' : List ℕ) (used' : ℕ) (ends' : Ends) (next : ℕ) : Type 0 where
  pub value : Integer
  pub cell : ends ≡ Comma → ended_with value (says_behind trace ends' next) ≡ fit_cell (cell_of (drop at trace))
  pub writes : ends ≡ Comma → Writes (written_by spec value) out used out' used'
  pub shut : (ends ≡ Comma → ⊥) → ends' ≡ Nothing
  pub goes : (ends' ≡ Nothing → ⊥) → at < next

-- a row that is not refused, and its line
pub record RowIs (ps : List Part) (trace : List ℕ) (row : ℕ) (out : List ℕ) (used : ℕ) (out' : List ℕ) (used' next : ℕ) : Type 0 where
  pub values : List Integer
  pub reads : row_of (drop row trace) ≡ taken values (drop next trace)
  pub counts : length values ≡ field_count ps
  pub fits : all_in_range values ≡ true
  pub writes : Writes (row_line ps values) out used out' used'

-- a row's line by the template's parts, or none as it is refused
abbrev pub LineIs : (words : List ℕ) (count : ℕ) (text trace : List ℕ) (row : ℕ) (out : List ℕ) (used : ℕ) (out' : List ℕ) → Option Line → Type 0
LineIs words count text trace row out used out' (Some l) =
    ((rs : List Record) (ps : List Part) → Stand words count (length text) 0 0 rs → parts_from text 0 (items_from 0 rs) ≡ made ps → RowIs ps trace row out used out' l.used l.next)
    × (row < l.next)
    × (l.next ≤ length trace)
LineIs words count text trace row out used out' None =
    (rs : List Record) (ps : List Part) → Stand words count (length text) 0 0 rs → parts_from text 0 (items_from 0 rs) ≡ made ps → check_of (field_count ps) (row_of (drop row trace)) ≡ 0 → ⊥

-- lines that were written, unless they are more than numbers tell
abbrev pub Wrote : (ls : List (List ℕ)) (out out' : List ℕ) (used : ℕ) → Type 0
Wrote ls out out' used = (used ≤ 0xFFFFFFFF → Writes (concat ls) out 0 out' used) × (0xFFFFFFFF < used → 0xFFFFFFFF < length (concat ls))

-- all lines
pub record AllAre (ps : List Part) (trace out out' : List ℕ) (rows used : ℕ) : Type 0 where
  pub lines : List (List ℕ)
  pub are : lines_from ps 0 (rows_of trace) ≡ made lines
  pub many : length lines ≡ rows
  pub wrote : Wrote lines out out' used

-- all lines, or the first row that is refused
abbrev pub LinesAre : (words : List ℕ) (count : ℕ) (text trace : List ℕ) (fields : ℕ) (out out' : List ℕ) (number row used : ℕ) → Type 0
LinesAre words count text trace fields out out' number row used =
    (rs : List Record) (ps : List Part) → Stand words count (length text) 0 0 rs → parts_from text 0 (items_from 0 rs) ≡ made ps → field_count ps ≡ fields
    → (number ≡ 0 → AllAre ps trace out out' row used) × ((number ≡ 0 → ⊥) → lines_from ps 0 (rows_of trace) ≡ stopped number row)

-- WHAT IS TOLD of lines where so many bytes are lent: 73 only for what is otherwise accepted
unfoldable pub lines_in : ℕ → Made (List (List ℕ)) → Made (List (List ℕ))
lines_in room (stopped n k) = stopped n (min k most_bytes)
lines_in room (made ls) =
    let n = length (concat ls) in
    if ltb (min room most_bytes) n then stopped too_little_line_room (min n most_bytes) else made ls

-- lines that were written
pub record WroteAll (o : Made (List (List ℕ))) (out out' : List ℕ) (r : Written) : Type 0 where
  pub lines : List (List ℕ)
  pub are : lines_in (length out) o ≡ made lines
  pub rows : r.rows ≡ length lines
  pub bytes : r.bytes ≡ length (concat lines)
  pub output : out' ≡ in_front (concat lines) out

-- a refusal, which leaves zeros
pub record Refused (o : Made (List (List ℕ))) (out out' : List ℕ) (r : Stopped) : Type 0 where
  pub are : lines_in (length out) o ≡ stopped r.number r.told
  pub output : out' ≡ zeros out

-- one of the two
abbrev pub ToldIs : (o : Made (List (List ℕ))) (out out' : List ℕ) → Result Written Stopped → Type 0
ToldIs o out out' (Ok r) = WroteAll o out out' r
ToldIs o out out' (Err r) = Refused o out out' r
