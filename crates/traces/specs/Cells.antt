-- Columns one at a time, in the definition's terms.
use Rattle.std.specs.Prelude.{◌≡◌, ℕ, zero, suc, ◌+◌, ◌≤◌, min, Bool, false, ◌&&◌, not, List, eqb, length, drop, if◌then◌else◌, Result, Ok, Err}
use Prim.Native.String.{String}
use Rattle.definition.specs.Chars.{◌is◌}
use Rattle.definition_replay.specs.Spec.{first, past}
use Rattle.definition.specs.Numbers.{row_malformed, wrong_columns, out_of_range}
use Rattle.definition_replay.specs.Integers.{Integer}
use Rattle.definition_replay.specs.Trace.{Taken, taken, broken, Behind, comma, ends, other, behind_column}
use Rattle.definition_replay.specs.Replay.{in_range, all_in_range}
use Rattle.definition_replay_laws.proofs.Trace.TraceByNumber.{number_of}
use Rattle.traces.specs.declared.Ends.{Ends}
use Rattle.traces.specs.declared.Ends.TheVariants.{Nothing, Comma, Row}
use Rattle.traces.specs.declared.RowError.{RowError}
use Rattle.traces.specs.declared.RowError.TheVariants.{RowMalformed, WrongColumns, OutOfRange}

-- what the code says of what stands behind a column
abbrev pub says_behind : List ℕ → Ends → (next : ℕ) → Behind
says_behind s Nothing next = other
says_behind s Comma next = comma (drop next s)
says_behind s Row next = ends (drop next s)

-- a set of one character, by its code
pub record IsOne (set : String) (b : ℕ) : Type 0 where
  pub one : (x : ℕ) → (x is set) ≡ eqb x b
  pub some : eqb b 0 ≡ false

-- behind a character of a set, or there
abbrev pub Skips : String → List ℕ → (at next : ℕ) → Type 0
Skips set s at next = (drop next s ≡ past set (drop at s)) × (eqb (first set (drop at s)) 0 ≡ eqb next at) × (at ≤ next) × (next ≤ length s)

-- behind a byte, or there: for each set that it alone is in
abbrev pub SkipsByte : ℕ → List ℕ → (at next : ℕ) → Type 0
SkipsByte b s at next = (set : String) → IsOne set b → Skips set s at next

-- A COLUMN and what follows it: malformed, one more column, or the row's last one
pub data Cell : Type 0 where
  wrong : Cell
  more : (v : Integer) (rest : List ℕ) → Cell
  last : (v : Integer) (rest : List ℕ) → Cell

unfoldable pub ended_with : Integer → Behind → Cell
ended_with v (comma u) = more v u
ended_with v (ends u) = last v u
ended_with v other = wrong

unfoldable pub cell_of : List ℕ → Cell
cell_of s = elim (number_of s) [ broken ↦ wrong | taken v t ↦ ended_with v (behind_column t) ]

-- a size that does not fit is cut off
abbrev pub clip : Integer → Integer
clip v = record { negative = v.negative; size = min v.size 0xFFFFFFFE }

unfoldable pub clip_cell : Cell → Cell
clip_cell wrong = wrong
clip_cell (more v u) = more (clip v) u
clip_cell (last v u) = last (clip v) u

abbrev pub integer : (negative : Bool) (size : ℕ) → Integer
integer negative size = record { negative = negative; size = size }

abbrev pub ended_by : (negative : Bool) (size : ℕ) → Behind → Cell
ended_by negative size b = ended_with (integer negative size) b

-- what the code says of a column
abbrev pub says_cell : List ℕ → Ends → (negative : Bool) (size next : ℕ) → Cell
says_cell s e negative size next = ended_with (integer negative size) (says_behind s e next)

-- a column whose number is not one of 32 bits is none
unfoldable pub fit_cell : Cell → Cell
fit_cell wrong = wrong
fit_cell (more v u) = if in_range v then more v u else wrong
fit_cell (last v u) = if in_range v then last v u else wrong

-- what refuses a row, as a number; 0 for nothing
abbrev pub reason_of : RowError → ℕ
reason_of RowMalformed = row_malformed
reason_of WrongColumns = wrong_columns
reason_of OutOfRange = out_of_range

abbrev pub told_of_row : Result (Unit {0}) RowError → ℕ
told_of_row (Ok u) = 0
told_of_row (Err e) = reason_of e

-- WHAT REFUSES A ROW with so many fields; 0 for nothing
unfoldable pub verdict_of : (fields count : ℕ) (fits : Bool) → ℕ
verdict_of fields count fits = if not (eqb count fields) then wrong_columns else if not fits then out_of_range else 0

unfoldable pub check_of : (fields : ℕ) → Taken (List Integer) → ℕ
check_of fields broken = row_malformed
check_of fields (taken vs u) = verdict_of fields (length vs) (all_in_range vs)

-- column by column, so many before and all of them in range or not; n bounds them
unfoldable pub scan_n : (n fields count : ℕ) (fits : Bool) → List ℕ → ℕ
scan_n zero fields count fits s = row_malformed
scan_n (suc n) fields count fits s =
    elim (cell_of s) [
      | wrong ↦ row_malformed
      | more v u ↦ scan_n n fields (count + 1) (fits && in_range v) u
      | last v u ↦ verdict_of fields (count + 1) (fits && in_range v)
    ]
