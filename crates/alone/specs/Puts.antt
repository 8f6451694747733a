-- Rows in a buffer, as they are written and read.
use Rattle.std.specs.Prelude.{ℕ, ◌+◌, ◌*◌, ◌≤◌, ◌<◌, ◌≡◌, List, [], ◌∷◌, length, take, drop, Result, Ok, Err}
use Rattle.definition.specs.Escapes.{Naming}
use Rattle.definition.specs.Entry.{Literal}
use Rattle.definition.specs.Reading.{in_front, zeros}
use Rattle.definition_scripts.specs.Listing.{ListRow, tens, read_rows, refusals_in}
use Rattle.buffers.specs.Over.{over}
use Rattle.told.specs.Rows.{refusal_row}
use Rattle.told.specs.declared.Told.{Told}

-- rows that are written behind so many, if there is room for them, and how many there are then
pub record Puts (xs : List ListRow) (rows rows' : List ℕ) (count n : ℕ) : Type 0 where
  pub counted : n ≡ count + length xs
  pub wrote : n * 10 ≤ length rows → rows' ≡ over rows (count * 10) (tens xs)
  pub kept : length rows' ≡ length rows

-- whatever room there is: a front of rows, stored behind so many as far as the buffer goes
pub record Front (xs : List ListRow) (rows rows' : List ℕ) (count : ℕ) : Type 0 where
  pub many : ℕ
  pub stored : rows' ≡ over rows (count * 10) (tens (take many xs))

-- the rows of an f-string that is read alone: so many fields, written from number `skip` on as far as there is room
pub record Reads (xs : List ListRow) (skip : ℕ) (rows rows' : List ℕ) (n : ℕ) : Type 0 where
  pub fields : refusals_in xs ≡ 0
  pub counted : n ≡ length xs
  pub few : n < 4294967296
  pub wrote : rows' ≡ in_front (take (length rows) (drop (skip * 10) (tens xs))) rows

-- so many fields, or its refusal
abbrev pub AloneIs : (look : Naming) → (s : List ℕ) → Literal → (within skip : ℕ) → (rows rows' : List ℕ) → Result ℕ Told → Type 0
AloneIs look s l within skip rows rows' (Ok n) = Reads (read_rows look s within l) skip rows rows' n
AloneIs look s l within skip rows rows' (Err t) = (read_rows look s within l ≡ refusal_row within t ∷ []) × (rows' ≡ zeros rows)
