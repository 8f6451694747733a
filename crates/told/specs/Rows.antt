-- Rows in a buffer, as they are written and read.
use Rattle.std.specs.Prelude.{ℕ, zero, suc, ◌+◌, ◌*◌, ◌≡◌, List, [], ◌∷◌, eqb, ltb, length, get_or, if◌then◌else◌}
use Rattle.definition.specs.Numbers.{read_otherwise}
use Rattle.definition_scripts.specs.Listing.{ListRow, of_field, of_refusal, tens}
use Rattle.buffers.specs.Over.{over}
use Rattle.sources.specs.declared.Field.{Field}
use Rattle.sources.specs.Source.{signs_of, otherwise_of}
use Rattle.told.specs.declared.Told.{Told}

-- a refusal's row
abbrev pub refusal_row : (within : ℕ) → Told → ListRow
refusal_row within t = of_refusal within t.start t.place t.number t.a t.b t.opened

-- rows that are written behind so many, as far as there is room, and how many they are
pub record Wrote (xs : List ListRow) (rows rows' : List ℕ) (count n : ℕ) : Type 0 where
  pub counted : n ≡ length xs
  pub wrote : rows' ≡ over rows (count * 10) (tens xs)

-- the row of 75 of a field, of any script; a field whose source does not lie in the script has none
unfoldable pub told_otherwise : List ℕ → (within : ℕ) → Field → List ListRow
told_otherwise s within f = if ltb (otherwise_of s f) (length s) then of_refusal within f.start (otherwise_of s f) read_otherwise 0 0 0 ∷ [] else []

-- a number of the row at number i; its field, and the row
abbrev pub number_of : List ℕ → (i k : ℕ) → ℕ
number_of rows i k = get_or rows (i * 10 + k) 0

abbrev pub field_of : List ℕ → ℕ → Field
field_of rows i =
    record {
      start = number_of rows i 1;
      place = number_of rows i 2;
      equals = number_of rows i 5;
      bang = number_of rows i 6;
      colon = number_of rows i 7;
      close = number_of rows i 8;
    }

unfoldable pub row_at : List ℕ → ℕ → ListRow
row_at rows i =
    let n = number_of rows i in
    if eqb (get_or rows (i * 10) 0) 5 then of_refusal (n 9) (n 1) (n 2) (n 3) (n 4) (n 5) (n 6)
    else of_field (n 9) (record { start = n 1; place = n 2; expression = n 3; conversion = n 4; signs = signs_of (field_of rows i) })

-- so many rows from number i on
unfoldable pub rows_in : List ℕ → (i n : ℕ) → List ListRow
rows_in rows i zero = []
rows_in rows i (suc n) = row_at rows i ∷ rows_in rows (suc i) n

-- 1 for the first number of a refusal's row, else 0
abbrev pub refusal : ℕ → ℕ
refusal first = if eqb first 5 then 1 else 0
