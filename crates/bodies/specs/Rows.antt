-- The rows that are written of a literal's fields, by the definition's.
use Rattle.std.specs.Prelude.{ℕ, ◌+◌, ◌*◌, ◌≡◌, List, length, drop}
use Rattle.definition.specs.Body.{signs, Piece}
use Rattle.definition.specs.Rows.{Row, signs_at, field_rows, all_numbers}
use Rattle.buffers.specs.Over.{over}
use Rattle.marks.specs.Marks.{converted}
use Rattle.records.specs.declared.Window.{Window}
use Rattle.records.specs.declared.Frame.{Frame}
use Rattle.records.specs.declared.Head.{Head}
use Rattle.heads.specs.FieldTurns.{is_marked}

-- the row of a field, from its head and where its spec and it end
abbrev pub row_of : Frame → Head → (size parts at colon close : ℕ) → Row
row_of fr h size parts at colon close =
    record {
      start = fr.start;
      place = fr.base + at;
      expression = size;
      conversion = converted (is_marked h.equals) h.conversion parts;
      signs = signs_at fr.base (signs h.equals h.bang colon close);
    }

-- numbers written at a place among all rows, of which those from a window on are lent
abbrev pub Through : Window → (rows rows' : List ℕ) → ℕ → List ℕ → Type 0
Through v rows rows' place ns = (whole : List ℕ) → rows ≡ drop (v.skip * 10) whole → rows' ≡ drop (v.skip * 10) (over whole place ns)

-- the rows of a literal's pieces
abbrev pub rows_of : Frame → List Piece → List Row
rows_of fr ps = field_rows fr.start fr.base ps

-- those rows written after so many fields, and how many fields there are then
pub record Signed (fr : Frame) (ps : List Piece) (rows rows' : List ℕ) (fields n : ℕ) : Type 0 where
  pub wrote : Through fr.window rows rows' (fields * 10) (all_numbers fr.window.within (rows_of fr ps))
  pub counted : n ≡ fields + length (rows_of fr ps)
