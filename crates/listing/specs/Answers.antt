-- What a call for the list of a script answers and leaves, by the definition's.
use Rattle.std.specs.Prelude.{ℕ, ◌*◌, ◌≤◌, ◌≡◌, List, length, Result}
use Rattle.definition.specs.Escapes.{Naming}
use Rattle.definition_scripts.specs.Cut.{cut}
use Rattle.definition_scripts.specs.Listing.{tens, reached, rows_of, FieldsCall, fields_numbers}
use Rattle.buffers.specs.Over.{over}
use Rattle.answers.specs.declared.List as list
use Rattle.answers.specs.declared.Unlisted.{Unlisted}
use Rattle.answers.specs.Twelve.{fields_says}
use Rattle.listing.specs.declared.rows.Part.{Part}

-- the rows of a script, written as long as there is room, with the literals of its cut and how far it went
pub record Filled (look : Naming) (s rows rows' : List ℕ) (r : Part) : Type 0 where
  pub among : r.count ≤ length (rows_of look s)
  pub whole : r.count * 10 ≤ length rows → (r.count ≡ length (rows_of look s)) × (rows' ≡ over rows 0 (tens (rows_of look s)))
  pub kept : length rows' ≡ length rows
  pub literals : r.literals ≡ length (cut s).literals
  pub to : r.to ≡ reached (length s) (cut s).ending

-- a call of the definition: what is answered, and the row buffer afterwards
pub record CallIs (call : FieldsCall) (rows' : List ℕ) (r : Result list.List Unlisted) : Type 0 where
  pub answer : fields_says r ≡ fields_numbers call.listed
  pub rows : rows' ≡ call.rows
