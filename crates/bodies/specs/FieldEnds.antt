-- Where a field of a body of kind 1 ends, by the definition's reading of it.
use Rattle.std.specs.Prelude.{ℕ, ◌≤◌, ◌<◌, ◌≡◌, List, length, Result, Ok, Err}
use Rattle.definition.specs.Chars.{next}
use Rattle.definition.specs.Escapes.{held_names, Fault, Read, got, refused}
use Rattle.definition.specs.Body.{Piece, field_n, fresh, enough}
use Rattle.edges.specs.Edges.{Opens}
use Rattle.texts.specs.declared.NoEnd.{NoEnd}
use Rattle.texts.specs.declared.NoEnd.TheVariants.{Refused, Nowhere, TooLong}

-- the field at depth 0 that is read from i on
abbrev pub field_from : List ℕ → ℕ → Read (List Piece)
field_from s i = field_n held_names (enough s) 1 s 0 i i fresh

-- for every body and place
abbrev pub EndIs : List ℕ → ℕ → Result ℕ NoEnd → Type 0
EndIs s i (Ok j) = (length s ≤ 1048576) × Opens s i × ((ps : List Piece) × (field_from s (next s i) ≡ got ps j))
EndIs s i (Err Refused) = (length s ≤ 1048576) × Opens s i × ((x : Fault) × (field_from s (next s i) ≡ refused x))
EndIs s i (Err Nowhere) = (length s ≤ 1048576) × (Opens s i → ⊥)
EndIs s i (Err TooLong) = 1048576 < length s
