-- A READING WITH THE NAMES OF A LENT FILE: the file and its index are checked after 7. Names are those that the file has.
use Rattle.std.specs.Prelude.{ℕ, true, false, List, [], ◌∷◌, ltb, length}
use Rattle.std.proofs.Math.Option.{Option, none, some}
use Rattle.definition.specs.Records.{Answer}
use Rattle.definition.specs.Entry.{Literal, Refusal, first_of, entry}
use Rattle.definition.specs.Reading.{Outcome, accepts, refuses, read, roomed, Call, called, numbers_by}
use Rattle.definition_names.specs.Names.{lookup_file, check}
use Rattle.definition_scripts.specs.Listing.{Fields, too_long, wrong_names, fields_of, FieldsCall, fields_call}

-- 60, 61, 63; none if the lent index is the file's
unfoldable pub of_names : (file index : List ℕ) → Option Refusal
of_names file index = elim (check file index) [ accepts l ↦ none | refuses r ↦ some r ]

-- A WHOLE LIST, with room for anything
unfoldable pub read_named : (file index script : List ℕ) → List Literal → Outcome Answer
read_named file index script ls =
    elim (first_of (entry script ls ∷ of_names file index ∷ [])) [ some r ↦ refuses r | none ↦ read (lookup_file file) script ls ]

-- WHAT A CALL RETURNS AND LEAVES, with both buffers lent: over descriptors, and over flat numbers
unfoldable pub named_into : (file index script : List ℕ) → List Literal → (words text : List ℕ) → Call
named_into file index script ls words text = called (roomed (length words) (length text) (read_named file index script ls)) words text

unfoldable pub named_numbers : (file index script ns words text : List ℕ) → Call
named_numbers file index script ns words text = numbers_by (λ ls. named_into file index script ls words text) ns words text

-- EVERY FIELD OF A SCRIPT, in a buffer of so many numbers: file and index are checked once, after 49
unfoldable pub fields_named_of : (file index script : List ℕ) (room : ℕ) → Fields
fields_named_of file index s room =
    elim (ltb 1048576 (length s)) [
      | true ↦ too_long
      | false ↦ elim (of_names file index) [ some r ↦ wrong_names r.number | none ↦ fields_of (lookup_file file) s room ]
    ]

unfoldable pub fields_named_into : (file index script buffer : List ℕ) → FieldsCall
fields_named_into file index s buffer = fields_call (fields_named_of file index s (length buffer)) buffer
