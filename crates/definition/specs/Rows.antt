-- A field's row: its signs, and the reason of its conversion. The rows of a list of literals, and what a call for them leaves.
use Rattle.std.specs.Prelude.{ℕ, zero, suc, ◌+◌, ◌-◌, ◌/◌, Bool, false, not, ◌||◌, List, [], ◌∷◌, ◌++◌, eqb, length, if◌then◌else◌}
use Rattle.std.proofs.Math.Option.{none, some}
use Rattle.definition.specs.Numbers.{not_sixes}
use Rattle.definition.specs.Chars.{◌is◌, part}
use Rattle.definition.specs.Escapes.{Naming, Read, got, refused}
use Rattle.definition.specs.Body.{Signs, signs, Piece, literal, field, spec, read_body}
use Rattle.definition.specs.Records.{Record, Answer}
use Rattle.definition.specs.Entry.{Literal, sixes, place_of, body, refusal}
use Rattle.definition.specs.Reading.{Outcome, accepts, refuses, outcome_of, room_for, in_front, zeros, read, sort_number, numbers}

-- THE REASON of a field's conversion: 1 written after `!`; 2 none written and no self-documenting `=`; 3 repr, because `=` stands
-- with neither conversion nor spec; 4 none, because `=` stands with a spec
unfoldable pub reason : Signs → ℕ
reason g =
    if not (eqb g.bang 0) then 1 else
    if eqb g.equals 0 then 2 else
    if eqb g.colon 0 then 3 else 4

-- A ROW: a field by where its literal starts, its place, the length of its expression as read, its conversion and its signs.
-- All places are the script's
pub record Row : Type 0 where
  pub start : ℕ
  pub place : ℕ
  pub expression : ℕ
  pub conversion : ℕ
  pub signs : Signs

-- its ten numbers; `within` is the row, from 1, in whose source its literal stands, 0 for a literal of the script
unfoldable pub row_numbers : (within : ℕ) → Row → List ℕ
row_numbers within r =
    let g = r.signs in
    reason g ∷ r.start ∷ r.place ∷ r.expression ∷ r.conversion ∷ g.equals ∷ g.bang ∷ g.colon ∷ g.close ∷ within ∷ []

-- a sign's place in the script, where a body begins at `base`; 0 stays 0
unfoldable pub sign_at : (base taken : ℕ) → ℕ
sign_at base zero = 0
sign_at base (suc j) = base + suc j

unfoldable pub signs_at : (base : ℕ) → Signs → Signs
signs_at base g = signs (sign_at base g.equals) (sign_at base g.bang) (sign_at base g.colon) (sign_at base g.close)

-- the fields among the pieces of a literal that starts at `start` and whose body begins at `base`
unfoldable pub field_rows : (start base : ℕ) → List Piece → List Row
field_rows start base [] = []
field_rows start base (literal d t ∷ ps) = field_rows start base ps
field_rows start base (field d e c n i g ∷ ps) =
    record { start = start; place = base + i; expression = length e; conversion = c; signs = signs_at base g } ∷ field_rows start base ps
field_rows start base (spec n ∷ ps) = field_rows start base ps

-- the pieces of a body that is read
unfoldable pub pieces_of : Read (List Piece) → List Piece
pieces_of (got ps j) = ps
pieces_of (refused x) = []

-- THE ROWS OF A LITERAL, and of several in order
unfoldable pub literal_rows : Naming → (script : List ℕ) → Literal → List Row
literal_rows look script l = field_rows l.start (place_of l 0) (pieces_of (read_body look l.kind (body script l)))

unfoldable pub all_rows : Naming → (script : List ℕ) → List Literal → List Row
all_rows look script [] = []
all_rows look script (l ∷ ls) = literal_rows look script l ++ all_rows look script ls

-- the numbers of rows whose literals stand in the same source, in order
unfoldable pub all_numbers : (within : ℕ) → List Row → List ℕ
all_numbers within [] = []
all_numbers within (r ∷ rs) = row_numbers within r ++ all_numbers within rs

-- AN ACCEPTANCE with its rows
pub record Rowed : Type 0 where
  pub answer : Answer
  pub rows : List Row

unfoldable pub rowed : List Row → Outcome Answer → Outcome Rowed
rowed rows (refuses r) = refuses r
rowed rows (accepts x) = accepts (record { answer = x; rows = rows })

-- n numbers are lent: ten make a place for a row
unfoldable pub roomed_rows : ℕ → Outcome Rowed → Outcome Rowed
roomed_rows n (refuses r) = refuses r
roomed_rows n (accepts x) = outcome_of x (room_for (n / 10) 0 (length x.rows) 0 x.answer.chars)

-- what the row buffer holds after an outcome
unfoldable pub rows_after : Outcome Rowed → List ℕ → List ℕ
rows_after (refuses r) buffer = zeros buffer
rows_after (accepts x) buffer = in_front (all_numbers 0 x.rows) buffer

-- WHAT A CALL RETURNS AND LEAVES
pub record SignsCall : Type 0 where
  pub outcome : Outcome Rowed
  pub rows : List ℕ

unfoldable pub called_rows : Outcome Rowed → List ℕ → SignsCall
called_rows o buffer = record { outcome = o; rows = rows_after o buffer }

-- over descriptors
unfoldable pub signs_into : Naming → (script : List ℕ) → List Literal → (buffer : List ℕ) → SignsCall
signs_into look script ls buffer = called_rows (roomed_rows (length buffer) (rowed (all_rows look script ls) (read look script ls))) buffer

-- over flat numbers
unfoldable pub signs_numbers : Naming → (script ns buffer : List ℕ) → SignsCall
signs_numbers look script ns buffer =
    elim (sixes ns) [ none ↦ called_rows (refuses (refusal not_sixes 0 0 0 0)) buffer | some ls ↦ signs_into look script ls buffer ]

-- The numbers of RULES 7.4: an acceptance has the rows in place of the records, and no text
unfoldable pub rowed_numbers : Outcome Rowed → List ℕ
rowed_numbers (refuses r) = numbers (refuses r)
rowed_numbers (accepts x) =
    let a = x.answer in
    0 ∷ sort_number a.sort ∷ a.u_mark ∷ a.start ∷ a.end ∷ length x.rows ∷ 0 ∷ 0 ∷ a.chars ∷ []

-- WHAT A ROW SHARES WITH ITS FIELD'S RECORD: start, place, length of the expression, conversion, and a spec exactly if it has a `:`
unfoldable pub row_field : Row → List ℕ
row_field r = r.start ∷ r.place ∷ r.expression ∷ r.conversion ∷ (if eqb r.signs.colon 0 then 0 else 1) ∷ []

-- the same of the fields among records, in order
unfoldable pub record_fields : List Record → List (List ℕ)
record_fields [] = []
record_fields (r ∷ rs) =
    if eqb r.kind 2 then (r.start ∷ r.place ∷ r.size ∷ r.mode ∷ r.parts ∷ []) ∷ record_fields rs else record_fields rs

-- A FIELD'S SPEC: there is none; its text; or fields stand in it
pub data FieldSpec : Type 0 where
  absent : FieldSpec
  verbatim : (text : List ℕ) → FieldSpec
  nested : FieldSpec

-- a text has a `{`
unfoldable pub braced : List ℕ → Bool
braced [] = false
braced (b ∷ t) = b is "{" || braced t

-- AS IT IS WRITTEN in the script: what stands between the field's `:` and its `}`
unfoldable pub written_spec : (script : List ℕ) → Signs → FieldSpec
written_spec s g =
    let t = part s g.colon (g.close - 1) in
    if eqb g.colon 0 then absent else
    if braced t then nested else verbatim t

abbrev pub row_spec : (script : List ℕ) → Row → FieldSpec
row_spec s r = written_spec s r.signs

-- AS RECORDS HAVE IT: that of a spec with so many parts, which the records begin with; that of a field with so many
unfoldable pub parts_spec : (text : List ℕ) (parts : ℕ) → List Record → FieldSpec
parts_spec text zero rs = verbatim []
parts_spec text (suc zero) [] = nested
parts_spec text (suc zero) (r ∷ rs) = if eqb r.kind 1 then verbatim (part text r.offset (r.offset + r.size)) else nested
parts_spec text (suc (suc n)) rs = nested

unfoldable pub record_spec : (text : List ℕ) (parts : ℕ) → List Record → FieldSpec
record_spec text zero rs = absent
record_spec text (suc n) [] = nested
record_spec text (suc n) (r ∷ rs) = parts_spec text r.parts rs

-- of the fields among records, in order
unfoldable pub record_specs : (text : List ℕ) → List Record → List FieldSpec
record_specs text [] = []
record_specs text (r ∷ rs) =
    if eqb r.kind 2 then record_spec text r.parts rs ∷ record_specs text rs else record_specs text rs
