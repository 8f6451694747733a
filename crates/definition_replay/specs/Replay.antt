-- A TRACE REPLAYED THROUGH A TEMPLATE: for each row the line that Python would write, column k in the k-th top-level field, then byte 10.
use Rattle.std.specs.Prelude.{ℕ, zero, suc, ◌+◌, min, Bool, true, false, ◌&&◌, ◌||◌, not, List, [], ◌∷◌, ◌++◌, ltb, leb, eqb, length, replicate, if◌then◌else◌}
use Rattle.std.proofs.Math.Option.{Option, none, some}
use Rattle.definition.specs.Numbers.{not_of_grammar, outside_set, row_malformed, wrong_columns, out_of_range, too_little_line_room}
use Rattle.definition.specs.Chars.{part}
use Rattle.definition.specs.Escapes.{Naming}
use Rattle.definition.specs.Records.{Record, Answer}
use Rattle.definition.specs.Entry.{Refusal}
use Rattle.definition.specs.Reading.{Outcome, accepts, refuses, in_front, zeros, numbers, Call, read_numbers}
use Rattle.definition.specs.Words.{owing}
use Rattle.definition_replay.specs.Spec.{spec_of}
use Rattle.definition_replay.specs.Integers.{Integer, Form, form_of, written}
use Rattle.definition_replay.specs.Trace.{rows_of}

-- What is made; or a refusal's number and what is told of it: the field or the row, from 0, or the bytes that are needed
pub data Made (A : Type 0) : Type 0 where
  made : (value : A) → Made A
  stopped : (number told : ℕ) → Made A

-- the first that is refused wins, else all in order
unfoldable pub followed : {A : Type 0} → Made A → Made (List A) → Made (List A)
followed (stopped n k) o = stopped n k
followed (made x) (stopped n k) = stopped n k
followed (made x) (made xs) = made (x ∷ xs)

-- THE TEMPLATE. A part of a line: text, or a field's form
pub data Part : Type 0 where
  stands : (bytes : List ℕ) → Part
  column : (form : Form) → Part

-- the records that stand below one: so many are owed
unfoldable pub records_below : ℕ → List Record → List Record
records_below owed [] = []
records_below zero (r ∷ rs) = []
records_below (suc owed) (r ∷ rs) = r ∷ records_below (owed + r.parts) rs

-- THE TOP-LEVEL ITEMS: each with the records below it. Where records are owed, they stand below one before
abbrev pub TopItem : Type 0
TopItem = Record × List Record

unfoldable pub items_from : (owed : ℕ) → List Record → List TopItem
items_from owed [] = []
items_from owed (r ∷ rs) =
    elim (eqb owed 0) [
      | true ↦ (r, records_below r.parts rs) ∷ items_from (owing owed r.parts) rs
      | false ↦ items_from (owing owed r.parts) rs
    ]

-- a field is among some records
unfoldable pub nested : List Record → Bool
nested [] = false
nested (r ∷ rs) = eqb r.kind 2 || nested rs

-- their texts in order
unfoldable pub texts_of : List ℕ → List Record → List ℕ
texts_of text [] = []
texts_of text (r ∷ rs) = part text r.offset (r.offset + r.size) ++ texts_of text rs

-- the form of a field, number k of the top-level ones, by its conversion and its spec: 68, then 69
unfoldable pub form_made : (k mode : ℕ) (spec : List ℕ) → Made Part
form_made k mode spec =
    elim (spec_of spec) [
      | none ↦ stopped not_of_grammar k
      | some p ↦ elim (form_of p) [
        | none ↦ stopped outside_set k
        | some f ↦ if eqb mode 0 then made (column f) else stopped outside_set k
      ]
    ]

-- the part of an item; a nested field is 69 whatever stands around it
unfoldable pub part_of : (text : List ℕ) (k : ℕ) → Record → List Record → Made Part
part_of t k r rs =
    if eqb r.kind 2
    then (if nested rs then stopped outside_set k else form_made k r.mode (texts_of t rs))
    else made (stands (part t r.offset (r.offset + r.size)))

-- the number of the next field
unfoldable pub fields_past : ℕ → Record → ℕ
fields_past k r = if eqb r.kind 2 then suc k else k

-- the parts of items in order, k fields before them
unfoldable pub parts_from : (text : List ℕ) (k : ℕ) → List TopItem → Made (List Part)
parts_from t k [] = made []
parts_from t k (i ∷ xs) = followed (part_of t k i.0 i.1) (parts_from t (fields_past k i.0) xs)

-- THE PARTS OF A TEMPLATE that was read
unfoldable pub template_of : Answer → Made (List Part)
template_of x = parts_from x.text 0 (items_from 0 x.records)

-- how many columns a row must have
unfoldable pub field_count : List Part → ℕ
field_count [] = 0
field_count (stands t ∷ ps) = field_count ps
field_count (column f ∷ ps) = suc (field_count ps)

-- A LINE: text as it stands, and each field's number
unfoldable pub row_line : List Part → List Integer → List ℕ
row_line [] vs = 10 ∷ []
row_line (stands t ∷ ps) vs = t ++ row_line ps vs
row_line (column f ∷ ps) [] = row_line ps []
row_line (column f ∷ ps) (v ∷ vs) = written f v ++ row_line ps vs

-- from -2,147,483,648 to 2,147,483,647
unfoldable pub in_range : Integer → Bool
in_range v = leb v.size (if v.negative then 0x80000000 else 0x7FFFFFFF)

unfoldable pub all_in_range : List Integer → Bool
all_in_range [] = true
all_in_range (v ∷ vs) = in_range v && all_in_range vs

-- of row i: 70, then 71, then 72, each over the whole row
unfoldable pub row_made : List Part → (i : ℕ) → Option (List Integer) → Made (List ℕ)
row_made ps i none = stopped row_malformed i
row_made ps i (some vs) =
    if not (eqb (length vs) (field_count ps)) then stopped wrong_columns i else
    if not (all_in_range vs) then stopped out_of_range i else made (row_line ps vs)

-- THE LINES of rows from number i on
unfoldable pub lines_from : List Part → (i : ℕ) → List (Option (List Integer)) → Made (List (List ℕ))
lines_from ps i [] = made []
lines_from ps i (r ∷ rs) = followed (row_made ps i r) (lines_from ps (suc i) rs)

unfoldable pub concat : List (List ℕ) → List ℕ
concat [] = []
concat (l ∷ ls) = l ++ concat ls

-- A replay: the template's answer, how many rows there are and their lines; the template's own refusal; or one of 68 to 73
pub data Replayed : Type 0 where
  replays : (reading : Answer) (rows : ℕ) (lines : List ℕ) → Replayed
  unread : (why : Refusal) → Replayed
  stops : (number told : ℕ) → Replayed

-- the answer's numbers are of 32 bits: what is told of a refusal is at most this, and so are the bytes
abbrev pub most_bytes : ℕ
most_bytes = 0xFFFFFFFF

-- 73 only for what is otherwise accepted
unfoldable pub roomed_lines : Answer → (room : ℕ) → Made (List (List ℕ)) → Replayed
roomed_lines x room (stopped n k) = stops n (min k most_bytes)
roomed_lines x room (made ls) =
    let n = length (concat ls) in
    if ltb (min room most_bytes) n then stops too_little_line_room (min n most_bytes) else replays x (length ls) (concat ls)

unfoldable pub lines_of : Made (List Part) → (trace : List ℕ) → Made (List (List ℕ))
lines_of (stopped n k) trace = stopped n k
lines_of (made ps) trace = lines_from ps 0 (rows_of trace)

-- A TRACE through the template that a reading gave, in so many bytes
unfoldable pub replayed : Outcome Answer → (trace : List ℕ) (room : ℕ) → Replayed
replayed (refuses r) trace room = unread r
replayed (accepts x) trace room = roomed_lines x room (lines_of (template_of x) trace)

-- WHAT A CALL RETURNS AND LEAVES: words and text hold the template's records, zeros after any refusal; output the lines
pub record ReplayCall : Type 0 where
  pub result : Replayed
  pub words : List ℕ
  pub text : List ℕ
  pub output : List ℕ

unfoldable pub lines_after : Replayed → List ℕ → List ℕ
lines_after (replays x n l) buffer = in_front l buffer
lines_after (unread r) buffer = zeros buffer
lines_after (stops n k) buffer = zeros buffer

-- a buffer of the reading's
unfoldable pub kept_after : Replayed → List ℕ → List ℕ
kept_after (replays x n l) buffer = buffer
kept_after (unread r) buffer = zeros buffer
kept_after (stops n k) buffer = zeros buffer

unfoldable pub replay_call : Call → (trace output : List ℕ) → ReplayCall
replay_call c trace output =
    let o = replayed c.outcome trace (length output) in
    record { result = o; words = kept_after o c.words; text = kept_after o c.text; output = lines_after o output }

-- over flat numbers
unfoldable pub replay_numbers : Naming → (script ns trace words text output : List ℕ) → ReplayCall
replay_numbers look script ns trace words text output = replay_call (read_numbers look script ns words text) trace output

-- The numbers: the reading's, at 9 the rows, at 10 the bytes; a refusal's, at 9 what is told of it
unfoldable pub replay_numbers_of : Replayed → List ℕ
replay_numbers_of (replays x n l) = numbers (accepts x) ++ (n ∷ length l ∷ [])
replay_numbers_of (unread r) = numbers (refuses r)
replay_numbers_of (stops n k) = n ∷ replicate 8 0 ++ (k ∷ [])
