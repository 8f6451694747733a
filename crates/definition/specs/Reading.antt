-- A whole list: its reading, the room it needs, and what the two buffers hold afterwards (parse_strings).
use Rattle.std.specs.Prelude.{ℕ, suc, ◌+◌, ◌/◌, List, [], ◌∷◌, ◌++◌, map, ltb, eqb, length, take, drop, replicate, if◌then◌else◌}
use Rattle.std.proofs.Math.Option.{Option, none, some}
use Rattle.definition.specs.Numbers.{is_fstring, is_bytes, is_unicode, mismatched_delimiter, not_sixes, too_few_record_places, too_little_text_room}
use Rattle.definition.specs.Counts.{counted}
use Rattle.definition.specs.Escapes.{Naming, Fault, got, refused}
use Rattle.definition.specs.Body.{read_body}
use Rattle.definition.specs.Records.{Item, item_of, Record, words_of, Sort, plain, joined, bytes_only, Answer, answer_of}
use Rattle.definition.specs.Entry.{Literal, sixes, place_of, body, Refusal, refusal, moved, any_of, first_start, entry}

-- An outcome
pub data Outcome (A : Type 0) : Type 0 where
  accepts : (answer : A) → Outcome A
  refuses : (why : Refusal) → Outcome A

-- the characters of all bodies
unfoldable pub all_chars : List ℕ → List Literal → ℕ
all_chars script [] = 0
all_chars script (l ∷ ls) = (counted (body script l) (length (body script l))).chars + all_chars script ls

-- a fault's place just after a bracket: 23 has one
unfoldable pub opened_at : Literal → Fault → ℕ
opened_at l x = if eqb x.number mismatched_delimiter then place_of l x.opened else 0

-- a fault in a literal, number i of the list, after the characters of its body up to there
unfoldable pub refusal_in : List ℕ → ℕ → Literal → Fault → Refusal
refusal_in script i l x =
    let k = counted (body script l) x.taken in
    record {
      number = x.number;
      literal = i;
      place = place_of l x.taken;
      a = x.a;
      b = x.b;
      opened = opened_at l x;
      line = k.line;
      column = k.column;
      chars = k.chars;
    }

-- one literal, number i of the list
unfoldable pub read_literal : Naming → List ℕ → ℕ → Literal → Outcome (List Item)
read_literal look script i l =
    elim (read_body look l.kind (body script l)) [
      | got ps j ↦ accepts (map (item_of l.kind l.start l.end (place_of l 0)) ps)
      | refused x ↦ refuses (refusal_in script i l x)
    ]

-- the first's refusal, else the second's, else the items of both
unfoldable pub and_then : Outcome (List Item) → Outcome (List Item) → Outcome (List Item)
and_then (refuses r) o = refuses r
and_then (accepts xs) (refuses r) = refuses r
and_then (accepts xs) (accepts ys) = accepts (xs ++ ys)

-- all literals from number i on, in order: the first refusal wins
unfoldable pub read_from : Naming → List ℕ → ℕ → List Literal → Outcome (List Item)
read_from look script i [] = accepts []
read_from look script i (l ∷ ls) = and_then (read_literal look script i l) (read_from look script (suc i) ls)

unfoldable pub sort_of : List Literal → Sort
sort_of ls = if any_of is_fstring ls then joined else if any_of is_bytes ls then bytes_only else plain

-- 1 if the first kind is 6
unfoldable pub u_mark : List Literal → ℕ
u_mark [] = 0
u_mark (l ∷ ls) = if is_unicode l.kind then 1 else 0

-- the last end, after one of `end`
unfoldable pub last_end : ℕ → List Literal → ℕ
last_end end [] = end
last_end end (l ∷ ls) = last_end l.end ls

-- an acceptance has the characters of all bodies; a refusal also those of the literals before
unfoldable pub answered : List ℕ → List Literal → Outcome (List Item) → Outcome Answer
answered script ls (accepts xs) = accepts (answer_of (sort_of ls) (u_mark ls) (first_start ls) (last_end 0 ls) (all_chars script ls) xs)
answered script ls (refuses r) = refuses (moved r.literal (all_chars script (take r.literal ls) + r.chars) r)

-- A WHOLE LIST, with room for anything
unfoldable pub read : Naming → List ℕ → List Literal → Outcome Answer
read look script ls = elim (entry script ls) [ some r ↦ refuses r | none ↦ answered script ls (read_from look script 0 ls) ]

-- A BODY READ ALONE, as the one literal of a list, of kind 1
abbrev pub alone_as : List ℕ → Literal
alone_as s = record { kind = 1; triple = 0; offset = 0; size = length s; start = 0; end = length s + 3 }

unfoldable pub read_alone : Naming → List ℕ → Outcome Answer
read_alone look s = read look s (alone_as s ∷ [])

-- x, unless a check refuses
unfoldable pub outcome_of : {A : Type 0} → A → Option Refusal → Outcome A
outcome_of x none = accepts x
outcome_of x (some r) = refuses r

-- a refusal for room, after all characters
unfoldable pub short_of : (number records size chars : ℕ) → Refusal
short_of number records size chars = moved 0 chars (refusal number 0 0 records size)

-- 30 before 31, exactly if the buffer holds fewer than needed: record places and bytes that are lent, records and bytes that are needed
unfoldable pub room_for : (places bytes records size chars : ℕ) → Option Refusal
room_for places bytes records size chars =
    if ltb places records then some (short_of too_few_record_places records size chars) else
    if ltb bytes size then some (short_of too_little_text_room records size chars) else none

-- w words and t bytes are lent: eight words make one record place
unfoldable pub roomed : ℕ → ℕ → Outcome Answer → Outcome Answer
roomed w t (refuses r) = refuses r
roomed w t (accepts x) = outcome_of x (room_for (w / 8) t (length x.records) (length x.text) x.chars)

-- the records' words, in order
unfoldable pub all_words : List Record → List ℕ
all_words [] = []
all_words (r ∷ rs) = words_of r ++ all_words rs

-- a buffer with xs in front and what follows unchanged; a buffer of zeros
abbrev pub in_front : List ℕ → List ℕ → List ℕ
in_front xs buffer = xs ++ drop (length xs) buffer

abbrev pub zeros : List ℕ → List ℕ
zeros buffer = replicate (length buffer) 0

-- what the word buffer and the text buffer hold after an outcome
unfoldable pub words_after : Outcome Answer → List ℕ → List ℕ
words_after (refuses r) buffer = zeros buffer
words_after (accepts x) buffer = in_front (all_words x.records) buffer

unfoldable pub text_after : Outcome Answer → List ℕ → List ℕ
text_after (refuses r) buffer = zeros buffer
text_after (accepts x) buffer = in_front x.text buffer

-- WHAT A CALL RETURNS AND LEAVES
pub record Call : Type 0 where
  pub outcome : Outcome Answer
  pub words : List ℕ
  pub text : List ℕ

unfoldable pub called : Outcome Answer → List ℕ → List ℕ → Call
called o words text = record { outcome = o; words = words_after o words; text = text_after o text }

-- the entry over descriptors, with both buffers lent
unfoldable pub read_into : Naming → List ℕ → List Literal → List ℕ → List ℕ → Call
read_into look script ls words text = called (roomed (length words) (length text) (read look script ls)) words text

-- a call over flat numbers, by any call over a list of literals
unfoldable pub numbers_by : (List Literal → Call) → (ns words text : List ℕ) → Call
numbers_by call ns words text = elim (sixes ns) [ none ↦ called (refuses (refusal not_sixes 0 0 0 0)) words text | some ls ↦ call ls ]

-- the entry over flat numbers
unfoldable pub read_numbers : Naming → List ℕ → List ℕ → List ℕ → List ℕ → Call
read_numbers look script ns words text = numbers_by (λ ls. read_into look script ls words text) ns words text

-- The numbers of RULES 5.1 and 5.6: of a sort; of an outcome, 0 first for an acceptance
unfoldable pub sort_number : Sort → ℕ
sort_number plain = 0
sort_number joined = 1
sort_number bytes_only = 2

unfoldable pub numbers : Outcome Answer → List ℕ
numbers (refuses r) = r.number ∷ r.literal ∷ r.place ∷ r.a ∷ r.b ∷ r.opened ∷ r.line ∷ r.column ∷ r.chars ∷ []
numbers (accepts x) = 0 ∷ sort_number x.sort ∷ x.u_mark ∷ x.start ∷ x.end ∷ length x.records ∷ length x.text ∷ 0 ∷ x.chars ∷ []
