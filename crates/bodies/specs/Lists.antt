-- A list of literals that is read: what is written of it, and what a call for all of it answers and leaves, by the definition's reading.
use Rattle.std.specs.Prelude.{ℕ, ◌+◌, ◌*◌, ◌/◌, ◌≤◌, ◌<◌, ◌≡◌, false, List, length, take, drop, Result, Ok, Err, if◌then◌else◌}
use Rattle.std.proofs.Math.Option.{none, some}
use Rattle.definition.specs.Numbers.{is_bytes, not_sixes}
use Rattle.definition.specs.Chars.{well_formed}
use Rattle.definition.specs.Records.{Role, top, raw, Item, Answer, answer_of}
use Rattle.definition.specs.Escapes.{Naming, Fault}
use Rattle.definition.specs.Entry.{Literal, sixes, opening, place_of, body, Refusal, refusal, moved, total, any_of, first_start}
use Rattle.definition.specs.Reading.{accepts, refuses, all_chars, refusal_in, read_from, sort_of, u_mark, last_end, answered, read, all_words, in_front, zeros}
use Rattle.definition.specs.Reading as lists
use Rattle.definition.specs.Rows.{all_rows, all_numbers}
use Rattle.entry.specs.Answers.{described, refusal_of}
use Rattle.entry.specs.Literals.{literal_at, literals}
use Rattle.entry.proofs.Passed.{Good, Passed}
use Rattle.entry.specs.declared.Descriptor.{Descriptor}
use Rattle.entry.specs.declared.Refusal as entry
use Rattle.bodies.specs.declared.Written.{Written}
use Rattle.bodies.specs.declared.Listed.{Listed}
use Rattle.records.specs.declared.Whole.{Whole}
use Rattle.records.specs.declared.Window.{Window}
use Rattle.records.specs.declared.Frame.{Frame}
use Rattle.records.specs.declared.Sink.{Sink}
use Rattle.bodies.specs.Emit as e
use Rattle.bodies.specs.Emit.{Out, emits, closed}
use Rattle.bodies.specs.Sinks.{whole_of, load_of, out_of, Fits}
use Rattle.bodies.specs.Rows.{Through}
use Rattle.buffers.specs.Over.{over}

-- what every top-level record of literals carries
abbrev pub whole_for : List Literal → e.Whole
whole_for ls = record { kind = if any_of is_bytes ls then 4 else 1; start = first_start ls; end = last_end 0 ls; mark = u_mark ls }

-- the role of every top-level record of literals
abbrev pub role_for : List Literal → Role
role_for ls = if any_of is_bytes ls then raw else top

-- nothing is written yet
abbrev pub empty : List ℕ → List ℕ → Out
empty words text = record { words = words; text = text; count = 0; used = 0; held = false; from = 0 }

-- the window of a call without rows
abbrev pub no_rows : Window
no_rows = record { within = 0; skip = 0 }

-- the body of a good literal lies in the script, and all that is still to come fits
pub record Room (script : List ℕ) (l : Descriptor) (k : Sink) : Type 0 where
  pub inside : l.offset + l.size ≤ length script
  pub small : l.size ≤ 1048576
  pub places : l.start + opening (described l) + l.size < 4294967296
  pub load : load_of k + 8 * l.size ≤ 16777216
  pub ordered : k.from ≤ k.used

-- the body of a good literal lies in the script, so many of its bytes are taken, and their place and that of a bracket are numbers
pub record Stands (script : List ℕ) (l : Descriptor) (taken opened : ℕ) : Type 0 where
  pub inside : l.offset + l.size ≤ length script
  pub small : l.size ≤ 1048576
  pub within : taken ≤ l.size
  pub place : place_of (described l) taken < 4294967296
  pub bracket : place_of (described l) opened < 4294967296

-- the first k literals are good, well-formed up to their ends, and not too long
pub record First (script ns : List ℕ) (k : ℕ) : Type 0 where
  pub good : (i : ℕ) → i < k → Good script (literal_at ns i)
  pub formed : (i : ℕ) → i < k → let s = body script (literal_at ns i) in length s ≤ well_formed s
  pub short : total (literals ns 0 k) ≤ 1048576

-- a fault in literal i of flat numbers, after the characters of the literals before
abbrev pub refused_at : (script ns : List ℕ) → ℕ → Literal → Fault → Refusal
refused_at script ns i l x = let r = refusal_in script i l x in moved i (all_chars script (literals ns 0 i) + r.chars) r

-- where a literal stands
abbrev pub frame_of : Descriptor → Whole → Window → Frame
frame_of l w v = record { kind = l.kind; start = l.start; end = l.end; base = l.start + opening (described l); whole = w; window = v }

-- items that are emitted into empty buffers: the counters and buffers afterwards
pub record Wrote (w : e.Whole) (xs : List Item) (words text words' text' : List ℕ) (r : Sink) : Type 0 where
  pub out : out_of r words' text' ≡ emits w xs (empty words text)
  pub fits : Fits r

-- literals that are read: their items are emitted
pub record All (reading : lists.Outcome (List Item)) (w : e.Whole) (words text words' text' : List ℕ) (r : Sink) : Type 0 where
  pub items : List Item
  pub reads : reading ≡ accepts items
  pub wrote : Wrote w items words text words' text' r

abbrev pub ListIs : (look : Naming) → List ℕ → List Literal → e.Whole → List ℕ → List ℕ → List ℕ → List ℕ → Result Listed entry.Refusal → Type 0
ListIs look script ls w words text words' text' (Ok x) = All (read_from look script 0 ls) w words text words' text' x.sink
ListIs look script ls w words text words' text' (Err x) = answered script ls (read_from look script 0 ls) ≡ refuses (refusal_of x)

-- and their rows are written, and counted; each field has a record
pub record Rowed (look : Naming) (v : Window) (script : List ℕ) (ls : List Literal) (rows rows' : List ℕ) (r : Sink) (n : ℕ) : Type 0 where
  pub wrote : Through v rows rows' 0 (all_numbers v.within (all_rows look script ls))
  pub counted : n ≡ length (all_rows look script ls)
  pub few : n ≤ r.count

abbrev pub RowsAre : (look : Naming) → Window → List ℕ → List Literal → List ℕ → List ℕ → Result Listed entry.Refusal → Type 0
RowsAre look v script ls rows rows' (Ok x) = Rowed look v script ls rows rows' x.sink x.fields
RowsAre look v script ls rows rows' (Err x) = Unit {0}

-- what is told of a list whose held text is closed
pub record ClosedAs (w : Whole) (k : Sink) (fields chars : ℕ) (words words' : List ℕ) (r : Written) : Type 0 where
  pub sink : Sink
  pub out : (text : List ℕ) → out_of sink words' text ≡ closed (whole_of w) (out_of k words text)
  pub is : r ≡ record { kind = w.kind; mark = w.mark; start = w.start; end = w.end; records = sink.count; text = sink.used; fields = fields; chars = chars }

-- A WHOLE LIST OF FLAT NUMBERS, with room for anything
unfoldable pub read_flat : Naming → (script ns : List ℕ) → lists.Outcome Answer
read_flat look script ns = elim (sixes ns) [ none ↦ refuses (refusal not_sixes 0 0 0 0) | some ls ↦ read look script ls ]

-- the answer of literals and their items
abbrev pub answer_for : List ℕ → List Literal → List Item → Answer
answer_for script ls xs = answer_of (sort_of ls) (u_mark ls) (first_start ls) (last_end 0 ls) (all_chars script ls) xs

-- an answer lies over both buffers, as far as they go, and is counted
pub record Landed (x : Answer) (words text words' text' : List ℕ) (records size : ℕ) : Type 0 where
  pub count : records ≡ length x.records
  pub used : size ≡ length x.text
  pub words_are : words' ≡ over words 0 (all_words x.records)
  pub text_is : text' ≡ over text 0 x.text

-- literals that passed the checks, and are accepted: all three buffers before and after, and what is counted
pub record DoneIs (look : Naming) (within skip : ℕ) (script ns words text rows words' text' rows' : List ℕ) (w : Written) : Type 0 where
  pub passed : Passed script ns (length ns / 6)
  pub items : List Item
  pub reads : read_from look script 0 (literals ns 0 (length ns / 6)) ≡ accepts items
  pub landed : Landed (answer_for script (literals ns 0 (length ns / 6)) items) words text words' text' w.records w.text
  pub rows_are : rows' ≡ in_front (take (length rows) (drop (skip * 10) (all_numbers within (all_rows look script (literals ns 0 (length ns / 6)))))) rows
  pub whole : ◌≡◌ {A = e.Whole} (record { kind = w.kind; start = w.start; end = w.end; mark = w.mark }) (whole_for (literals ns 0 (length ns / 6)))
  pub fields : w.fields ≡ length (all_rows look script (literals ns 0 (length ns / 6)))
  pub chars : w.chars ≡ all_chars script (literals ns 0 (length ns / 6))

-- a refusal leaves zeros in all three
pub record RefusedIs (look : Naming) (script ns words text rows words' text' rows' : List ℕ) (x : entry.Refusal) : Type 0 where
  pub reads : read_flat look script ns ≡ refuses (refusal_of x)
  pub words_are : words' ≡ zeros words
  pub text_is : text' ≡ zeros text
  pub rows_are : rows' ≡ zeros rows

-- WHAT A CALL FOR ALL OF A LIST ANSWERS AND LEAVES
abbrev pub ReadingIs : (look : Naming) (within skip : ℕ) (script ns words text rows words' text' rows' : List ℕ) → Result Written entry.Refusal → Type 0
ReadingIs look within skip script ns words text rows words' text' rows' (Ok w) = DoneIs look within skip script ns words text rows words' text' rows' w
ReadingIs look within skip script ns words text rows words' text' rows' (Err x) = RefusedIs look script ns words text rows words' text' rows' x
