-- WHAT A READING LEAVES, if it is joined, may be written: 54 is never given for it. Assumes nothing.
use mathlib.Core.Path.{◌≡◌, refl}
use mathlib.Core.Bool.{true}
use mathlib.Core.List.{List, [], ◌∷◌, map}
use Prim.Native.Nat.{ℕ}
use Rattle.definition.specs.Escapes.{held_names}
use Rattle.definition.specs.Records.{Record, joined, Answer}
use Rattle.definition.specs.Reading.{accepts, numbers, sort_number, Call, read_numbers}
use Rattle.definition.specs.Words.{held_from}
use Rattle.definition_names.specs.Names.{searched}
use Rattle.definition_names.specs.NamedReading.{named_numbers}
use Rattle.definition_formed.specs.Formed.{unplaced, lent_answer}
use Rattle.definition_written.specs.Written.{next_parts, own_text, content_from, content, writable}
use Rattle.definition_laws.proofs.Formed.Held.{Held}
use Rattle.definition_formed.proofs.Formed.LentAgain.{lent_of}
use Rattle.definition_formed.proofs.Formed.ReadFormed.{LeavesFormed, held_formed, searched_formed, named_formed}

-- places hold nothing
next_aside : (rs : List Record) → next_parts (map unplaced rs) ≡ next_parts rs
unfolding next_parts unplaced
next_aside [] = refl
next_aside (r ∷ rs) = refl

pub content_aside : (text : List ℕ) (rs : List Record) → content_from text (map unplaced rs) ≡ content_from text rs
unfolding content_from own_text unplaced
content_aside text [] = refl
content_aside text (r ∷ rs) = rw (next_aside rs, content_aside text rs) refl

-- what is lent again holds what was read
pub lent_content : (c : Call) → Held c → (x : Answer) → c.outcome ≡ accepts x → content (lent_answer (lent_of c)) ≡ content x
unfolding content lent_answer numbers
lent_content c held x e =
    let k : held_from (numbers c.outcome) c.words c.text ≡ x = (held x e).0 in
    rw k (content_aside x.text x.records)

-- after a call that accepts
abbrev pub LeavesWritable : Call → Type 0
LeavesWritable c = (x : Answer) → c.outcome ≡ accepts x → x.sort ≡ joined → writable (lent_of c) ≡ true

pub leaves_writable : (c : Call) → LeavesFormed c → LeavesWritable c
unfolding writable numbers sort_number
leaves_writable c formed x e j = let f = formed x e in rw (f, e, j) refl

-- EVERY CALL: with the held names, with a file that is searched, and with one that is checked
pub held_writable : (script ns words text : List ℕ) → LeavesWritable (read_numbers held_names script ns words text)
held_writable script ns words text = leaves_writable (read_numbers held_names script ns words text) (held_formed script ns words text)

pub searched_writable : (file index script ns words text : List ℕ) → LeavesWritable (read_numbers (searched file index) script ns words text)
searched_writable file index script ns words text = leaves_writable (read_numbers (searched file index) script ns words text) (searched_formed file index script ns words text)

pub named_writable : (file index script ns words text : List ℕ) → LeavesWritable (named_numbers file index script ns words text)
named_writable file index script ns words text = leaves_writable (named_numbers file index script ns words text) (named_formed file index script ns words text)
