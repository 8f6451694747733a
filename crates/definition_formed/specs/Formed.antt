-- AN ANSWER THAT IS LENT, and when it is well formed: by the record rules, ranges, places, u marks and touching literals aside, its texts UTF-8. Nothing of the reading uses it.
use Rattle.std.specs.Prelude.{ℕ, ◌+◌, Bool, true, ◌&&◌, ◌||◌, List, [], ◌∷◌, map, leb, eqb, length}
use Rattle.definition.specs.Chars.{part, well_formed}
use Rattle.definition.specs.Records.{Record, Answer}
use Rattle.definition.specs.Words.{word, held_from, lie, records_formed}

-- WHAT IS LENT: an answer's numbers, 0 first, and both buffers of its reading
pub record Lent : Type 0 where
  pub numbers : List ℕ
  pub words : List ℕ
  pub text : List ℕ

abbrev pub lent : (numbers words text : List ℕ) → Lent
lent ns words text = record { numbers = ns; words = words; text = text }

-- a record, its place aside
unfoldable pub unplaced : Record → Record
unplaced r =
    record { role = r.role; kind = r.kind; offset = r.offset; size = r.size; start = r.start; end = r.end; mode = r.mode; parts = r.parts; place = 0 }

-- the answer that is lent, places aside
unfoldable pub lent_answer : Lent → Answer
lent_answer x =
    let a = held_from x.numbers x.words x.text in
    record { sort = a.sort; u_mark = a.u_mark; start = a.start; end = a.end; records = map unplaced a.records; text = a.text; chars = a.chars }

-- a text is UTF-8
unfoldable pub is_utf8 : List ℕ → Bool
is_utf8 s = leb (length s) (well_formed s)

-- the text of each record but one of bytes is
unfoldable pub texts_utf8 : (text : List ℕ) → List Record → Bool
texts_utf8 text [] = true
texts_utf8 text (r ∷ rs) = (eqb r.kind 4 || is_utf8 (part text r.offset (r.offset + r.size))) && texts_utf8 text rs

-- WELL FORMED: an acceptance of a known sort, whose records and text lie in the buffers, meet the record rules, and are UTF-8
unfoldable pub is_formed : Lent → Bool
is_formed x =
    eqb (word x.numbers 0) 0
    && leb (word x.numbers 1) 2
    && lie (word x.numbers 5) (word x.numbers 6) x.words x.text
    && records_formed (lent_answer x)
    && texts_utf8 (lent_answer x).text (lent_answer x).records
