-- What each write makes of the record words and the counters, whatever they are.
use Rattle.std.specs.Prelude.{ℕ, ◌+◌, ◌*◌, min, Bool, List, [], ◌∷◌, replicate, ◌==◌, nat_eq, nat_lt, if◌then◌else◌}
use Rattle.definition.specs.Chars.{part}
use Rattle.buffers.specs.Over.{over}
use Rattle.marks.specs.Marks.{converted}
use Rattle.records.specs.declared.Whole.{Whole}
use Rattle.records.specs.declared.Frame.{Frame}
use Rattle.records.specs.declared.Sink.{Sink}
use Rattle.records.specs.declared.Head.{Head}
use Rattle.records.specs.Counts.{word, plus, minus}

-- the words that are lent, and the counters
pub record Written : Type 0 where
  pub words : List ℕ
  pub sink : Sink

abbrev pub written : List ℕ → Sink → Written
written words k = record { words = words; sink = k }

-- the words of the held text's record
unfoldable pub held_words : Whole → Sink → List ℕ
held_words w k = w.kind ∷ word k.from ∷ word (minus k.used k.from) ∷ w.start ∷ w.end ∷ w.mark ∷ 0 ∷ 0 ∷ []

-- the held text, if there is one, becomes a record
unfoldable pub closed : Whole → Written → Written
closed w o =
    let k = o.sink in
    if nat_eq k.held 1 then
    record {
      words = over o.words (k.count * 8) (held_words w k);
      sink = record { count = plus k.count 1; used = k.used; held = 0; from = 0; parts = k.parts };
    } else o

-- a record of the text up to `to`
unfoldable pub put : Frame → (to kind conversion parts place : ℕ) → Written → Written
put fr to kind conversion parts place o =
    let k = o.sink in
    record {
      words = over o.words (k.count * 8) (kind ∷ word k.used ∷ word (minus to k.used) ∷ fr.start ∷ fr.end ∷ conversion ∷ parts ∷ place ∷ []);
      sink = record { count = plus k.count 1; used = to; held = k.held; from = k.from; parts = plus k.parts 1 };
    }

-- the text up to `to` is held
unfoldable pub held : (to : ℕ) → Sink → Sink
held to k = record { count = k.count; used = to; held = 1; from = if k.held == 1 then k.from else k.used; parts = plus k.parts 1 }

-- a literal of the text up to `to`: at depth 0 it is held, deeper it is a record
unfoldable pub literal : Frame → (to nested : ℕ) → Written → Written
literal fr to nested o =
    if nested == 0 then written o.words (held to o.sink) else put fr to 1 0 0 0 (closed fr.whole o)

-- a literal of the text up to `to`, if there is any
unfoldable pub ended : Frame → (to nested : ℕ) → Written → Written
ended fr to nested o = if o.sink.used == to then o else literal fr to nested o

-- a record of the text up to `to`, if there is any: a spec's first, before which nothing is held
unfoldable pub spec_text : Frame → (to : ℕ) → Written → Written
spec_text fr to o = if o.sink.used == to then o else put fr to 1 0 0 0 o

-- a record place is kept for a spec, whose parts are counted from none
unfoldable pub reserved : Sink → Sink
reserved k = record { count = plus k.count 1; used = k.used; held = k.held; from = k.from; parts = 0 }

-- the spec's record at the place that was kept
unfoldable pub specified : Frame → (before : Sink) → Written → Written
specified fr before o =
    let k = o.sink in
    record {
      words = over o.words (before.count * 8) (3 ∷ word before.used ∷ 0 ∷ fr.start ∷ fr.end ∷ 0 ∷ word k.parts ∷ 0 ∷ []);
      sink = record { count = k.count; used = k.used; held = k.held; from = k.from; parts = before.parts };
    }

-- A FIELD documents itself if it has a self-documenting `=`: the text of its expression and the `=` ends at the one count, with the spaces at the other
abbrev pub documents : Head → Bool
documents h = nat_lt 0 h.equals

abbrev pub equal_end : Head → ℕ
equal_end h = plus h.used 1

abbrev pub spaces_end : Head → ℕ
spaces_end h = plus (equal_end h) h.spaces

-- its literals
unfoldable pub documented : Frame → Head → (nested : ℕ) → Written → Written
documented fr h nested o =
    if documents h then literal fr (spaces_end h) nested (literal fr (equal_end h) nested o) else o

-- the text with them, and with the expression from `from` on once more behind them
unfoldable pub spaced : Head → List ℕ → List ℕ
spaced h text = over (over text h.used (61 ∷ [])) (equal_end h) (replicate h.spaces 32)

unfoldable pub documented_text : Head → (from : ℕ) → List ℕ → List ℕ
documented_text h from text =
    if documents h then over (spaced h text) (spaces_end h) (part (spaced h text) from (min h.used (spaces_end h))) else text

-- a field's record, of the text up to `to`
unfoldable pub field_put : Frame → (to conversion parts at : ℕ) → Written → Written
field_put fr to conversion parts at o = put fr to 2 conversion parts (word (fr.base + at)) (closed fr.whole o)

-- and of an expression of so many bytes behind its literals
unfoldable pub field : Frame → Head → (parts at nested : ℕ) → Written → Written
field fr h parts at nested o =
    let a = documented fr h nested o in
    field_put fr (plus a.sink.used (minus h.used o.sink.used)) (converted (documents h) h.conversion parts) parts at a
