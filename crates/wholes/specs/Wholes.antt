-- What is told of a whole list of literals beside their bodies.
use Rattle.std.specs.Prelude.{ℕ, if◌then◌else◌}
use Rattle.definition.specs.Numbers.{is_bytes, is_unicode}
use Rattle.definition.specs.Counts.{Count}
use Rattle.definition.specs.Escapes.{Fault}
use Rattle.definition.specs.Entry.{Literal, place_of, Refusal}
use Rattle.definition.specs.Reading.{opened_at}
use Rattle.records.specs.declared.Whole.{Whole}
use Rattle.records.specs.declared.Sink.{Sink}
use Rattle.records.specs.Counts.{word, plus}

-- nothing is counted yet
abbrev pub nothing : Sink
nothing = record { count = 0; used = 0; held = 0; from = 0; parts = 0 }

-- what every top-level record carries, by a first literal and a last one
unfoldable pub whole_between : Literal → Literal → Whole
whole_between first last =
    record { kind = if is_bytes first.kind then 4 else 1; start = first.start; end = last.end; mark = if is_unicode first.kind then 1 else 0 }

-- the refusal of a fault in a literal, number i of a list, after the characters of its body up to there and so many before it: each number as a word
unfoldable pub refused_in : Literal → ℕ → Fault → Count → ℕ → Refusal
refused_in l i x k before =
    record {
      number = x.number;
      literal = i;
      place = word (place_of l (word x.taken));
      a = x.a;
      b = x.b;
      opened = word (opened_at l x);
      line = word k.line;
      column = word k.column;
      chars = word (plus before k.chars);
    }
