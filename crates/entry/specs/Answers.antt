-- What the answers say, in the definition's terms; and what the checks of flat numbers give.
use Rattle.std.specs.Prelude.{ℕ, Bool, not, List, [], ◌∷◌, Result, Ok, Err}
use Rattle.std.proofs.Math.Option.{Option, none, some}
use Rattle.definition.specs.Numbers.{is_fstring, is_bytes, not_sixes}
use Rattle.definition.specs.Entry.{Literal, sixes, refusal, all_good, not_long, all_utf8, not_mixed, first_of, entry}
use Rattle.definition.specs.Entry as d
use Rattle.definition.specs.Reading.{Outcome, accepts, refuses, all_chars, outcome_of}
use Rattle.entry.specs.declared.Descriptor.{Descriptor}
use Rattle.entry.specs.declared.Refusal.{Refusal}
use Rattle.entry.specs.declared.Class.{Class}
use Rattle.entry.specs.declared.Class.TheVariants.{FStrings, Bytes, Others}

-- the literal of a descriptor
unfoldable pub described : Descriptor → Literal
described l = record { kind = l.kind; triple = l.triple; offset = l.offset; size = l.size; start = l.start; end = l.end }

-- its six numbers
unfoldable pub six : Descriptor → List ℕ
six l = l.kind ∷ l.triple ∷ l.offset ∷ l.size ∷ l.start ∷ l.end ∷ []

-- the definition's refusal
abbrev pub refusal_of : Refusal → d.Refusal
refusal_of r =
    record { number = r.number; literal = r.literal; place = r.place; a = r.a; b = r.b; opened = r.opened; line = r.line; column = r.column; chars = r.chars }

-- how much passed, or the refusal
abbrev pub says : Result ℕ Refusal → Outcome ℕ
says (Ok n) = accepts n
says (Err r) = refuses (refusal_of r)

-- 4 to 7, in that order
unfoldable pub later_checks : List ℕ → List Literal → Option d.Refusal
later_checks script ls = first_of (all_good script ls ∷ not_long ls ∷ all_utf8 script ls ∷ not_mixed ls ∷ [])

-- 1 to 7, of flat numbers: the characters of all bodies, or the refusal
unfoldable pub check_numbers : List ℕ → List ℕ → Outcome ℕ
check_numbers script ns =
    elim (sixes ns) [ none ↦ refuses (refusal not_sixes 0 0 0 0) | some ls ↦ outcome_of (all_chars script ls) (entry script ls) ]

-- the kinds of a class
abbrev pub is_of : Class → ℕ → Bool
is_of FStrings kind = is_fstring kind
is_of Bytes kind = is_bytes kind
is_of Others kind = not (is_bytes kind)
