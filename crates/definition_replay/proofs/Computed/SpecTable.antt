-- What a call tells of small specifications, a column in quotes, and the limits of what is told: worked out by hand from RULES 12, computed. Assumes nothing.
use Prim.Native.Nat.{ℕ}
use mathlib.Core.Path.{◌≡◌, refl}
use mathlib.Core.List.{List, [], ◌∷◌, map}
use lib.ListN.{length}
use Rattle.definition.specs.Chars.{ascii, inside_any, table37, following, follow, width, decoded, code, next}
use Rattle.definition.specs.Records.{Answer}
use Rattle.definition_replay.specs.Spec.{first, past, front, behind, pointed, past_pointed, fill_size, fill_code, nothing, parts_of, spec_of, rounds}
use Rattle.definition_replay.specs.Integers.{decimal_from}
use Rattle.definition_replay.specs.SpecNumbers.{told_of, spec_numbers}
use Rattle.definition_replay.specs.Trace.{is_text, in_quotes, taken, broken, more_of, quoted_case, quoted_from, column_of}
use Rattle.definition_replay.specs.Replay.{stopped, made, concat, stops, roomed_lines, replay_numbers_of}

-- a specification, and its twelve numbers
pub specs : List (List ℕ × List ℕ)
specs =
    (ascii "", 0 ∷ 0 ∷ 0 ∷ 0 ∷ 0 ∷ 0 ∷ 0 ∷ 0 ∷ 0 ∷ 0 ∷ 0 ∷ 0 ∷ [])
    ∷ (ascii "*<+#010_.3f", 0 ∷ 42 ∷ 60 ∷ 43 ∷ 0 ∷ 1 ∷ 1 ∷ 11 ∷ 95 ∷ 4 ∷ 102 ∷ 1 ∷ [])
    ∷ ((195 ∷ 169 ∷ 94 ∷ 53 ∷ []), 0 ∷ 233 ∷ 94 ∷ 0 ∷ 0 ∷ 0 ∷ 0 ∷ 6 ∷ 0 ∷ 0 ∷ 0 ∷ 0 ∷ [])
    ∷ (ascii ">>", 0 ∷ 62 ∷ 62 ∷ 0 ∷ 0 ∷ 0 ∷ 0 ∷ 0 ∷ 0 ∷ 0 ∷ 0 ∷ 0 ∷ [])
    ∷ (ascii "<", 0 ∷ 0 ∷ 60 ∷ 0 ∷ 0 ∷ 0 ∷ 0 ∷ 0 ∷ 0 ∷ 0 ∷ 0 ∷ 0 ∷ [])
    ∷ (ascii "z.0%", 0 ∷ 0 ∷ 0 ∷ 0 ∷ 1 ∷ 0 ∷ 0 ∷ 0 ∷ 0 ∷ 1 ∷ 37 ∷ 1 ∷ [])
    ∷ (ascii "00", 0 ∷ 0 ∷ 0 ∷ 0 ∷ 0 ∷ 0 ∷ 1 ∷ 1 ∷ 0 ∷ 0 ∷ 0 ∷ 0 ∷ [])
    ∷ (ascii "007", 0 ∷ 0 ∷ 0 ∷ 0 ∷ 0 ∷ 0 ∷ 1 ∷ 8 ∷ 0 ∷ 0 ∷ 0 ∷ 0 ∷ [])
    ∷ (ascii ".3", 0 ∷ 0 ∷ 0 ∷ 0 ∷ 0 ∷ 0 ∷ 0 ∷ 0 ∷ 0 ∷ 4 ∷ 0 ∷ 1 ∷ [])
    ∷ (ascii ".3s", 0 ∷ 0 ∷ 0 ∷ 0 ∷ 0 ∷ 0 ∷ 0 ∷ 0 ∷ 0 ∷ 4 ∷ 115 ∷ 0 ∷ [])
    ∷ (ascii " ,d", 0 ∷ 0 ∷ 0 ∷ 32 ∷ 0 ∷ 0 ∷ 0 ∷ 0 ∷ 44 ∷ 0 ∷ 100 ∷ 0 ∷ [])
    ∷ (ascii "=-4294967294", 0 ∷ 0 ∷ 61 ∷ 45 ∷ 0 ∷ 0 ∷ 0 ∷ 4294967295 ∷ 0 ∷ 0 ∷ 0 ∷ 0 ∷ [])
    ∷ (ascii "4294967293", 0 ∷ 0 ∷ 0 ∷ 0 ∷ 0 ∷ 0 ∷ 0 ∷ 4294967294 ∷ 0 ∷ 0 ∷ 0 ∷ 0 ∷ [])
    ∷ (ascii "4294967295", 0 ∷ 0 ∷ 0 ∷ 0 ∷ 0 ∷ 0 ∷ 0 ∷ 4294967295 ∷ 0 ∷ 0 ∷ 0 ∷ 0 ∷ [])
    ∷ (ascii ".4294967294", 0 ∷ 0 ∷ 0 ∷ 0 ∷ 0 ∷ 0 ∷ 0 ∷ 0 ∷ 0 ∷ 4294967295 ∷ 0 ∷ 1 ∷ [])
    ∷ (ascii ".4294967295d", 0 ∷ 0 ∷ 0 ∷ 0 ∷ 0 ∷ 0 ∷ 0 ∷ 0 ∷ 0 ∷ 4294967295 ∷ 100 ∷ 0 ∷ [])
    ∷ (ascii "b", 0 ∷ 0 ∷ 0 ∷ 0 ∷ 0 ∷ 0 ∷ 0 ∷ 0 ∷ 0 ∷ 0 ∷ 98 ∷ 0 ∷ [])
    ∷ (ascii "c", 0 ∷ 0 ∷ 0 ∷ 0 ∷ 0 ∷ 0 ∷ 0 ∷ 0 ∷ 0 ∷ 0 ∷ 99 ∷ 0 ∷ [])
    ∷ (ascii "d", 0 ∷ 0 ∷ 0 ∷ 0 ∷ 0 ∷ 0 ∷ 0 ∷ 0 ∷ 0 ∷ 0 ∷ 100 ∷ 0 ∷ [])
    ∷ (ascii "o", 0 ∷ 0 ∷ 0 ∷ 0 ∷ 0 ∷ 0 ∷ 0 ∷ 0 ∷ 0 ∷ 0 ∷ 111 ∷ 0 ∷ [])
    ∷ (ascii "s", 0 ∷ 0 ∷ 0 ∷ 0 ∷ 0 ∷ 0 ∷ 0 ∷ 0 ∷ 0 ∷ 0 ∷ 115 ∷ 0 ∷ [])
    ∷ (ascii "x", 0 ∷ 0 ∷ 0 ∷ 0 ∷ 0 ∷ 0 ∷ 0 ∷ 0 ∷ 0 ∷ 0 ∷ 120 ∷ 0 ∷ [])
    ∷ (ascii "X", 0 ∷ 0 ∷ 0 ∷ 0 ∷ 0 ∷ 0 ∷ 0 ∷ 0 ∷ 0 ∷ 0 ∷ 88 ∷ 0 ∷ [])
    ∷ (ascii "e", 0 ∷ 0 ∷ 0 ∷ 0 ∷ 0 ∷ 0 ∷ 0 ∷ 0 ∷ 0 ∷ 0 ∷ 101 ∷ 1 ∷ [])
    ∷ (ascii "E", 0 ∷ 0 ∷ 0 ∷ 0 ∷ 0 ∷ 0 ∷ 0 ∷ 0 ∷ 0 ∷ 0 ∷ 69 ∷ 1 ∷ [])
    ∷ (ascii "f", 0 ∷ 0 ∷ 0 ∷ 0 ∷ 0 ∷ 0 ∷ 0 ∷ 0 ∷ 0 ∷ 0 ∷ 102 ∷ 1 ∷ [])
    ∷ (ascii "F", 0 ∷ 0 ∷ 0 ∷ 0 ∷ 0 ∷ 0 ∷ 0 ∷ 0 ∷ 0 ∷ 0 ∷ 70 ∷ 1 ∷ [])
    ∷ (ascii "g", 0 ∷ 0 ∷ 0 ∷ 0 ∷ 0 ∷ 0 ∷ 0 ∷ 0 ∷ 0 ∷ 0 ∷ 103 ∷ 1 ∷ [])
    ∷ (ascii "G", 0 ∷ 0 ∷ 0 ∷ 0 ∷ 0 ∷ 0 ∷ 0 ∷ 0 ∷ 0 ∷ 0 ∷ 71 ∷ 1 ∷ [])
    ∷ (ascii "n", 0 ∷ 0 ∷ 0 ∷ 0 ∷ 0 ∷ 0 ∷ 0 ∷ 0 ∷ 0 ∷ 0 ∷ 110 ∷ 1 ∷ [])
    ∷ (ascii "%", 0 ∷ 0 ∷ 0 ∷ 0 ∷ 0 ∷ 0 ∷ 0 ∷ 0 ∷ 0 ∷ 0 ∷ 37 ∷ 1 ∷ [])
    ∷ (ascii "q", 68 ∷ 0 ∷ 0 ∷ 0 ∷ 0 ∷ 0 ∷ 0 ∷ 0 ∷ 0 ∷ 0 ∷ 0 ∷ 0 ∷ [])
    ∷ (ascii "5.", 68 ∷ 0 ∷ 0 ∷ 0 ∷ 0 ∷ 0 ∷ 0 ∷ 0 ∷ 0 ∷ 0 ∷ 0 ∷ 0 ∷ [])
    ∷ (ascii "<<<", 68 ∷ 0 ∷ 0 ∷ 0 ∷ 0 ∷ 0 ∷ 0 ∷ 0 ∷ 0 ∷ 0 ∷ 0 ∷ 0 ∷ [])
    ∷ (ascii "+-", 68 ∷ 0 ∷ 0 ∷ 0 ∷ 0 ∷ 0 ∷ 0 ∷ 0 ∷ 0 ∷ 0 ∷ 0 ∷ 0 ∷ [])
    ∷ (ascii "zz", 68 ∷ 0 ∷ 0 ∷ 0 ∷ 0 ∷ 0 ∷ 0 ∷ 0 ∷ 0 ∷ 0 ∷ 0 ∷ 0 ∷ [])
    ∷ (ascii "##", 68 ∷ 0 ∷ 0 ∷ 0 ∷ 0 ∷ 0 ∷ 0 ∷ 0 ∷ 0 ∷ 0 ∷ 0 ∷ 0 ∷ [])
    ∷ (ascii ".", 68 ∷ 0 ∷ 0 ∷ 0 ∷ 0 ∷ 0 ∷ 0 ∷ 0 ∷ 0 ∷ 0 ∷ 0 ∷ 0 ∷ [])
    ∷ (ascii "_,", 68 ∷ 0 ∷ 0 ∷ 0 ∷ 0 ∷ 0 ∷ 0 ∷ 0 ∷ 0 ∷ 0 ∷ 0 ∷ 0 ∷ [])
    ∷ (ascii "f.3", 68 ∷ 0 ∷ 0 ∷ 0 ∷ 0 ∷ 0 ∷ 0 ∷ 0 ∷ 0 ∷ 0 ∷ 0 ∷ 0 ∷ [])
    ∷ (ascii "d ", 68 ∷ 0 ∷ 0 ∷ 0 ∷ 0 ∷ 0 ∷ 0 ∷ 0 ∷ 0 ∷ 0 ∷ 0 ∷ 0 ∷ [])
    ∷ []

pub specs_told : map (λ r. spec_numbers r.0) specs ≡ map (λ r. r.1) specs
unfolding specs ascii inside_any table37 following follow width decoded code next first past front behind pointed past_pointed fill_size fill_code nothing parts_of spec_of rounds decimal_from told_of spec_numbers
specs_told = refl

-- a comma, CR, LF and two quotes stand in quotes, bytes 9, 31 and 127 do not
pub quoted_shown : map column_of ((34 ∷ 97 ∷ 44 ∷ 13 ∷ 10 ∷ 34 ∷ 34 ∷ 98 ∷ 34 ∷ 44 ∷ 120 ∷ []) ∷ (34 ∷ 9 ∷ 34 ∷ []) ∷ (34 ∷ 31 ∷ 34 ∷ []) ∷ (34 ∷ 127 ∷ 34 ∷ []) ∷ (34 ∷ 126 ∷ 34 ∷ []) ∷ [])
    ≡ taken (97 ∷ 44 ∷ 13 ∷ 10 ∷ 34 ∷ 98 ∷ []) (44 ∷ 120 ∷ []) ∷ broken ∷ broken ∷ broken ∷ taken (126 ∷ []) [] ∷ []
unfolding is_text in_quotes more_of quoted_case quoted_from column_of
quoted_shown = refl

-- what is told of a refusal, from the number of a row on that is past all numbers
pub told_most : (x : Answer) (room n : ℕ) → map (roomed_lines x room) (stopped n 4294967294 ∷ stopped n 4294967295 ∷ stopped n 4294967296 ∷ [])
    ≡ stops n 4294967294 ∷ stops n 4294967295 ∷ stops n 4294967295 ∷ []
unfolding roomed_lines
told_most x room n = refl

pub numbers_told : (n k : ℕ) → replay_numbers_of (stops n k) ≡ n ∷ 0 ∷ 0 ∷ 0 ∷ 0 ∷ 0 ∷ 0 ∷ 0 ∷ 0 ∷ k ∷ []
unfolding replay_numbers_of
numbers_told n k = refl

-- lines of so many bytes are 73 in any room
pub lines_most : (x : Answer) (ls : List (List ℕ)) → length (concat ls) ≡ 4294967296 → roomed_lines x 4294967296 (made ls) ≡ stops 73 4294967295
unfolding roomed_lines
lines_most x ls e = rw e refl
