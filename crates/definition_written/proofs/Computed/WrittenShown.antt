-- Small spellings, which read back and which do not, and answers that may be written or not: a table and a claim over it each, computed. Assumes nothing.
use Prim.Native.Nat.{ℕ}
use mathlib.Core.Path.{◌≡◌, refl}
use mathlib.Core.Bool.{Bool, true, false}
use mathlib.Core.List.{List, [], ◌∷◌, ◌++◌, map}
use lib.ListN.{set, replicate}
use Rattle.definition.specs.Escapes.{held_names}
use Rattle.definition.specs.Numbers.{prefix}
use Rattle.definition.specs.Chars.{ascii, inside_any, table37, following, follow, width, decoded, code, next, char, formed_from, well_formed, utf8, white_space, before, same}
use Rattle.definition.specs.Counts.{more, count_from, counted}
use Rattle.definition.specs.Escapes.{octal_digit, octal_from, hex_digit, scalar, hex_from, lookup, named, unicode_name, escape_case, escape, encode, meant}
use Rattle.definition.specs.Body.{with_escape, string_case, string_move, string_n, text_case, text_move, filled, with_equals, with_bang, with_colon, with_close, fresh, add, documented, spaced, formatted, outside, field_case, case_of, conversion_move, open_move, close_move, quote_move, field_move, direct, conversion_of, field_pieces, self_documenting, finished, specified, plain_run, text_n, alone, read_body}
use Rattle.definition.specs.Matched.{closed, see, settled, blank_after, braceless}
use Rattle.definition.specs.Records.{touching, covers, item, item_of, glue, merge, both_items, merged, texts, record_at, laid, cover, answer_of}
use Rattle.definition.specs.Entry.{refusal, opening, place_of, body, moved, not_empty, not_many, first_bad, bad, all_good, total, not_long, formed, ill_formed, all_utf8, any_of, first_start, not_mixed, first_of, entry}
use Rattle.definition.specs.Reading.{opened_at, refusal_in, read_literal, and_then, read_from, sort_of, u_mark, last_end, all_chars, answered, read, read_alone}
use Rattle.definition.specs.Words.{role_at, records_from, sort_from, answer_from, held_from, lie, fits, all_fit, ordered, gapless, no_bytes, one_of, sorted, records_formed}
use Rattle.definition_formed.specs.Formed.{lent, unplaced, lent_answer, is_utf8, texts_utf8, is_formed}
use Rattle.definition_written.specs.Written.{Content, empty, says, puts, forms, top, first_parts, later_parts, next_parts, own_text, holding, content_from, content, filled_with, alike_after, same_content, past_field, spelled_byte, spelled_text, spelled_conversion, spelled, held_alike, reads_alike, writable, written, body_after, written_into, written_numbers}
use Rattle.definition_written.specs.ReadsBack.{is_open, few_open, clean, text_reads, begins_well, field_reads, parts_read, reads_back}

-- what is held, its spelling, and whether that reads back
pub record Row : Type 0 where
  pub held : Content
  pub body : List ℕ
  pub back : Bool

abbrev row : Content → List ℕ → Bool → Row
row p s b = record { held = p; body = s; back = b }

-- so many brackets, one in the other
abbrev brackets : ℕ → List ℕ
brackets n = replicate n 40 ++ replicate n 41

pub rows : List Row
unfolding ascii
rows =
    -- texts, fields, specs
    row (empty) (ascii "") true
    ∷ row (says (ascii "a") (forms (ascii "x") 0 (says (ascii ">5") empty) empty)) (ascii "a{x:>5}") true
    ∷ row (says (ascii "x=") (puts (ascii "x") 114 empty)) (ascii "x={x!r}") true
    ∷ row (says (ascii "x = ") (forms (ascii "x ") 115 empty empty)) (ascii "x = {x !s:}") true
    ∷ row (says (ascii "{") (puts (ascii "x") 0 (says (ascii "}") empty))) (ascii "{{{x}}}") true
    ∷ row (says (ascii "\\q") empty) (ascii "\\\\q") true
    ∷ row (says (ascii "\\") (puts (ascii "x") 0 empty)) (ascii "\\\\{x}") true
    ∷ row (forms (ascii "x") 0 (says (ascii "\\n>") (puts (ascii "w") 0 (says (ascii "\n") empty))) empty) (ascii "{x:\\n>{w}\n}") true
    ∷ row (forms (ascii "x") 0 (says (ascii "\\") (puts (ascii "w") 0 (says (ascii "\\") (puts (ascii "v") 0 (says (ascii "{}") empty))))) empty) (ascii "{x:\\{w}\\\\{v}\\x7b\\x7d}") true
    ∷ row (forms (ascii "x") 0 (forms (ascii "y") 0 (says (ascii "z") empty) empty) empty) (ascii "{x:{y:z}}") true
    ∷ row (forms (ascii "x") 0 (puts (ascii "{}") 0 empty) empty) (ascii "{x:{{}}}") true
    ∷ row (says (ascii "a") (says (ascii "") (says (ascii "b") empty))) (ascii "ab") true
    ∷ row (forms (ascii "x") 0 (says (ascii "a") (says (ascii "") (says (ascii "b") empty))) empty) (ascii "{x:ab}") true
    ∷ row (says (ascii "") (forms (ascii "x") 0 (says (ascii "") empty) empty)) (ascii "{x:}") true
    ∷ row (forms (ascii "x!=y") 114 (puts (ascii "z") 97 empty) empty) (ascii "{x!=y!r:{z!a}}") true
    ∷ row (puts (ascii "(=)") 0 empty) (ascii "{(=)}") true
    ∷ row (puts (ascii "(:)") 0 empty) (ascii "{(:)}") true
    ∷ row (puts (ascii "(!)") 0 empty) (ascii "{(!)}") true
    ∷ row (puts (ascii "'\\'") 0 empty) (ascii "{'\\'}") true
    ∷ row (puts (ascii "x<") 0 empty) (ascii "{x<}") true
    ∷ row (puts (ascii "==") 0 empty) (ascii "{==}") true
    ∷ row (puts (ascii "a<==b") 0 empty) (ascii "{a<==b}") false
    ∷ row (puts (ascii " {} ") 0 empty) (ascii "{ {} }") true
    -- A: a top-level expression begins with a brace
    ∷ row (puts (ascii "{}") 0 empty) (ascii "{{}}") false
    ∷ row (says (ascii "a") (puts (ascii "{x}") 0 empty)) (ascii "a{{x}}") false
    ∷ row (puts (ascii "x") 0 (puts (ascii "{") 0 empty)) (ascii "{x}{{}") false
    -- B: a brace early in a spec
    ∷ row (forms (ascii "x") 0 (says (ascii "{") empty) empty) (ascii "{x:{}") false
    ∷ row (forms (ascii "x") 0 (says (ascii "}") empty) empty) (ascii "{x:}}") false
    ∷ row (forms (ascii "x") 0 (says (ascii "a}") (puts (ascii "w") 0 empty)) empty) (ascii "{x:a}{w}}") false
    ∷ row (forms (ascii "x") 0 (forms (ascii "y") 0 (says (ascii "}") empty) empty) empty) (ascii "{x:{y:}}}") false
    ∷ row (forms (ascii "x") 0 (says (ascii "{y=") (puts (ascii "y") 114 empty)) empty) (ascii "{x:{y={y!r}}") false
    ∷ row (forms (ascii "x") 0 (says (ascii "'}'=") (puts (ascii "'}'") 114 empty)) empty) (ascii "{x:'}'={'}'!r}}") false
    -- D: an expression that is not clean
    ∷ row (puts (ascii "") 0 empty) (ascii "{}") false
    ∷ row (puts (ascii " ") 0 empty) (ascii "{ }") false
    ∷ row (puts (ascii "x:y") 0 empty) (ascii "{x:y}") false
    ∷ row (puts (ascii "x!r") 0 empty) (ascii "{x!r}") false
    ∷ row (puts (ascii "x=") 0 empty) (ascii "{x=}") false
    ∷ row (puts (ascii "x=y") 0 empty) (ascii "{x=y}") false
    ∷ row (puts (ascii "===") 0 empty) (ascii "{===}") false
    ∷ row (puts (ascii "(") 0 empty) (ascii "{(}") false
    ∷ row (puts (ascii ")") 0 empty) (ascii "{)}") false
    ∷ row (puts (ascii "(]") 0 empty) (ascii "{(]}") false
    ∷ row (puts (ascii "'") 0 empty) (ascii "{'}") false
    ∷ row (puts (ascii "\\") 0 empty) (ascii "{\\}") false
    ∷ row (puts (ascii "x}") 0 empty) (ascii "{x}}") false
    ∷ row (puts (ascii "!") 0 empty) (ascii "{!}") false
    ∷ row (puts (ascii "x!") 0 empty) (ascii "{x!}") false
    ∷ row (puts (brackets 64) 0 empty) (123 ∷ (brackets 64 ++ (125 ∷ []))) true
    ∷ row (puts (brackets 65) 0 empty) (123 ∷ (brackets 65 ++ (125 ∷ []))) false
    -- E: a field three deep
    ∷ row (forms (ascii "x") 0 (forms (ascii "y") 0 (puts (ascii "z") 0 empty) empty) empty) (ascii "{x:{y:{z}}}") false
    ∷ row (forms (ascii "x") 0 (forms (ascii "y") 0 (says (ascii "a") (puts (ascii "z") 0 empty)) empty) empty) (ascii "{x:{y:a{z}}}") false
    ∷ []

pub spellings_shown : map (λ r. spelled top r.held) rows ≡ map (λ r. r.body) rows
unfolding rows ascii spelled spelled_text spelled_byte spelled_conversion past_field
spellings_shown = refl

-- by reading, and by what is held
pub readings_shown : map (λ r. reads_alike held_names r.held) rows ≡ map (λ r. r.back) rows
unfolding rows prefix ascii inside_any table37 following follow width decoded code next char formed_from well_formed utf8 white_space before same more count_from counted octal_digit octal_from hex_digit scalar hex_from lookup named unicode_name escape_case escape encode meant with_escape string_case string_move string_n text_case text_move filled with_equals with_bang with_colon with_close fresh add documented spaced formatted outside field_case case_of conversion_move open_move close_move quote_move field_move direct conversion_of field_pieces self_documenting finished specified plain_run text_n alone read_body touching covers item item_of glue merge both_items merged texts record_at laid cover answer_of opening place_of body refusal moved not_empty not_many first_bad bad all_good total not_long formed ill_formed all_utf8 any_of first_start not_mixed first_of entry opened_at refusal_in read_literal and_then read_from sort_of u_mark last_end all_chars answered read role_at records_from sort_from answer_from held_from first_parts later_parts next_parts own_text holding content_from content filled_with alike_after same_content past_field spelled_byte spelled_text spelled_conversion spelled read_alone held_alike reads_alike
readings_shown = refl

pub rules_shown : map (λ r. reads_back r.held) rows ≡ map (λ r. r.back) rows
unfolding rows ascii inside_any table37 following follow width decoded code next white_space closed see settled blank_after braceless spelled spelled_text spelled_byte spelled_conversion past_field is_open few_open clean text_reads begins_well field_reads parts_read reads_back
rules_shown = refl

-- WHAT A CALL TELLS AND LEAVES. `ab{x!r:c{y}}`: a literal, a field, its spec of a literal and a field
abbrev numbers : List ℕ
numbers = 0 ∷ 1 ∷ 0 ∷ 0 ∷ 15 ∷ 5 ∷ 5 ∷ 0 ∷ 12 ∷ 0 ∷ 0 ∷ 0 ∷ []

abbrev words : List ℕ
words =
    1 ∷ 0 ∷ 2 ∷ 0 ∷ 15 ∷ 0 ∷ 0 ∷ 0
    ∷ 2 ∷ 2 ∷ 1 ∷ 0 ∷ 15 ∷ 114 ∷ 1 ∷ 5
    ∷ 3 ∷ 3 ∷ 0 ∷ 0 ∷ 15 ∷ 0 ∷ 2 ∷ 0
    ∷ 1 ∷ 3 ∷ 1 ∷ 0 ∷ 15 ∷ 0 ∷ 0 ∷ 0
    ∷ 2 ∷ 4 ∷ 1 ∷ 0 ∷ 15 ∷ 0 ∷ 0 ∷ 11 ∷ []

-- what is lent, a buffer, the numbers that are told and what the buffer then holds
pub record Call : Type 0 where
  pub told : List ℕ
  pub left : List ℕ
  pub numbered : List ℕ
  pub holds : List ℕ

abbrev call : (numbers words text body : List ℕ) → (numbered holds : List ℕ) → Call
call ns words text body numbered holds =
    let c = written_into held_names (lent ns words text) body in record { told = written_numbers c.result; left = c.body; numbered = numbered; holds = holds }

-- a buffer of so many nines
abbrev nines : ℕ → List ℕ
nines n = replicate n 9

abbrev refused : (number needed : ℕ) → List ℕ
refused n k = n ∷ 0 ∷ 0 ∷ 0 ∷ 0 ∷ 0 ∷ 0 ∷ 0 ∷ 0 ∷ k ∷ []

abbrev wrote : List ℕ
wrote = 0 ∷ 12 ∷ []

pub calls : List Call
unfolding ascii
calls =
    -- as it was read, with room to spare, just enough and one byte short
    call numbers words (ascii "abxcy") (nines 14) wrote (ascii "ab{x!r:c{y}}" ++ (9 ∷ 9 ∷ []))
    ∷ call numbers words (ascii "abxcy") (nines 12) wrote (ascii "ab{x!r:c{y}}")
    ∷ call numbers words (ascii "abxcy") (nines 11) (refused 56 12) (replicate 11 0)
    ∷ call numbers words (ascii "abxcy") [] (refused 56 12) []
    -- words and text longer than the answer
    ∷ call numbers (words ++ (7 ∷ [])) (ascii "abxcyz") (nines 12) wrote (ascii "ab{x!r:c{y}}")
    -- whatever ranges, places and u marks hold; so the other numbers
    ∷ call numbers (set words 3 9) (ascii "abxcy") (nines 12) wrote (ascii "ab{x!r:c{y}}")
    ∷ call numbers (set words 12 9) (ascii "abxcy") (nines 12) wrote (ascii "ab{x!r:c{y}}")
    ∷ call numbers (set words 7 9) (ascii "abxcy") (nines 12) wrote (ascii "ab{x!r:c{y}}")
    ∷ call numbers (set words 23 9) (ascii "abxcy") (nines 12) wrote (ascii "ab{x!r:c{y}}")
    ∷ call numbers (set words 5 9) (ascii "abxcy") (nines 12) wrote (ascii "ab{x!r:c{y}}")
    ∷ call numbers (set words 29 300) (ascii "abxcy") (nines 12) wrote (ascii "ab{x!r:c{y}}")
    ∷ call (set numbers 2 7) words (ascii "abxcy") (nines 12) wrote (ascii "ab{x!r:c{y}}")
    -- 54: a refusal's numbers, another sort, a rule broken, too few words, too little text
    ∷ call (set numbers 0 25) words (ascii "abxcy") (nines 3) (refused 54 0) (0 ∷ 0 ∷ 0 ∷ [])
    ∷ call (set numbers 1 0) words (ascii "abxcy") (nines 3) (refused 54 0) (0 ∷ 0 ∷ 0 ∷ [])
    ∷ call (set numbers 1 2) words (ascii "abxcy") (nines 3) (refused 54 0) (0 ∷ 0 ∷ 0 ∷ [])
    ∷ call (set numbers 1 3) words (ascii "abxcy") (nines 3) (refused 54 0) (0 ∷ 0 ∷ 0 ∷ [])
    ∷ call (0 ∷ 0 ∷ 0 ∷ 0 ∷ 0 ∷ 1 ∷ 1 ∷ []) (1 ∷ 0 ∷ 1 ∷ 0 ∷ 0 ∷ 0 ∷ 0 ∷ 0 ∷ []) (ascii "a") (nines 3) (refused 54 0) (0 ∷ 0 ∷ 0 ∷ [])
    ∷ call numbers (set words 21 1) (ascii "abxcy") (nines 3) (refused 54 0) (0 ∷ 0 ∷ 0 ∷ [])
    ∷ call (set numbers 5 6) words (ascii "abxcy") (nines 3) (refused 54 0) (0 ∷ 0 ∷ 0 ∷ [])
    ∷ call (set numbers 6 6) words (ascii "abxcy") (nines 3) (refused 54 0) (0 ∷ 0 ∷ 0 ∷ [])
    ∷ call [] [] [] (nines 3) (refused 54 0) (0 ∷ 0 ∷ 0 ∷ [])
    -- é, whole and parted between two records
    ∷ call (0 ∷ 1 ∷ 0 ∷ 0 ∷ 0 ∷ 1 ∷ 2 ∷ []) (1 ∷ 0 ∷ 2 ∷ 0 ∷ 0 ∷ 0 ∷ 0 ∷ 0 ∷ []) (195 ∷ 169 ∷ []) (nines 3) (0 ∷ 2 ∷ []) (195 ∷ 169 ∷ 9 ∷ [])
    ∷ call (0 ∷ 1 ∷ 0 ∷ 0 ∷ 0 ∷ 2 ∷ 2 ∷ []) (1 ∷ 0 ∷ 1 ∷ 0 ∷ 0 ∷ 0 ∷ 0 ∷ 0 ∷ 1 ∷ 1 ∷ 1 ∷ 0 ∷ 0 ∷ 0 ∷ 0 ∷ 0 ∷ []) (195 ∷ 169 ∷ []) (nines 3) (refused 54 0) (0 ∷ 0 ∷ 0 ∷ [])
    -- 55, also where there is no room
    ∷ call (0 ∷ 1 ∷ 0 ∷ 0 ∷ 0 ∷ 1 ∷ 0 ∷ []) (2 ∷ 0 ∷ 0 ∷ 0 ∷ 0 ∷ 0 ∷ 0 ∷ 0 ∷ []) [] (nines 3) (refused 55 0) (0 ∷ 0 ∷ 0 ∷ [])
    ∷ call (0 ∷ 1 ∷ 0 ∷ 0 ∷ 0 ∷ 1 ∷ 0 ∷ []) (2 ∷ 0 ∷ 0 ∷ 0 ∷ 0 ∷ 0 ∷ 0 ∷ 0 ∷ []) [] [] (refused 55 0) []
    -- nothing
    ∷ call (0 ∷ 1 ∷ 0 ∷ 0 ∷ 0 ∷ 0 ∷ 0 ∷ []) [] [] (nines 2) (0 ∷ 0 ∷ []) (9 ∷ 9 ∷ [])
    ∷ []

pub calls_shown : map (λ c. c.told ∷ c.left ∷ []) calls ≡ map (λ c. c.numbered ∷ c.holds ∷ []) calls
unfolding calls prefix ascii inside_any table37 following follow width decoded code next char formed_from well_formed utf8 white_space before same more count_from counted octal_digit octal_from hex_digit scalar hex_from lookup named unicode_name escape_case escape encode meant with_escape string_case string_move string_n text_case text_move filled with_equals with_bang with_colon with_close fresh add documented spaced formatted outside field_case case_of conversion_move open_move close_move quote_move field_move direct conversion_of field_pieces self_documenting finished specified plain_run text_n alone read_body touching covers item item_of glue merge both_items merged texts record_at laid cover answer_of opening place_of body refusal moved not_empty not_many first_bad bad all_good total not_long formed ill_formed all_utf8 any_of first_start not_mixed first_of entry opened_at refusal_in read_literal and_then read_from sort_of u_mark last_end all_chars answered read role_at records_from sort_from answer_from held_from first_parts later_parts next_parts own_text holding content_from content filled_with alike_after same_content past_field spelled_byte spelled_text spelled_conversion spelled read_alone held_alike reads_alike lie fits all_fit ordered gapless no_bytes one_of sorted records_formed unplaced lent_answer is_utf8 texts_utf8 is_formed writable written body_after written_into written_numbers
calls_shown = refl

-- fields that differ in their conversion alone
pub conversions_differ : same_content (puts (ascii "x") 114 empty) (puts (ascii "x") 115 empty) ≡ false
unfolding same_content ascii same
conversions_differ = refl
