-- The check's numbers and plans of small bodies: one table and one claim over it each, computed. Assumes nothing.
use Prim.Native.Nat.{ℕ}
use Prim.Native.String.{String}
use mathlib.Core.Path.{◌≡◌, refl}
use mathlib.Core.Bool.{false}
use mathlib.Core.List.{List, [], ◌∷◌, map}
use mathlib.Core.Option.{Option, none, some}
use Rattle.definition.specs.Numbers.{prefix}
use Rattle.definition.specs.Chars.{ascii, inside_any, table37, following, follow, width, decoded, code, next, char, formed_from, well_formed, utf8, white_space, before, same}
use Rattle.definition.specs.Counts.{more, count_from, counted}
use Rattle.definition.specs.Escapes.{octal_digit, octal_from, hex_digit, scalar, hex_from, lookup, named, unicode_name, escape_case, escape, encode, meant, held_names}
use Rattle.definition.specs.Body.{with_escape, string_case, string_move, string_n, text_case, text_move, filled, with_equals, with_bang, with_colon, with_close, fresh, add, documented, spaced, formatted, outside, field_case, case_of, conversion_move, open_move, close_move, quote_move, field_move, direct, conversion_of, field_pieces, self_documenting, finished, specified, plain_run, text_n, alone, read_body}
use Rattle.definition.specs.Records.{touching, covers, item, item_of, glue, merge, both_items, merged, texts, record_at, laid, cover, answer_of}
use Rattle.definition.specs.Entry.{opening, place_of, body, refusal, moved, not_empty, not_many, first_bad, bad, all_good, total, not_long, formed, ill_formed, all_utf8, any_of, first_start, not_mixed, first_of, entry}
use Rattle.definition.specs.Reading.{opened_at, refusal_in, read_literal, and_then, read_from, sort_of, u_mark, last_end, all_chars, answered, read, read_alone}
use Rattle.definition.specs.Join.{both_records, raise, seam, seamed, join_sort, join, shifted, join_outcomes}
use Rattle.definition_cuts.specs.Cuts.{is_read, rise, pieces, all_short, all_read, join_all, conversion, same_record, same_records, equal, checked}
use Rattle.definition_cuts.specs.Tokens.{end_of, move_end, staying, token_end, with_first, boundaries_n, boundaries}
use Rattle.definition_cuts.specs.Plan.{plan_from, plan, roomed_plan, plan_after, plan_into, plan_numbers}

pub record CheckRow : Type 0 where
  pub body : String
  pub limit : ℕ
  pub cuts : List ℕ
  pub number : ℕ

abbrev check : String → ℕ → List ℕ → ℕ → CheckRow
check body limit cuts number = record { body = body; limit = limit; cuts = cuts; number = number }

pub checks : List CheckRow
checks =
    check "abcd" 2 (2 ∷ []) 0
    ∷ check "abcd" 4 ([]) 0
    ∷ check "" 0 ([]) 0
    ∷ check "abcd" 9 (0 ∷ []) 64
    ∷ check "abcd" 9 (4 ∷ []) 64
    ∷ check "abcd" 9 (2 ∷ 2 ∷ []) 64
    ∷ check "abcd" 9 (3 ∷ 2 ∷ []) 64
    ∷ check "" 9 (0 ∷ []) 64
    ∷ check "ab}" 1 (2 ∷ 1 ∷ []) 64
    ∷ check "abcd" 3 ([]) 65
    ∷ check "ab}" 1 (1 ∷ []) 65
    ∷ check "ab}" 2 (1 ∷ []) 66
    ∷ check "}" 1 ([]) 66
    ∷ check "{x}" 9 (1 ∷ []) 66
    ∷ check "{x}" 9 (2 ∷ []) 66
    ∷ check "{x:a}" 9 (4 ∷ []) 66
    ∷ check "{{" 9 (1 ∷ []) 66
    ∷ check "}}" 9 (1 ∷ []) 66
    ∷ check "\\n" 9 (1 ∷ []) 66
    ∷ check "\\x41" 9 (3 ∷ []) 66
    ∷ check "\\N{OHM SIGN}" 20 (5 ∷ []) 66
    ∷ check "\\{x}" 9 (1 ∷ []) 66
    ∷ check "{'a'}" 9 (3 ∷ []) 66
    ∷ check "{a!=b}" 9 (3 ∷ []) 66
    ∷ check "{x!r}" 9 (4 ∷ []) 66
    ∷ check "\\101" 9 (2 ∷ []) 67
    ∷ check "\\101" 9 (3 ∷ []) 67
    ∷ check "\\777" 9 (3 ∷ []) 67
    ∷ check "\\12" 9 (2 ∷ []) 67
    ∷ check "\\000" 9 (2 ∷ 3 ∷ []) 67
    ∷ check "\\101}" 9 (2 ∷ []) 66
    ∷ check "\\1011" 9 (4 ∷ []) 0
    ∷ check "\\18" 9 (2 ∷ []) 0
    ∷ check "{x}a{y}" 4 (3 ∷ []) 0
    ∷ check "{{{x}" 3 (2 ∷ []) 0
    ∷ check "{x=}" 4 ([]) 0
    ∷ check "a{x=}" 4 (1 ∷ []) 0
    ∷ check "\\\\{x}" 9 (2 ∷ []) 0
    ∷ []

pub record PlanRow : Type 0 where
  pub body : String
  pub limit : ℕ
  pub cuts : Option (List ℕ)

abbrev planned : String → ℕ → Option (List ℕ) → PlanRow
planned body limit cuts = record { body = body; limit = limit; cuts = cuts }

pub plans : List PlanRow
plans =
    planned "abcd" 4 (some ([]))
    ∷ planned "abcd" 3 (some (3 ∷ []))
    ∷ planned "abcd" 1 (some (1 ∷ 2 ∷ 3 ∷ []))
    ∷ planned "abcd" 0 none
    ∷ planned "" 0 (some ([]))
    ∷ planned "ab{x}" 3 (some (2 ∷ []))
    ∷ planned "ab{x}" 2 none
    ∷ planned "a{x}b" 4 (some (4 ∷ []))
    ∷ planned "a{{b" 2 (some (1 ∷ 3 ∷ []))
    ∷ planned "\\101\\1" 5 (some (4 ∷ []))
    ∷ planned "\\{x}a" 4 (some (4 ∷ []))
    ∷ planned "a\\{{" 3 (some (1 ∷ []))
    ∷ planned "a\\}}" 2 none
    ∷ planned "}" 9 none
    ∷ []

pub checks_shown : map (λ r. checked (ascii r.body) r.limit r.cuts) checks ≡ map (λ r. r.number) checks
unfolding checks prefix ascii inside_any table37 following follow width decoded code next char formed_from well_formed utf8 white_space before same more count_from counted octal_digit octal_from hex_digit scalar hex_from lookup named unicode_name escape_case escape encode meant with_escape string_case string_move string_n text_case text_move filled with_equals with_bang with_colon with_close fresh add documented spaced formatted outside field_case case_of conversion_move open_move close_move quote_move field_move direct conversion_of field_pieces self_documenting finished specified plain_run text_n alone read_body touching covers item item_of glue merge both_items merged texts record_at laid cover answer_of opening place_of body refusal moved not_empty not_many first_bad bad all_good total not_long formed ill_formed all_utf8 any_of first_start not_mixed first_of entry opened_at refusal_in read_literal and_then read_from sort_of u_mark last_end all_chars answered read both_records raise seam seamed join_sort join shifted join_outcomes read_alone is_read rise pieces all_short all_read join_all conversion same_record same_records equal checked end_of move_end staying token_end with_first boundaries_n boundaries plan_from plan
checks_shown = refl

pub plans_shown : map (λ r. plan (ascii r.body) r.limit) plans ≡ map (λ r. r.cuts) plans
unfolding plans prefix ascii inside_any table37 following follow width decoded code next char formed_from well_formed utf8 white_space before same more count_from counted octal_digit octal_from hex_digit scalar hex_from lookup named unicode_name escape_case escape encode meant with_escape string_case string_move string_n text_case text_move filled with_equals with_bang with_colon with_close fresh add documented spaced formatted outside field_case case_of conversion_move open_move close_move quote_move field_move direct conversion_of field_pieces self_documenting finished specified plain_run text_n alone read_body touching covers item item_of glue merge both_items merged texts record_at laid cover answer_of opening place_of body refusal moved not_empty not_many first_bad bad all_good total not_long formed ill_formed all_utf8 any_of first_start not_mixed first_of entry opened_at refusal_in read_literal and_then read_from sort_of u_mark last_end all_chars answered read both_records raise seam seamed join_sort join shifted join_outcomes read_alone is_read rise pieces all_short all_read join_all conversion same_record same_records equal checked end_of move_end staying token_end with_first boundaries_n boundaries plan_from plan
plans_shown = refl

-- a cut inside a character, and plans of such a body
pub characters_shown : (checked (0xC3 ∷ 0xA9 ∷ []) 9 (1 ∷ []) ≡ 66) × (plan (0xC3 ∷ 0xA9 ∷ 0xC3 ∷ 0xA9 ∷ []) 3 ≡ some (2 ∷ [])) × (plan (97 ∷ 0xFF ∷ []) 9 ≡ none)
unfolding prefix ascii inside_any table37 following follow width decoded code next char formed_from well_formed utf8 white_space before same more count_from counted octal_digit octal_from hex_digit scalar hex_from lookup named unicode_name escape_case escape encode meant with_escape string_case string_move string_n text_case text_move filled with_equals with_bang with_colon with_close fresh add documented spaced formatted outside field_case case_of conversion_move open_move close_move quote_move field_move direct conversion_of field_pieces self_documenting finished specified plain_run text_n alone read_body touching covers item item_of glue merge both_items merged texts record_at laid cover answer_of opening place_of body refusal moved not_empty not_many first_bad bad all_good total not_long formed ill_formed all_utf8 any_of first_start not_mixed first_of entry opened_at refusal_in read_literal and_then read_from sort_of u_mark last_end all_chars answered read both_records raise seam seamed join_sort join shifted join_outcomes read_alone is_read rise pieces all_short all_read join_all conversion same_record same_records equal checked end_of move_end staying token_end with_first boundaries_n boundaries plan_from plan
characters_shown = (refl, refl, refl)

-- what calls for a plan return and leave, in lists of some length
pub record CallRow : Type 0 where
  pub body : String
  pub limit : ℕ
  pub list : List ℕ
  pub numbers : List ℕ
  pub after : List ℕ

abbrev call : String → ℕ → List ℕ → List ℕ → List ℕ → CallRow
call body limit list numbers after = record { body = body; limit = limit; list = list; numbers = numbers; after = after }

pub calls : List CallRow
calls =
    call "abcd" 3 (7 ∷ 8 ∷ []) (0 ∷ 1 ∷ 1 ∷ []) (3 ∷ 8 ∷ [])
    ∷ call "abcd" 1 (7 ∷ 8 ∷ 9 ∷ []) (0 ∷ 1 ∷ 3 ∷ []) (1 ∷ 2 ∷ 3 ∷ [])
    ∷ call "abcd" 1 (7 ∷ 8 ∷ []) (74 ∷ 0 ∷ 0 ∷ 0 ∷ 0 ∷ 0 ∷ 0 ∷ 0 ∷ 0 ∷ 3 ∷ []) (0 ∷ 0 ∷ [])
    ∷ call "abcd" 4 (7 ∷ []) (0 ∷ 1 ∷ 0 ∷ []) (7 ∷ [])
    ∷ call "" 0 [] (0 ∷ 1 ∷ 0 ∷ []) []
    ∷ call "ab{x}" 2 (7 ∷ []) (0 ∷ 0 ∷ []) (0 ∷ [])
    ∷ call "}" 9 [] (0 ∷ 0 ∷ []) []
    ∷ []

abbrev made : CallRow → List ℕ × List ℕ
made r = let c = plan_into (ascii r.body) r.limit r.list in (plan_numbers c.result, c.list)

abbrev asked : CallRow → List ℕ × List ℕ
asked r = (r.numbers, r.after)

pub calls_shown : map made calls ≡ map asked calls
unfolding calls prefix ascii inside_any table37 following follow width decoded code next char formed_from well_formed utf8 white_space before same more count_from counted octal_digit octal_from hex_digit scalar hex_from lookup named unicode_name escape_case escape encode meant with_escape string_case string_move string_n text_case text_move filled with_equals with_bang with_colon with_close fresh add documented spaced formatted outside field_case case_of conversion_move open_move close_move quote_move field_move direct conversion_of field_pieces self_documenting finished specified plain_run text_n alone read_body touching covers item item_of glue merge both_items merged texts record_at laid cover answer_of opening place_of body refusal moved not_empty not_many first_bad bad all_good total not_long formed ill_formed all_utf8 any_of first_start not_mixed first_of entry opened_at refusal_in read_literal and_then read_from sort_of u_mark last_end all_chars answered read both_records raise seam seamed join_sort join shifted join_outcomes read_alone is_read rise pieces all_short all_read join_all conversion same_record same_records equal checked end_of move_end staying token_end with_first boundaries_n boundaries plan_from plan roomed_plan plan_after plan_into plan_numbers
calls_shown = refl

-- what is read is not equal to what is refused, whichever comes first
pub refused_differs : equal (read_alone held_names (ascii "a")) (read_alone held_names (ascii "}")) ∷ equal (read_alone held_names (ascii "}")) (read_alone held_names (ascii "a")) ∷ [] ≡ false ∷ false ∷ []
unfolding prefix ascii inside_any table37 following follow width decoded code next char formed_from well_formed utf8 white_space before same more count_from counted octal_digit octal_from hex_digit scalar hex_from lookup named unicode_name escape_case escape encode meant with_escape string_case string_move string_n text_case text_move filled with_equals with_bang with_colon with_close fresh add documented spaced formatted outside field_case case_of conversion_move open_move close_move quote_move field_move direct conversion_of field_pieces self_documenting finished specified plain_run text_n alone read_body touching covers item item_of glue merge both_items merged texts record_at laid cover answer_of opening place_of body refusal moved not_empty not_many first_bad bad all_good total not_long formed ill_formed all_utf8 any_of first_start not_mixed first_of entry opened_at refusal_in read_literal and_then read_from sort_of u_mark last_end all_chars answered read both_records raise seam seamed join_sort join shifted join_outcomes read_alone is_read rise pieces all_short all_read join_all conversion same_record same_records equal checked end_of move_end staying token_end with_first boundaries_n boundaries plan_from plan roomed_plan plan_after plan_into plan_numbers
refused_differs = refl
