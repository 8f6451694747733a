-- Replays of small traces by a table, computed; what is expected comes from a model that was written from the rules alone.
-- Assumes nothing.
use Prim.Native.Nat.{ℕ, ◌+◌}
use mathlib.Core.Path.{◌≡◌, refl}
use mathlib.Core.List.{List, [], ◌∷◌, map}
use lib.ListN.{length, replicate}
use Rattle.definition.specs.Numbers.{prefix}
use Rattle.definition.specs.Chars.{ascii, inside_any, table37, following, follow, width, decoded, code, next, char, formed_from, well_formed, utf8, white_space, before, same}
use Rattle.definition.specs.Counts.{more, count_from, counted}
use Rattle.definition.specs.Escapes.{Naming, octal_digit, octal_from, hex_digit, scalar, hex_from, lookup, named, unicode_name, escape_case, escape, encode, meant}
use Rattle.definition.specs.Body.{with_escape, string_case, string_move, string_n, text_case, text_move, filled, with_equals, with_bang, with_colon, with_close, fresh, add, documented, spaced, formatted, outside, field_case, case_of, conversion_move, open_move, close_move, quote_move, field_move, direct, conversion_of, field_pieces, self_documenting, finished, specified, plain_run, text_n, alone, read_body}
use Rattle.definition.specs.Records.{touching, covers, item, item_of, glue, merge, both_items, merged, texts, record_at, laid, cover, answer_of}
use Rattle.definition.specs.Entry.{one_more, sixes, opening, place_of, body, refusal, moved, not_empty, not_many, first_bad, bad, all_good, total, not_long, formed, ill_formed, all_utf8, any_of, first_start, not_mixed, first_of, entry}
use Rattle.definition.specs.Reading.{opened_at, refusal_in, read_literal, and_then, read_from, sort_of, u_mark, last_end, all_chars, answered, read, outcome_of, short_of, room_for, roomed, all_words, words_after, text_after, called, read_into, read_numbers, numbers_by}
use Rattle.definition_replay.specs.Spec.{first, past, front, behind, pointed, past_pointed, fill_size, nothing, all, parts_of, spec_of}
use Rattle.definition_replay.specs.Integers.{decimal_from, digits_n, digits, base_of, outside_of, form_in, form_of, figure, sign_of, prefix_of, head_of, grouped, group_size, figures, zero_pads, zeroed, least_of, numeral_of, copies, pad_of, left_of, inner_of, written}
use Rattle.definition_replay.specs.Trace.{is_text, in_quotes, more_of, quoted_case, quoted_from, column_of, behind_column, columns_n, columns_of, integer_of, with_integer, integers_of, row_of, rows_n, rows_of}
use Rattle.definition_replay.specs.Replay.{followed, records_below, items_from, nested, texts_of, form_made, part_of, fields_past, parts_from, template_of, field_count, row_line, in_range, all_in_range, row_made, lines_from, concat, Replayed, replays, unread, stops, roomed_lines, lines_of, replayed, lines_after, kept_after, replay_call, replay_numbers}

-- 0, rows and bytes; a reading's refusal; or 68 to 73 and what is told of it
abbrev told : Replayed → List ℕ
told (replays x n l) = 0 ∷ n ∷ length l ∷ []
told (unread r) = r.number ∷ []
told (stops n k) = n ∷ k ∷ []

pub record Asked : Type 0 where
  pub gives : List ℕ × List ℕ
  pub wants : List ℕ × List ℕ

-- the result, and the output, which held so many nines
abbrev asked : Naming → (script ns trace : List ℕ) (room : ℕ) → List ℕ × List ℕ
asked look script ns trace room =
    let c = replay_numbers look script ns trace (replicate 200 9) (replicate 99 9) (replicate room 9) in
    (told c.result, c.output)

abbrev ask : Naming → (script ns trace : List ℕ) (room : ℕ) (numbers output : List ℕ) → Asked
ask look script ns trace room numbers output = record { gives = asked look script ns trace room; wants = (numbers, output) }

-- one literal of a kind
abbrev alone' : ℕ → List ℕ → List ℕ
alone' kind script = kind ∷ 0 ∷ 0 ∷ length script ∷ 0 ∷ (length script + 4) ∷ []

pub replays0 : Naming → List Asked
replays0 look =
    ask look (ascii "v={x:>6}|") (alone' 1 (ascii "v={x:>6}|")) (49 ∷ 13 ∷ 10 ∷ 45 ∷ 50 ∷ 50 ∷ 13 ∷ 10 ∷ []) 20 (0 ∷ 2 ∷ 20 ∷ []) (118 ∷ 61 ∷ 32 ∷ 32 ∷ 32 ∷ 32 ∷ 32 ∷ 49 ∷ 124 ∷ 10 ∷ 118 ∷ 61 ∷ 32 ∷ 32 ∷ 32 ∷ 45 ∷ 50 ∷ 50 ∷ 124 ∷ 10 ∷ [])
    ∷ ask look (ascii "{a:010,} {b:#x}") (alone' 1 (ascii "{a:010,} {b:#x}")) (ascii "1234,255") 20 (0 ∷ 1 ∷ 16 ∷ []) (48 ∷ 48 ∷ 44 ∷ 48 ∷ 48 ∷ 49 ∷ 44 ∷ 50 ∷ 51 ∷ 52 ∷ 32 ∷ 48 ∷ 120 ∷ 102 ∷ 102 ∷ 10 ∷ 9 ∷ 9 ∷ 9 ∷ 9 ∷ [])
    ∷ ask look (ascii "{x}") (alone' 1 (ascii "{x}")) [] 20 (0 ∷ 0 ∷ 0 ∷ []) (9 ∷ 9 ∷ 9 ∷ 9 ∷ 9 ∷ 9 ∷ 9 ∷ 9 ∷ 9 ∷ 9 ∷ 9 ∷ 9 ∷ 9 ∷ 9 ∷ 9 ∷ 9 ∷ 9 ∷ 9 ∷ 9 ∷ 9 ∷ [])
    ∷ ask look (ascii "{x}") (alone' 1 (ascii "{x}")) (ascii "1") 20 (0 ∷ 1 ∷ 2 ∷ []) (49 ∷ 10 ∷ 9 ∷ 9 ∷ 9 ∷ 9 ∷ 9 ∷ 9 ∷ 9 ∷ 9 ∷ 9 ∷ 9 ∷ 9 ∷ 9 ∷ 9 ∷ 9 ∷ 9 ∷ 9 ∷ 9 ∷ 9 ∷ [])
    ∷ ask look (ascii "{x}") (alone' 1 (ascii "{x}")) (49 ∷ 13 ∷ 10 ∷ []) 20 (0 ∷ 1 ∷ 2 ∷ []) (49 ∷ 10 ∷ 9 ∷ 9 ∷ 9 ∷ 9 ∷ 9 ∷ 9 ∷ 9 ∷ 9 ∷ 9 ∷ 9 ∷ 9 ∷ 9 ∷ 9 ∷ 9 ∷ 9 ∷ 9 ∷ 9 ∷ 9 ∷ [])
    ∷ ask look (ascii "{x}") (alone' 1 (ascii "{x}")) (13 ∷ 10 ∷ []) 20 (70 ∷ 0 ∷ []) (replicate 20 0)
    ∷ ask look (ascii "{x}") (alone' 1 (ascii "{x}")) (49 ∷ 13 ∷ 10 ∷ 13 ∷ 10 ∷ []) 20 (70 ∷ 1 ∷ []) (replicate 20 0)
    ∷ ask look (ascii "{x}") (alone' 1 (ascii "{x}")) (13 ∷ 10 ∷ 49 ∷ []) 20 (70 ∷ 0 ∷ []) (replicate 20 0)
    ∷ ask look (ascii "{x}") (alone' 1 (ascii "{x}")) (49 ∷ 10 ∷ []) 20 (70 ∷ 0 ∷ []) (replicate 20 0)
    ∷ ask look (ascii "{x}") (alone' 1 (ascii "{x}")) (49 ∷ 10 ∷ 50 ∷ 10 ∷ []) 20 (70 ∷ 0 ∷ []) (replicate 20 0)
    ∷ ask look (ascii "{x}") (alone' 1 (ascii "{x}")) (49 ∷ 13 ∷ []) 20 (70 ∷ 0 ∷ []) (replicate 20 0)
    ∷ ask look (ascii "{x}") (alone' 1 (ascii "{x}")) (49 ∷ 13 ∷ 50 ∷ []) 20 (70 ∷ 0 ∷ []) (replicate 20 0)
    ∷ ask look (ascii "{x}") (alone' 1 (ascii "{x}")) (ascii " 1") 20 (70 ∷ 0 ∷ []) (replicate 20 0)
    ∷ ask look (ascii "{x}") (alone' 1 (ascii "{x}")) (ascii "1 ") 20 (70 ∷ 0 ∷ []) (replicate 20 0)
    ∷ ask look (ascii "{x}") (alone' 1 (ascii "{x}")) (ascii "+1") 20 (70 ∷ 0 ∷ []) (replicate 20 0)
    ∷ ask look (ascii "{x}") (alone' 1 (ascii "{x}")) (ascii "-") 20 (70 ∷ 0 ∷ []) (replicate 20 0)
    ∷ ask look (ascii "{x}") (alone' 1 (ascii "{x}")) (ascii "--1") 20 (70 ∷ 0 ∷ []) (replicate 20 0)
    ∷ ask look (ascii "{x}") (alone' 1 (ascii "{x}")) (ascii "1-") 20 (70 ∷ 0 ∷ []) (replicate 20 0)
    ∷ ask look (ascii "{x}") (alone' 1 (ascii "{x}")) (ascii "0x1") 20 (70 ∷ 0 ∷ []) (replicate 20 0)
    ∷ ask look (ascii "{x}") (alone' 1 (ascii "{x}")) (ascii "1.0") 20 (70 ∷ 0 ∷ []) (replicate 20 0)
    ∷ ask look (ascii "{x}") (alone' 1 (ascii "{x}")) (ascii "1_0") 20 (70 ∷ 0 ∷ []) (replicate 20 0)
    ∷ ask look (ascii "{x}") (alone' 1 (ascii "{x}")) (217 ∷ 161 ∷ []) 20 (70 ∷ 0 ∷ []) (replicate 20 0)
    ∷ ask look (ascii "{x}") (alone' 1 (ascii "{x}")) (239 ∷ 187 ∷ 191 ∷ 49 ∷ []) 20 (70 ∷ 0 ∷ []) (replicate 20 0)
    ∷ ask look (ascii "{x}") (alone' 1 (ascii "{x}")) (ascii "x") 20 (70 ∷ 0 ∷ []) (replicate 20 0)
    ∷ ask look (ascii "{x}") (alone' 1 (ascii "{x}")) (ascii "1,") 20 (70 ∷ 0 ∷ []) (replicate 20 0)
    ∷ ask look (ascii "{x}") (alone' 1 (ascii "{x}")) (ascii ",1") 20 (70 ∷ 0 ∷ []) (replicate 20 0)
    ∷ ask look (ascii "{x}") (alone' 1 (ascii "{x}")) (ascii "1;2") 20 (70 ∷ 0 ∷ []) (replicate 20 0)
    ∷ ask look (ascii "{x}") (alone' 1 (ascii "{x}")) (34 ∷ 49 ∷ []) 20 (70 ∷ 0 ∷ []) (replicate 20 0)
    ∷ ask look (ascii "{x}") (alone' 1 (ascii "{x}")) (49 ∷ 34 ∷ []) 20 (70 ∷ 0 ∷ []) (replicate 20 0)
    ∷ ask look (ascii "{x}") (alone' 1 (ascii "{x}")) (34 ∷ 49 ∷ 34 ∷ 50 ∷ []) 20 (70 ∷ 0 ∷ []) (replicate 20 0)
    ∷ ask look (ascii "{x}") (alone' 1 (ascii "{x}")) (34 ∷ 49 ∷ 34 ∷ 34 ∷ []) 20 (70 ∷ 0 ∷ []) (replicate 20 0)
    ∷ ask look (ascii "{x}") (alone' 1 (ascii "{x}")) (34 ∷ 34 ∷ []) 20 (70 ∷ 0 ∷ []) (replicate 20 0)
    ∷ ask look (ascii "{x}") (alone' 1 (ascii "{x}")) (34 ∷ 45 ∷ 34 ∷ []) 20 (70 ∷ 0 ∷ []) (replicate 20 0)
    ∷ ask look (ascii "{x}") (alone' 1 (ascii "{x}")) (34 ∷ 49 ∷ 44 ∷ 50 ∷ 34 ∷ []) 20 (70 ∷ 0 ∷ []) (replicate 20 0)
    ∷ ask look (ascii "{x}") (alone' 1 (ascii "{x}")) (34 ∷ 49 ∷ 13 ∷ 10 ∷ 34 ∷ []) 20 (70 ∷ 0 ∷ []) (replicate 20 0)
    ∷ ask look (ascii "{x}") (alone' 1 (ascii "{x}")) (ascii "'1'") 20 (70 ∷ 0 ∷ []) (replicate 20 0)
    ∷ ask look (ascii "{x}") (alone' 1 (ascii "{x}")) (34 ∷ 49 ∷ 34 ∷ 32 ∷ []) 20 (70 ∷ 0 ∷ []) (replicate 20 0)
    ∷ ask look (ascii "{x}") (alone' 1 (ascii "{x}")) (49 ∷ 0 ∷ []) 20 (70 ∷ 0 ∷ []) (replicate 20 0)
    ∷ ask look (ascii "{x}") (alone' 1 (ascii "{x}")) (ascii "1e3") 20 (70 ∷ 0 ∷ []) (replicate 20 0)
    ∷ ask look (ascii "{x}") (alone' 1 (ascii "{x}")) (49 ∷ 34 ∷ 34 ∷ []) 20 (70 ∷ 0 ∷ []) (replicate 20 0)
    ∷ ask look (ascii "{x}") (alone' 1 (ascii "{x}")) (34 ∷ 49 ∷ 34 ∷ 13 ∷ []) 20 (70 ∷ 0 ∷ []) (replicate 20 0)
    ∷ ask look (ascii "{x}") (alone' 1 (ascii "{x}")) (34 ∷ 49 ∷ 34 ∷ 10 ∷ []) 20 (70 ∷ 0 ∷ []) (replicate 20 0)
    ∷ ask look (ascii "{x}") (alone' 1 (ascii "{x}")) (ascii "0") 20 (0 ∷ 1 ∷ 2 ∷ []) (48 ∷ 10 ∷ 9 ∷ 9 ∷ 9 ∷ 9 ∷ 9 ∷ 9 ∷ 9 ∷ 9 ∷ 9 ∷ 9 ∷ 9 ∷ 9 ∷ 9 ∷ 9 ∷ 9 ∷ 9 ∷ 9 ∷ 9 ∷ [])
    ∷ ask look (ascii "{x}") (alone' 1 (ascii "{x}")) (ascii "-0") 20 (0 ∷ 1 ∷ 2 ∷ []) (48 ∷ 10 ∷ 9 ∷ 9 ∷ 9 ∷ 9 ∷ 9 ∷ 9 ∷ 9 ∷ 9 ∷ 9 ∷ 9 ∷ 9 ∷ 9 ∷ 9 ∷ 9 ∷ 9 ∷ 9 ∷ 9 ∷ 9 ∷ [])
    ∷ ask look (ascii "{x}") (alone' 1 (ascii "{x}")) (ascii "-000") 20 (0 ∷ 1 ∷ 2 ∷ []) (48 ∷ 10 ∷ 9 ∷ 9 ∷ 9 ∷ 9 ∷ 9 ∷ 9 ∷ 9 ∷ 9 ∷ 9 ∷ 9 ∷ 9 ∷ 9 ∷ 9 ∷ 9 ∷ 9 ∷ 9 ∷ 9 ∷ 9 ∷ [])
    ∷ ask look (ascii "{x}") (alone' 1 (ascii "{x}")) (ascii "007") 20 (0 ∷ 1 ∷ 2 ∷ []) (55 ∷ 10 ∷ 9 ∷ 9 ∷ 9 ∷ 9 ∷ 9 ∷ 9 ∷ 9 ∷ 9 ∷ 9 ∷ 9 ∷ 9 ∷ 9 ∷ 9 ∷ 9 ∷ 9 ∷ 9 ∷ 9 ∷ 9 ∷ [])
    ∷ ask look (ascii "{x}") (alone' 1 (ascii "{x}")) (ascii "-007") 20 (0 ∷ 1 ∷ 3 ∷ []) (45 ∷ 55 ∷ 10 ∷ 9 ∷ 9 ∷ 9 ∷ 9 ∷ 9 ∷ 9 ∷ 9 ∷ 9 ∷ 9 ∷ 9 ∷ 9 ∷ 9 ∷ 9 ∷ 9 ∷ 9 ∷ 9 ∷ 9 ∷ [])
    ∷ ask look (ascii "{x}") (alone' 1 (ascii "{x}")) (34 ∷ 55 ∷ 34 ∷ []) 20 (0 ∷ 1 ∷ 2 ∷ []) (55 ∷ 10 ∷ 9 ∷ 9 ∷ 9 ∷ 9 ∷ 9 ∷ 9 ∷ 9 ∷ 9 ∷ 9 ∷ 9 ∷ 9 ∷ 9 ∷ 9 ∷ 9 ∷ 9 ∷ 9 ∷ 9 ∷ 9 ∷ [])
    ∷ ask look (ascii "{x}") (alone' 1 (ascii "{x}")) (34 ∷ 45 ∷ 55 ∷ 34 ∷ []) 20 (0 ∷ 1 ∷ 3 ∷ []) (45 ∷ 55 ∷ 10 ∷ 9 ∷ 9 ∷ 9 ∷ 9 ∷ 9 ∷ 9 ∷ 9 ∷ 9 ∷ 9 ∷ 9 ∷ 9 ∷ 9 ∷ 9 ∷ 9 ∷ 9 ∷ 9 ∷ 9 ∷ [])
    ∷ ask look (ascii "{x}") (alone' 1 (ascii "{x}")) (ascii "2147483647") 20 (0 ∷ 1 ∷ 11 ∷ []) (50 ∷ 49 ∷ 52 ∷ 55 ∷ 52 ∷ 56 ∷ 51 ∷ 54 ∷ 52 ∷ 55 ∷ 10 ∷ 9 ∷ 9 ∷ 9 ∷ 9 ∷ 9 ∷ 9 ∷ 9 ∷ 9 ∷ 9 ∷ [])
    ∷ []

pub replays_computed0 : (look : Naming) → map (λ r. r.gives) (replays0 look) ≡ map (λ r. r.wants) (replays0 look)
unfolding replays0 prefix ascii inside_any table37 following follow width decoded code next char formed_from well_formed utf8 white_space before same more count_from counted octal_digit octal_from hex_digit scalar hex_from lookup named unicode_name escape_case escape encode meant with_escape string_case string_move string_n text_case text_move filled with_equals with_bang with_colon with_close fresh add documented spaced formatted outside field_case case_of conversion_move open_move close_move quote_move field_move direct conversion_of field_pieces self_documenting finished specified plain_run text_n alone read_body touching covers item item_of glue merge both_items merged texts record_at laid cover answer_of one_more sixes opening place_of body refusal moved not_empty not_many first_bad bad all_good total not_long formed ill_formed all_utf8 any_of first_start not_mixed first_of entry opened_at refusal_in read_literal and_then read_from sort_of u_mark last_end all_chars answered read outcome_of short_of room_for roomed all_words words_after text_after called read_into read_numbers numbers_by first past front behind pointed past_pointed fill_size nothing all parts_of spec_of decimal_from digits_n digits base_of outside_of form_in form_of figure sign_of prefix_of head_of grouped group_size figures zero_pads zeroed least_of numeral_of copies pad_of left_of inner_of written is_text in_quotes more_of quoted_case quoted_from column_of behind_column columns_n columns_of integer_of with_integer integers_of row_of rows_n rows_of followed records_below items_from nested texts_of form_made part_of fields_past parts_from template_of field_count row_line in_range all_in_range row_made lines_from concat roomed_lines lines_of replayed lines_after kept_after replay_call replay_numbers
replays_computed0 look = refl

pub replays1 : Naming → List Asked
replays1 look =
    ask look (ascii "{x}") (alone' 1 (ascii "{x}")) (ascii "-2147483648") 20 (0 ∷ 1 ∷ 12 ∷ []) (45 ∷ 50 ∷ 49 ∷ 52 ∷ 55 ∷ 52 ∷ 56 ∷ 51 ∷ 54 ∷ 52 ∷ 56 ∷ 10 ∷ 9 ∷ 9 ∷ 9 ∷ 9 ∷ 9 ∷ 9 ∷ 9 ∷ 9 ∷ [])
    ∷ ask look (ascii "{x}") (alone' 1 (ascii "{x}")) (ascii "0000000000000000000000000000009") 20 (0 ∷ 1 ∷ 2 ∷ []) (57 ∷ 10 ∷ 9 ∷ 9 ∷ 9 ∷ 9 ∷ 9 ∷ 9 ∷ 9 ∷ 9 ∷ 9 ∷ 9 ∷ 9 ∷ 9 ∷ 9 ∷ 9 ∷ 9 ∷ 9 ∷ 9 ∷ 9 ∷ [])
    ∷ ask look (ascii "{x}") (alone' 1 (ascii "{x}")) (ascii "2147483648") 20 (72 ∷ 0 ∷ []) (replicate 20 0)
    ∷ ask look (ascii "{x}") (alone' 1 (ascii "{x}")) (ascii "-2147483649") 20 (72 ∷ 0 ∷ []) (replicate 20 0)
    ∷ ask look (ascii "{x}") (alone' 1 (ascii "{x}")) (ascii "9999999999999999999999999999999999999999") 20 (72 ∷ 0 ∷ []) (replicate 20 0)
    ∷ ask look (ascii "{x}") (alone' 1 (ascii "{x}")) (ascii "-99999999999999999999") 20 (72 ∷ 0 ∷ []) (replicate 20 0)
    ∷ ask look (ascii "{x}") (alone' 1 (ascii "{x}")) (ascii "1,2") 20 (71 ∷ 0 ∷ []) (replicate 20 0)
    ∷ ask look (ascii "{x}{y}") (alone' 1 (ascii "{x}{y}")) (ascii "1") 20 (71 ∷ 0 ∷ []) (replicate 20 0)
    ∷ ask look (ascii "abc") (alone' 1 (ascii "abc")) (ascii "1") 20 (71 ∷ 0 ∷ []) (replicate 20 0)
    ∷ ask look (ascii "abc") (alone' 1 (ascii "abc")) [] 20 (0 ∷ 0 ∷ 0 ∷ []) (9 ∷ 9 ∷ 9 ∷ 9 ∷ 9 ∷ 9 ∷ 9 ∷ 9 ∷ 9 ∷ 9 ∷ 9 ∷ 9 ∷ 9 ∷ 9 ∷ 9 ∷ 9 ∷ 9 ∷ 9 ∷ 9 ∷ 9 ∷ [])
    ∷ ask look (ascii "{x}") (alone' 1 (ascii "{x}")) (ascii "99999999999,x") 20 (70 ∷ 0 ∷ []) (replicate 20 0)
    ∷ ask look (ascii "{x}") (alone' 1 (ascii "{x}")) (ascii "99999999999,1") 20 (71 ∷ 0 ∷ []) (replicate 20 0)
    ∷ ask look (ascii "{x}") (alone' 1 (ascii "{x}")) (49 ∷ 44 ∷ 50 ∷ 13 ∷ 10 ∷ 120 ∷ []) 20 (71 ∷ 0 ∷ []) (replicate 20 0)
    ∷ ask look (ascii "{x}") (alone' 1 (ascii "{x}")) (57 ∷ 57 ∷ 57 ∷ 57 ∷ 57 ∷ 57 ∷ 57 ∷ 57 ∷ 57 ∷ 57 ∷ 57 ∷ 13 ∷ 10 ∷ 120 ∷ []) 20 (72 ∷ 0 ∷ []) (replicate 20 0)
    ∷ ask look (ascii "{x}") (alone' 1 (ascii "{x}")) (49 ∷ 13 ∷ 10 ∷ 50 ∷ 44 ∷ 51 ∷ []) 20 (71 ∷ 1 ∷ []) (replicate 20 0)
    ∷ ask look (ascii "{x}") (alone' 1 (ascii "{x}")) (49 ∷ 13 ∷ 10 ∷ 50 ∷ 13 ∷ 10 ∷ 50 ∷ 49 ∷ 52 ∷ 55 ∷ 52 ∷ 56 ∷ 51 ∷ 54 ∷ 52 ∷ 56 ∷ []) 20 (72 ∷ 2 ∷ []) (replicate 20 0)
    ∷ ask look (ascii "abc") (alone' 2 (ascii "abc")) (ascii "1") 20 (71 ∷ 0 ∷ []) (replicate 20 0)
    ∷ ask look (ascii "abc") (alone' 2 (ascii "abc")) [] 20 (0 ∷ 0 ∷ 0 ∷ []) (9 ∷ 9 ∷ 9 ∷ 9 ∷ 9 ∷ 9 ∷ 9 ∷ 9 ∷ 9 ∷ 9 ∷ 9 ∷ 9 ∷ 9 ∷ 9 ∷ 9 ∷ 9 ∷ 9 ∷ 9 ∷ 9 ∷ 9 ∷ [])
    ∷ ask look (ascii "abc") (alone' 0 (ascii "abc")) [] 20 (0 ∷ 0 ∷ 0 ∷ []) (9 ∷ 9 ∷ 9 ∷ 9 ∷ 9 ∷ 9 ∷ 9 ∷ 9 ∷ 9 ∷ 9 ∷ 9 ∷ 9 ∷ 9 ∷ 9 ∷ 9 ∷ 9 ∷ 9 ∷ 9 ∷ 9 ∷ 9 ∷ [])
    ∷ ask look (ascii "{x}") (alone' 1 (ascii "{x}")) (ascii "1") 0 (73 ∷ 2 ∷ []) (replicate 0 0)
    ∷ ask look (ascii "{x}") (alone' 1 (ascii "{x}")) (ascii "1") 1 (73 ∷ 2 ∷ []) (replicate 1 0)
    ∷ ask look (ascii "{x}") (alone' 1 (ascii "{x}")) (ascii "1") 2 (0 ∷ 1 ∷ 2 ∷ []) (49 ∷ 10 ∷ [])
    ∷ ask look (ascii "{x}") (alone' 1 (ascii "{x}")) (ascii "1") 3 (0 ∷ 1 ∷ 2 ∷ []) (49 ∷ 10 ∷ 9 ∷ [])
    ∷ ask look (ascii "{x}") (alone' 1 (ascii "{x}")) (49 ∷ 13 ∷ 10 ∷ 120 ∷ []) 0 (70 ∷ 1 ∷ []) (replicate 0 0)
    ∷ ask look (ascii "{x}") (alone' 1 (ascii "{x}")) (49 ∷ 13 ∷ 10 ∷ 50 ∷ 50 ∷ []) 4 (73 ∷ 5 ∷ []) (replicate 4 0)
    ∷ ask look (ascii "{x}") (alone' 1 (ascii "{x}")) (49 ∷ 13 ∷ 10 ∷ 50 ∷ 50 ∷ []) 5 (0 ∷ 2 ∷ 5 ∷ []) (49 ∷ 10 ∷ 50 ∷ 50 ∷ 10 ∷ [])
    ∷ ask look (ascii "{x") (alone' 1 (ascii "{x")) (ascii "1") 20 (20 ∷ []) (replicate 20 0)
    ∷ ask look (ascii "{x:?}") (alone' 1 (ascii "{x:?}")) (ascii "1") 20 (68 ∷ 0 ∷ []) (replicate 20 0)
    ∷ ask look (ascii "{x!r}") (alone' 1 (ascii "{x!r}")) (ascii "1") 20 (69 ∷ 0 ∷ []) (replicate 20 0)
    ∷ ask look (ascii "{x!r:?}") (alone' 1 (ascii "{x!r:?}")) (ascii "1") 20 (68 ∷ 0 ∷ []) (replicate 20 0)
    ∷ ask look (ascii "{x!r}{y:?}") (alone' 1 (ascii "{x!r}{y:?}")) (ascii "1") 20 (69 ∷ 0 ∷ []) (replicate 20 0)
    ∷ ask look (ascii "{x:?}{y!r}") (alone' 1 (ascii "{x:?}{y!r}")) (ascii "1") 20 (68 ∷ 0 ∷ []) (replicate 20 0)
    ∷ ask look (ascii "{x:{w}}") (alone' 1 (ascii "{x:{w}}")) (ascii "1") 20 (69 ∷ 0 ∷ []) (replicate 20 0)
    ∷ ask look (ascii "{x:?{w}}") (alone' 1 (ascii "{x:?{w}}")) (ascii "1") 20 (69 ∷ 0 ∷ []) (replicate 20 0)
    ∷ ask look (ascii "{x:?{w!r:??}}") (alone' 1 (ascii "{x:?{w!r:??}}")) (ascii "1") 20 (69 ∷ 0 ∷ []) (replicate 20 0)
    ∷ ask look (ascii "{x=}") (alone' 1 (ascii "{x=}")) (ascii "1") 20 (69 ∷ 0 ∷ []) (replicate 20 0)
    ∷ ask look (ascii "{x=!s}") (alone' 1 (ascii "{x=!s}")) (ascii "1") 20 (69 ∷ 0 ∷ []) (replicate 20 0)
    ∷ ask look (ascii "{x=:}") (alone' 1 (ascii "{x=:}")) (ascii "1") 20 (0 ∷ 1 ∷ 4 ∷ []) (120 ∷ 61 ∷ 49 ∷ 10 ∷ 9 ∷ 9 ∷ 9 ∷ 9 ∷ 9 ∷ 9 ∷ 9 ∷ 9 ∷ 9 ∷ 9 ∷ 9 ∷ 9 ∷ 9 ∷ 9 ∷ 9 ∷ 9 ∷ [])
    ∷ ask look (ascii "{x=:4}") (alone' 1 (ascii "{x=:4}")) (ascii "1") 20 (0 ∷ 1 ∷ 7 ∷ []) (120 ∷ 61 ∷ 32 ∷ 32 ∷ 32 ∷ 49 ∷ 10 ∷ 9 ∷ 9 ∷ 9 ∷ 9 ∷ 9 ∷ 9 ∷ 9 ∷ 9 ∷ 9 ∷ 9 ∷ 9 ∷ 9 ∷ 9 ∷ [])
    ∷ ask look (ascii "{x:4}{y:z}") (alone' 1 (ascii "{x:4}{y:z}")) (ascii "1") 20 (69 ∷ 1 ∷ []) (replicate 20 0)
    ∷ ask look (ascii "{x}{y}{z:,b}") (alone' 1 (ascii "{x}{y}{z:,b}")) (ascii "1") 20 (69 ∷ 2 ∷ []) (replicate 20 0)
    ∷ ask look (ascii "{x:5}a{y:}b") (alone' 1 (ascii "{x:5}a{y:}b")) (ascii "1") 20 (71 ∷ 0 ∷ []) (replicate 20 0)
    ∷ ask look (ascii "{x:>{w}}{y}") (alone' 1 (ascii "{x:>{w}}{y}")) (ascii "1") 20 (69 ∷ 0 ∷ []) (replicate 20 0)
    ∷ ask look (123 ∷ 120 ∷ 58 ∷ 92 ∷ 62 ∷ 51 ∷ 125 ∷ []) (alone' 1 (123 ∷ 120 ∷ 58 ∷ 92 ∷ 62 ∷ 51 ∷ 125 ∷ [])) (ascii "1") 20 (0 ∷ 1 ∷ 4 ∷ []) (92 ∷ 92 ∷ 49 ∷ 10 ∷ 9 ∷ 9 ∷ 9 ∷ 9 ∷ 9 ∷ 9 ∷ 9 ∷ 9 ∷ 9 ∷ 9 ∷ 9 ∷ 9 ∷ 9 ∷ 9 ∷ 9 ∷ 9 ∷ [])
    ∷ ask look (123 ∷ 120 ∷ 58 ∷ 195 ∷ 169 ∷ 94 ∷ 52 ∷ 125 ∷ []) (alone' 1 (123 ∷ 120 ∷ 58 ∷ 195 ∷ 169 ∷ 94 ∷ 52 ∷ 125 ∷ [])) (ascii "1") 20 (0 ∷ 1 ∷ 8 ∷ []) (195 ∷ 169 ∷ 49 ∷ 195 ∷ 169 ∷ 195 ∷ 169 ∷ 10 ∷ 9 ∷ 9 ∷ 9 ∷ 9 ∷ 9 ∷ 9 ∷ 9 ∷ 9 ∷ 9 ∷ 9 ∷ 9 ∷ 9 ∷ [])
    ∷ ask look (123 ∷ 120 ∷ 58 ∷ 34 ∷ 94 ∷ 51 ∷ 125 ∷ []) (alone' 1 (123 ∷ 120 ∷ 58 ∷ 34 ∷ 94 ∷ 51 ∷ 125 ∷ [])) (ascii "1") 20 (0 ∷ 1 ∷ 4 ∷ []) (34 ∷ 49 ∷ 34 ∷ 10 ∷ 9 ∷ 9 ∷ 9 ∷ 9 ∷ 9 ∷ 9 ∷ 9 ∷ 9 ∷ 9 ∷ 9 ∷ 9 ∷ 9 ∷ 9 ∷ 9 ∷ 9 ∷ 9 ∷ [])
    ∷ ask look (ascii "{x:4}{y:z}") (alone' 1 (ascii "{x:4}{y:z}")) (49 ∷ 44 ∷ 45 ∷ 50 ∷ 13 ∷ 10 ∷ 51 ∷ 44 ∷ 52 ∷ 13 ∷ 10 ∷ 34 ∷ 53 ∷ 34 ∷ 44 ∷ 45 ∷ 54 ∷ []) 20 (69 ∷ 1 ∷ []) (replicate 20 0)
    ∷ ask look (ascii "{x:4}{y:z}") (alone' 1 (ascii "{x:4}{y:z}")) (ascii "1,-2,3") 20 (69 ∷ 1 ∷ []) (replicate 20 0)
    ∷ ask look (ascii "{x}{y}{z:_b}") (alone' 1 (ascii "{x}{y}{z:_b}")) (49 ∷ 44 ∷ 45 ∷ 50 ∷ 13 ∷ 10 ∷ 51 ∷ 44 ∷ 52 ∷ 13 ∷ 10 ∷ 34 ∷ 53 ∷ 34 ∷ 44 ∷ 45 ∷ 54 ∷ []) 20 (71 ∷ 0 ∷ []) (replicate 20 0)
    ∷ ask look (ascii "{x}{y}{z:_b}") (alone' 1 (ascii "{x}{y}{z:_b}")) (ascii "1,-2,3") 20 (0 ∷ 1 ∷ 6 ∷ []) (49 ∷ 45 ∷ 50 ∷ 49 ∷ 49 ∷ 10 ∷ 9 ∷ 9 ∷ 9 ∷ 9 ∷ 9 ∷ 9 ∷ 9 ∷ 9 ∷ 9 ∷ 9 ∷ 9 ∷ 9 ∷ 9 ∷ 9 ∷ [])
    ∷ []

pub replays_computed1 : (look : Naming) → map (λ r. r.gives) (replays1 look) ≡ map (λ r. r.wants) (replays1 look)
unfolding replays1 prefix ascii inside_any table37 following follow width decoded code next char formed_from well_formed utf8 white_space before same more count_from counted octal_digit octal_from hex_digit scalar hex_from lookup named unicode_name escape_case escape encode meant with_escape string_case string_move string_n text_case text_move filled with_equals with_bang with_colon with_close fresh add documented spaced formatted outside field_case case_of conversion_move open_move close_move quote_move field_move direct conversion_of field_pieces self_documenting finished specified plain_run text_n alone read_body touching covers item item_of glue merge both_items merged texts record_at laid cover answer_of one_more sixes opening place_of body refusal moved not_empty not_many first_bad bad all_good total not_long formed ill_formed all_utf8 any_of first_start not_mixed first_of entry opened_at refusal_in read_literal and_then read_from sort_of u_mark last_end all_chars answered read outcome_of short_of room_for roomed all_words words_after text_after called read_into read_numbers numbers_by first past front behind pointed past_pointed fill_size nothing all parts_of spec_of decimal_from digits_n digits base_of outside_of form_in form_of figure sign_of prefix_of head_of grouped group_size figures zero_pads zeroed least_of numeral_of copies pad_of left_of inner_of written is_text in_quotes more_of quoted_case quoted_from column_of behind_column columns_n columns_of integer_of with_integer integers_of row_of rows_n rows_of followed records_below items_from nested texts_of form_made part_of fields_past parts_from template_of field_count row_line in_range all_in_range row_made lines_from concat roomed_lines lines_of replayed lines_after kept_after replay_call replay_numbers
replays_computed1 look = refl

pub replays2 : Naming → List Asked
replays2 look =
    ask look (ascii "a{x:5}a{y:}b") (alone' 1 (ascii "a{x:5}a{y:}b")) (49 ∷ 44 ∷ 45 ∷ 50 ∷ 13 ∷ 10 ∷ 51 ∷ 44 ∷ 52 ∷ 13 ∷ 10 ∷ 34 ∷ 53 ∷ 34 ∷ 44 ∷ 45 ∷ 54 ∷ []) 20 (73 ∷ 32 ∷ []) (replicate 20 0)
    ∷ ask look (ascii "a{x:5}a{y:}b") (alone' 1 (ascii "a{x:5}a{y:}b")) (ascii "1,-2,3") 20 (71 ∷ 0 ∷ []) (replicate 20 0)
    ∷ ask look (ascii "{x}{y!r}") (alone' 1 (ascii "{x}{y!r}")) (49 ∷ 44 ∷ 45 ∷ 50 ∷ 13 ∷ 10 ∷ 51 ∷ 44 ∷ 52 ∷ 13 ∷ 10 ∷ 34 ∷ 53 ∷ 34 ∷ 44 ∷ 45 ∷ 54 ∷ []) 20 (69 ∷ 1 ∷ []) (replicate 20 0)
    ∷ ask look (ascii "{x}{y!r}") (alone' 1 (ascii "{x}{y!r}")) (ascii "1,-2,3") 20 (69 ∷ 1 ∷ []) (replicate 20 0)
    ∷ ask look (ascii "{{{x}}}{y=:+}") (alone' 1 (ascii "{{{x}}}{y=:+}")) (49 ∷ 44 ∷ 45 ∷ 50 ∷ 13 ∷ 10 ∷ 51 ∷ 44 ∷ 52 ∷ 13 ∷ 10 ∷ 34 ∷ 53 ∷ 34 ∷ 44 ∷ 45 ∷ 54 ∷ []) 20 (73 ∷ 24 ∷ []) (replicate 20 0)
    ∷ ask look (ascii "{{{x}}}{y=:+}") (alone' 1 (ascii "{{{x}}}{y=:+}")) (ascii "1,-2,3") 20 (71 ∷ 0 ∷ []) (replicate 20 0)
    ∷ ask look (ascii "a{x}b") (0 ∷ 0 ∷ 0 ∷ 1 ∷ 0 ∷ 5 ∷ 1 ∷ 0 ∷ 1 ∷ 3 ∷ 5 ∷ 12 ∷ 0 ∷ 0 ∷ 4 ∷ 1 ∷ 12 ∷ 17 ∷ []) (49 ∷ 13 ∷ 10 ∷ 50 ∷ []) 20 (0 ∷ 2 ∷ 8 ∷ []) (97 ∷ 49 ∷ 98 ∷ 10 ∷ 97 ∷ 50 ∷ 98 ∷ 10 ∷ 9 ∷ 9 ∷ 9 ∷ 9 ∷ 9 ∷ 9 ∷ 9 ∷ 9 ∷ 9 ∷ 9 ∷ 9 ∷ 9 ∷ [])
    ∷ ask look (ascii "{x:>3}{y:?}") (1 ∷ 0 ∷ 0 ∷ 6 ∷ 0 ∷ 10 ∷ 1 ∷ 0 ∷ 6 ∷ 5 ∷ 10 ∷ 19 ∷ []) (ascii "1,2") 20 (68 ∷ 1 ∷ []) (replicate 20 0)
    ∷ ask look (123 ∷ 120 ∷ 58 ∷ 62 ∷ 51 ∷ 125 ∷ 92 ∷ 123 ∷ 121 ∷ 58 ∷ 60 ∷ 51 ∷ 125 ∷ []) (1 ∷ 0 ∷ 0 ∷ 6 ∷ 0 ∷ 10 ∷ 4 ∷ 0 ∷ 6 ∷ 7 ∷ 10 ∷ 21 ∷ []) (49 ∷ 44 ∷ 50 ∷ 13 ∷ 10 ∷ 51 ∷ 44 ∷ 52 ∷ []) 20 (0 ∷ 2 ∷ 16 ∷ []) (32 ∷ 32 ∷ 49 ∷ 92 ∷ 50 ∷ 32 ∷ 32 ∷ 10 ∷ 32 ∷ 32 ∷ 51 ∷ 92 ∷ 52 ∷ 32 ∷ 32 ∷ 10 ∷ 9 ∷ 9 ∷ 9 ∷ 9 ∷ [])
    ∷ ask look (ascii "{x}") (1 ∷ 0 ∷ 0 ∷ 3 ∷ 0 ∷ []) (ascii "1") 20 (2 ∷ []) (replicate 20 0)
    ∷ ask look [] [] (ascii "1") 20 (1 ∷ []) (replicate 20 0)
    ∷ ask look (ascii "a{x=:z}{y:>4}") (alone' 1 (ascii "a{x=:z}{y:>4}")) [] 10 (69 ∷ 0 ∷ []) (replicate 10 0)
    ∷ ask look (ascii "{x:>4}") (alone' 1 (ascii "{x:>4}")) (34 ∷ 49 ∷ 34 ∷ 13 ∷ 10 ∷ 49 ∷ 10 ∷ 50 ∷ 49 ∷ 52 ∷ 55 ∷ 52 ∷ 56 ∷ 51 ∷ 54 ∷ 52 ∷ 55 ∷ 44 ∷ 49 ∷ 50 ∷ 44 ∷ 50 ∷ 49 ∷ 52 ∷ 55 ∷ 52 ∷ 56 ∷ 51 ∷ 54 ∷ 52 ∷ 56 ∷ []) 40 (70 ∷ 1 ∷ []) (replicate 40 0)
    ∷ ask look (ascii "{{{x:_x}") (alone' 1 (ascii "{{{x:_x}")) (45 ∷ 50 ∷ 49 ∷ 52 ∷ 55 ∷ 52 ∷ 56 ∷ 51 ∷ 54 ∷ 52 ∷ 56 ∷ 13 ∷ 10 ∷ []) 40 (0 ∷ 1 ∷ 12 ∷ []) (123 ∷ 45 ∷ 56 ∷ 48 ∷ 48 ∷ 48 ∷ 95 ∷ 48 ∷ 48 ∷ 48 ∷ 48 ∷ 10 ∷ 9 ∷ 9 ∷ 9 ∷ 9 ∷ 9 ∷ 9 ∷ 9 ∷ 9 ∷ 9 ∷ 9 ∷ 9 ∷ 9 ∷ 9 ∷ 9 ∷ 9 ∷ 9 ∷ 9 ∷ 9 ∷ 9 ∷ 9 ∷ 9 ∷ 9 ∷ 9 ∷ 9 ∷ 9 ∷ 9 ∷ 9 ∷ 9 ∷ [])
    ∷ ask look (ascii " {x:65}") (alone' 1 (ascii " {x:65}")) (45 ∷ 50 ∷ 49 ∷ 52 ∷ 55 ∷ 52 ∷ 56 ∷ 51 ∷ 54 ∷ 52 ∷ 56 ∷ 13 ∷ 10 ∷ 45 ∷ 45 ∷ 49 ∷ 13 ∷ 10 ∷ 34 ∷ 45 ∷ 51 ∷ 52 ∷ 53 ∷ 34 ∷ 13 ∷ 10 ∷ []) 40 (69 ∷ 0 ∷ []) (replicate 40 0)
    ∷ ask look (ascii "{{{x:>4} {y:_x}") (alone' 1 (ascii "{{{x:>4} {y:_x}")) (120 ∷ 44 ∷ 13 ∷ 10 ∷ []) 24 (70 ∷ 0 ∷ []) (replicate 24 0)
    ∷ ask look (ascii "{{{x!r:=+6} {y:>4}") (alone' 1 (ascii "{{{x!r:=+6} {y:>4}")) (49 ∷ 44 ∷ 120 ∷ 10 ∷ 45 ∷ 45 ∷ 51 ∷ 52 ∷ 53 ∷ 44 ∷ 120 ∷ []) 24 (69 ∷ 0 ∷ []) (replicate 24 0)
    ∷ ask look (ascii "a{x:04}{y:#b}") (alone' 1 (ascii "a{x:04}{y:#b}")) (ascii "2147483647,-2147483648") 40 (73 ∷ 47 ∷ []) (replicate 40 0)
    ∷ ask look (ascii "a{x:65}{{{y:65}") (alone' 1 (ascii "a{x:65}{{{y:65}")) (49 ∷ 13 ∷ 10 ∷ 49 ∷ 50 ∷ 44 ∷ 48 ∷ 45 ∷ 50 ∷ 49 ∷ 52 ∷ 55 ∷ 52 ∷ 56 ∷ 51 ∷ 54 ∷ 52 ∷ 56 ∷ 13 ∷ 10 ∷ 48 ∷ 44 ∷ 34 ∷ 50 ∷ 49 ∷ 52 ∷ 55 ∷ 52 ∷ 56 ∷ 51 ∷ 54 ∷ 52 ∷ 55 ∷ 34 ∷ 13 ∷ 10 ∷ []) 24 (69 ∷ 0 ∷ []) (replicate 24 0)
    ∷ ask look (ascii "{x=:.2}") (alone' 1 (ascii "{x=:.2}")) (50 ∷ 49 ∷ 52 ∷ 55 ∷ 52 ∷ 56 ∷ 51 ∷ 54 ∷ 52 ∷ 55 ∷ 13 ∷ 10 ∷ 48 ∷ 13 ∷ 10 ∷ 45 ∷ 49 ∷ 44 ∷ 48 ∷ 54 ∷ 53 ∷ 53 ∷ 51 ∷ 53 ∷ []) 40 (69 ∷ 0 ∷ []) (replicate 40 0)
    ∷ ask look (ascii "{x!r:?}") (alone' 1 (ascii "{x!r:?}")) [] 10 (68 ∷ 0 ∷ []) (replicate 10 0)
    ∷ ask look (ascii "a{x:*^7}{{{y:=+6}") (alone' 1 (ascii "a{x:*^7}{{{y:=+6}")) [] 24 (0 ∷ 0 ∷ 0 ∷ []) (9 ∷ 9 ∷ 9 ∷ 9 ∷ 9 ∷ 9 ∷ 9 ∷ 9 ∷ 9 ∷ 9 ∷ 9 ∷ 9 ∷ 9 ∷ 9 ∷ 9 ∷ 9 ∷ 9 ∷ 9 ∷ 9 ∷ 9 ∷ 9 ∷ 9 ∷ 9 ∷ 9 ∷ [])
    ∷ ask look (ascii " {x:,}a{y:04}") (alone' 1 (ascii " {x:,}a{y:04}")) (34 ∷ 45 ∷ 49 ∷ 34 ∷ 44 ∷ 48 ∷ 13 ∷ 10 ∷ 50 ∷ 49 ∷ 52 ∷ 55 ∷ 52 ∷ 56 ∷ 51 ∷ 54 ∷ 52 ∷ 56 ∷ 44 ∷ 50 ∷ 49 ∷ 52 ∷ 55 ∷ 52 ∷ 56 ∷ 51 ∷ 54 ∷ 52 ∷ 56 ∷ 13 ∷ 10 ∷ []) 24 (72 ∷ 1 ∷ []) (replicate 24 0)
    ∷ ask look (ascii "a{x:?}{{{y!r: }") (alone' 1 (ascii "a{x:?}{{{y!r: }")) (ascii "-2147483647,12") 40 (68 ∷ 0 ∷ []) (replicate 40 0)
    ∷ ask look (ascii "{x:*^7}") (alone' 1 (ascii "{x:*^7}")) (54 ∷ 53 ∷ 53 ∷ 51 ∷ 53 ∷ 13 ∷ 10 ∷ 49 ∷ 44 ∷ 49 ∷ []) 10 (71 ∷ 1 ∷ []) (replicate 10 0)
    ∷ ask look (ascii "{x=:=+6}{{{y=:>4}") (alone' 1 (ascii "{x=:=+6}{{{y=:>4}")) [] 40 (0 ∷ 0 ∷ 0 ∷ []) (9 ∷ 9 ∷ 9 ∷ 9 ∷ 9 ∷ 9 ∷ 9 ∷ 9 ∷ 9 ∷ 9 ∷ 9 ∷ 9 ∷ 9 ∷ 9 ∷ 9 ∷ 9 ∷ 9 ∷ 9 ∷ 9 ∷ 9 ∷ 9 ∷ 9 ∷ 9 ∷ 9 ∷ 9 ∷ 9 ∷ 9 ∷ 9 ∷ 9 ∷ 9 ∷ 9 ∷ 9 ∷ 9 ∷ 9 ∷ 9 ∷ 9 ∷ 9 ∷ 9 ∷ 9 ∷ 9 ∷ [])
    ∷ ask look (ascii " {x:_x}") (alone' 1 (ascii " {x:_x}")) (50 ∷ 49 ∷ 52 ∷ 55 ∷ 52 ∷ 56 ∷ 51 ∷ 54 ∷ 52 ∷ 55 ∷ 13 ∷ 10 ∷ 45 ∷ 49 ∷ []) 10 (73 ∷ 15 ∷ []) (replicate 10 0)
    ∷ ask look (ascii "a{x=:.2}") (alone' 1 (ascii "a{x=:.2}")) (ascii "x") 40 (69 ∷ 0 ∷ []) (replicate 40 0)
    ∷ ask look (ascii "{x=:}") (alone' 1 (ascii "{x=:}")) (ascii "12") 24 (0 ∷ 1 ∷ 5 ∷ []) (120 ∷ 61 ∷ 49 ∷ 50 ∷ 10 ∷ 9 ∷ 9 ∷ 9 ∷ 9 ∷ 9 ∷ 9 ∷ 9 ∷ 9 ∷ 9 ∷ 9 ∷ 9 ∷ 9 ∷ 9 ∷ 9 ∷ 9 ∷ 9 ∷ 9 ∷ 9 ∷ 9 ∷ [])
    ∷ ask look (ascii "{{{x:*^7}") (alone' 1 (ascii "{{{x:*^7}")) (45 ∷ 48 ∷ 13 ∷ 10 ∷ 50 ∷ 49 ∷ 52 ∷ 55 ∷ 52 ∷ 56 ∷ 51 ∷ 54 ∷ 52 ∷ 56 ∷ 13 ∷ 10 ∷ 34 ∷ 45 ∷ 49 ∷ 34 ∷ []) 24 (72 ∷ 1 ∷ []) (replicate 24 0)
    ∷ ask look (ascii "{x:+}") (alone' 1 (ascii "{x:+}")) (34 ∷ 49 ∷ 34 ∷ []) 40 (0 ∷ 1 ∷ 3 ∷ []) (43 ∷ 49 ∷ 10 ∷ 9 ∷ 9 ∷ 9 ∷ 9 ∷ 9 ∷ 9 ∷ 9 ∷ 9 ∷ 9 ∷ 9 ∷ 9 ∷ 9 ∷ 9 ∷ 9 ∷ 9 ∷ 9 ∷ 9 ∷ 9 ∷ 9 ∷ 9 ∷ 9 ∷ 9 ∷ 9 ∷ 9 ∷ 9 ∷ 9 ∷ 9 ∷ 9 ∷ 9 ∷ 9 ∷ 9 ∷ 9 ∷ 9 ∷ 9 ∷ 9 ∷ 9 ∷ 9 ∷ [])
    ∷ ask look (ascii "{x:}{y:04}") (alone' 1 (ascii "{x:}{y:04}")) (49 ∷ 44 ∷ 48 ∷ 54 ∷ 53 ∷ 53 ∷ 51 ∷ 53 ∷ 13 ∷ 10 ∷ 45 ∷ 49 ∷ 50 ∷ 44 ∷ 45 ∷ 51 ∷ 52 ∷ 53 ∷ 13 ∷ 10 ∷ 34 ∷ 45 ∷ 50 ∷ 49 ∷ 52 ∷ 55 ∷ 52 ∷ 56 ∷ 51 ∷ 54 ∷ 52 ∷ 56 ∷ 34 ∷ 44 ∷ 45 ∷ 49 ∷ 50 ∷ 13 ∷ 10 ∷ []) 24 (73 ∷ 31 ∷ []) (replicate 24 0)
    ∷ ask look (ascii " {x:+}") (alone' 1 (ascii " {x:+}")) [] 24 (0 ∷ 0 ∷ 0 ∷ []) (9 ∷ 9 ∷ 9 ∷ 9 ∷ 9 ∷ 9 ∷ 9 ∷ 9 ∷ 9 ∷ 9 ∷ 9 ∷ 9 ∷ 9 ∷ 9 ∷ 9 ∷ 9 ∷ 9 ∷ 9 ∷ 9 ∷ 9 ∷ 9 ∷ 9 ∷ 9 ∷ 9 ∷ [])
    ∷ ask look (ascii "a{x:65}") (alone' 1 (ascii "a{x:65}")) (13 ∷ 10 ∷ []) 40 (69 ∷ 0 ∷ []) (replicate 40 0)
    ∷ ask look (ascii "a{x:*^7} {y: }") (alone' 1 (ascii "a{x:*^7} {y: }")) (120 ∷ 44 ∷ 49 ∷ 50 ∷ 13 ∷ 10 ∷ 54 ∷ 53 ∷ 53 ∷ 51 ∷ 53 ∷ 44 ∷ 49 ∷ 50 ∷ 13 ∷ 10 ∷ 54 ∷ 53 ∷ 53 ∷ 51 ∷ 53 ∷ 44 ∷ 34 ∷ 54 ∷ 53 ∷ 53 ∷ 51 ∷ 53 ∷ 34 ∷ []) 10 (70 ∷ 0 ∷ []) (replicate 10 0)
    ∷ ask look (ascii "{{{x!r:0=7,}{{{y:0=7,}") (alone' 1 (ascii "{{{x!r:0=7,}{{{y:0=7,}")) [] 10 (69 ∷ 0 ∷ []) (replicate 10 0)
    ∷ ask look (ascii "{x:*^7}") (alone' 1 (ascii "{x:*^7}")) [] 10 (0 ∷ 0 ∷ 0 ∷ []) (9 ∷ 9 ∷ 9 ∷ 9 ∷ 9 ∷ 9 ∷ 9 ∷ 9 ∷ 9 ∷ 9 ∷ [])
    ∷ ask look (ascii "a{x=:65}{{{y:z}") (alone' 1 (ascii "a{x=:65}{{{y:z}")) (49 ∷ 44 ∷ 13 ∷ 10 ∷ 49 ∷ 44 ∷ 120 ∷ 13 ∷ 10 ∷ 48 ∷ 49 ∷ 44 ∷ 49 ∷ 50 ∷ 13 ∷ 10 ∷ []) 24 (69 ∷ 0 ∷ []) (replicate 24 0)
    ∷ ask look (ascii "{{{x:65}") (alone' 1 (ascii "{{{x:65}")) (ascii "12") 10 (69 ∷ 0 ∷ []) (replicate 10 0)
    ∷ ask look (ascii "{{{x:,}") (alone' 1 (ascii "{{{x:,}")) (ascii "x") 10 (70 ∷ 0 ∷ []) (replicate 10 0)
    ∷ ask look (ascii "{x}a{y:0=7,}") (alone' 1 (ascii "{x}a{y:0=7,}")) (120 ∷ 13 ∷ 10 ∷ []) 24 (70 ∷ 0 ∷ []) (replicate 24 0)
    ∷ ask look (ascii "a{x: }a{y:+}") (alone' 1 (ascii "a{x: }a{y:+}")) (48 ∷ 13 ∷ 10 ∷ 48 ∷ 44 ∷ 34 ∷ 50 ∷ 49 ∷ 52 ∷ 55 ∷ 52 ∷ 56 ∷ 51 ∷ 54 ∷ 52 ∷ 55 ∷ 34 ∷ 13 ∷ 10 ∷ []) 40 (71 ∷ 0 ∷ []) (replicate 40 0)
    ∷ ask look (ascii "{x:.2}a{y:*^7}") (alone' 1 (ascii "{x:.2}a{y:*^7}")) [] 24 (69 ∷ 0 ∷ []) (replicate 24 0)
    ∷ ask look (ascii "a{x}a{y}") (alone' 1 (ascii "a{x}a{y}")) (49 ∷ 50 ∷ 44 ∷ 13 ∷ 10 ∷ 49 ∷ 44 ∷ 48 ∷ 50 ∷ 49 ∷ 52 ∷ 55 ∷ 52 ∷ 56 ∷ 51 ∷ 54 ∷ 52 ∷ 55 ∷ 13 ∷ 10 ∷ 45 ∷ 51 ∷ 52 ∷ 53 ∷ 44 ∷ 49 ∷ 50 ∷ 10 ∷ []) 10 (70 ∷ 0 ∷ []) (replicate 10 0)
    ∷ ask look (ascii "{{{x:=+6}{{{y:+}") (alone' 1 (ascii "{{{x:=+6}{{{y:+}")) (50 ∷ 49 ∷ 52 ∷ 55 ∷ 52 ∷ 56 ∷ 51 ∷ 54 ∷ 52 ∷ 56 ∷ 44 ∷ 13 ∷ 10 ∷ 120 ∷ 44 ∷ 49 ∷ 50 ∷ 13 ∷ 10 ∷ 54 ∷ 53 ∷ 53 ∷ 51 ∷ 53 ∷ 44 ∷ 50 ∷ 49 ∷ 52 ∷ 55 ∷ 52 ∷ 56 ∷ 51 ∷ 54 ∷ 52 ∷ 55 ∷ []) 10 (70 ∷ 0 ∷ []) (replicate 10 0)
    ∷ ask look (ascii " {x:*^7}") (alone' 1 (ascii " {x:*^7}")) (34 ∷ 50 ∷ 49 ∷ 52 ∷ 55 ∷ 52 ∷ 56 ∷ 51 ∷ 54 ∷ 52 ∷ 56 ∷ 34 ∷ 13 ∷ 10 ∷ 45 ∷ 49 ∷ 13 ∷ 10 ∷ 49 ∷ 13 ∷ 10 ∷ []) 10 (72 ∷ 0 ∷ []) (replicate 10 0)
    ∷ ask look (ascii " {x:=+6}") (alone' 1 (ascii " {x:=+6}")) [] 40 (0 ∷ 0 ∷ 0 ∷ []) (9 ∷ 9 ∷ 9 ∷ 9 ∷ 9 ∷ 9 ∷ 9 ∷ 9 ∷ 9 ∷ 9 ∷ 9 ∷ 9 ∷ 9 ∷ 9 ∷ 9 ∷ 9 ∷ 9 ∷ 9 ∷ 9 ∷ 9 ∷ 9 ∷ 9 ∷ 9 ∷ 9 ∷ 9 ∷ 9 ∷ 9 ∷ 9 ∷ 9 ∷ 9 ∷ 9 ∷ 9 ∷ 9 ∷ 9 ∷ 9 ∷ 9 ∷ 9 ∷ 9 ∷ 9 ∷ 9 ∷ [])
    ∷ ask look (ascii "{x:#b}a{y:x}") (alone' 1 (ascii "{x:#b}a{y:x}")) (45 ∷ 49 ∷ 44 ∷ 45 ∷ 50 ∷ 49 ∷ 52 ∷ 55 ∷ 52 ∷ 56 ∷ 51 ∷ 54 ∷ 52 ∷ 56 ∷ 13 ∷ 10 ∷ 45 ∷ 49 ∷ 44 ∷ 120 ∷ []) 40 (70 ∷ 1 ∷ []) (replicate 40 0)
    ∷ ask look (ascii " {x:.2}{y:#b}") (alone' 1 (ascii " {x:.2}{y:#b}")) [] 10 (69 ∷ 0 ∷ []) (replicate 10 0)
    ∷ ask look (ascii " {x:>4} {y:*^7}") (alone' 1 (ascii " {x:>4} {y:*^7}")) (ascii "01") 40 (71 ∷ 0 ∷ []) (replicate 40 0)
    ∷ []

pub replays_computed2 : (look : Naming) → map (λ r. r.gives) (replays2 look) ≡ map (λ r. r.wants) (replays2 look)
unfolding replays2 prefix ascii inside_any table37 following follow width decoded code next char formed_from well_formed utf8 white_space before same more count_from counted octal_digit octal_from hex_digit scalar hex_from lookup named unicode_name escape_case escape encode meant with_escape string_case string_move string_n text_case text_move filled with_equals with_bang with_colon with_close fresh add documented spaced formatted outside field_case case_of conversion_move open_move close_move quote_move field_move direct conversion_of field_pieces self_documenting finished specified plain_run text_n alone read_body touching covers item item_of glue merge both_items merged texts record_at laid cover answer_of one_more sixes opening place_of body refusal moved not_empty not_many first_bad bad all_good total not_long formed ill_formed all_utf8 any_of first_start not_mixed first_of entry opened_at refusal_in read_literal and_then read_from sort_of u_mark last_end all_chars answered read outcome_of short_of room_for roomed all_words words_after text_after called read_into read_numbers numbers_by first past front behind pointed past_pointed fill_size nothing all parts_of spec_of decimal_from digits_n digits base_of outside_of form_in form_of figure sign_of prefix_of head_of grouped group_size figures zero_pads zeroed least_of numeral_of copies pad_of left_of inner_of written is_text in_quotes more_of quoted_case quoted_from column_of behind_column columns_n columns_of integer_of with_integer integers_of row_of rows_n rows_of followed records_below items_from nested texts_of form_made part_of fields_past parts_from template_of field_count row_line in_range all_in_range row_made lines_from concat roomed_lines lines_of replayed lines_after kept_after replay_call replay_numbers
replays_computed2 look = refl

-- a refusal of 68 to 73 leaves no record of the template
pub stops_left : kept_after (stops 68 0) (9 ∷ 9 ∷ []) ≡ 0 ∷ 0 ∷ []
unfolding kept_after
stops_left = refl
