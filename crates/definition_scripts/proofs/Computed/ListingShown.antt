-- The list of every field of small scripts by a table, computed; what is expected comes from a model that was written from the rules alone. Assumes nothing.
use Prim.Native.Nat.{ℕ}
use Prim.Native.String.{String}
use mathlib.Core.Path.{◌≡◌, refl}
use mathlib.Core.List.{List, [], ◌∷◌, map}
use lib.ListN.{replicate}
use Rattle.definition.specs.Numbers.{prefix}
use Rattle.definition.specs.Chars.{ascii, inside_any, table37, following, follow, width, decoded, code, next, char, formed_from, well_formed, utf8, white_space, before, same}
use Rattle.definition.specs.Counts.{more, count_from, counted}
use Rattle.definition.specs.Escapes.{Naming, octal_digit, octal_from, hex_digit, scalar, hex_from, lookup, named, unicode_name, escape_case, escape, encode, meant}
use Rattle.definition.specs.Body.{with_escape, string_case, string_move, string_n, text_case, text_move, filled, with_equals, with_bang, with_colon, with_close, fresh, add, documented, spaced, formatted, outside, field_case, case_of, conversion_move, open_move, close_move, quote_move, field_move, direct, conversion_of, field_pieces, self_documenting, finished, specified, plain_run, text_n, alone, read_body}
use Rattle.definition.specs.Records.{touching, covers, item, item_of, glue, merge, both_items, merged, texts, record_at, laid, cover, answer_of}
use Rattle.definition.specs.Entry.{opening, place_of, body, refusal, moved, not_empty, not_many, first_bad, bad, all_good, total, not_long, formed, ill_formed, all_utf8, any_of, first_start, not_mixed, first_of, entry}
use Rattle.definition.specs.Reading.{opened_at, refusal_in, read_literal, and_then, read_from, sort_of, u_mark, last_end, all_chars, answered, read}
use Rattle.definition.specs.Rows.{reason, row_numbers, sign_at, signs_at, field_rows, pieces_of, literal_rows}
use Rattle.definition_scripts.specs.Opening.{one_letter, two_letters, opens, quotes_of, tripled, quotes_at, apart}
use Rattle.definition_scripts.specs.Literals.{body_case, closing_n, closing, closed_at, literal_at}
use Rattle.definition_scripts.specs.Cut.{begins, cut_case, first_cut, cut_n, cut_from, cut, cut_part}
use Rattle.definition_scripts.specs.Keywords.{word_start, keywords, is_one_of, ends_in_keyword, known, may_stand}
use Rattle.definition_scripts.specs.Listing.{ten_of, tens, read_rows, unknown_row, own_rows, all_read, broken_row, cut_rows, source_end, reached, first_in, quoted_inside, first_odd, more_after, spec_backslash, otherwise, otherwise_row, source_rows, below, levels_n, rows_of, refusals_in, fields_of, fields_after, fields_call, fields_into, fields_numbers, wrong_names}

-- the answer's numbers and the row buffer, which held so many nines
abbrev asked : (look : Naming) → String → ℕ → List ℕ × List ℕ
unfolding ascii
asked look text room = let c = fields_into look (ascii text) (replicate room 9) in (fields_numbers c.listed, c.rows)

pub record Asked : Type 0 where
  pub asks : List ℕ × List ℕ
  pub is : List ℕ × List ℕ

infix 3 ◌gives◌
abbrev ◌gives◌ : List ℕ × List ℕ → List ℕ × List ℕ → Asked
asks gives is = record { asks = asks; is = is }

pub scripts : (look : Naming) → List Asked
unfolding ascii
scripts look =
    -- reasons and signs; a plain literal is not read
    (asked look "x = f'{a!r}{b=}{c=:3}{d}' 'e{'" 41 gives (0 ∷ 4 ∷ 0 ∷ 2 ∷ 30 ∷ [], 1 ∷ 4 ∷ 7 ∷ 1 ∷ 114 ∷ 0 ∷ 9 ∷ 0 ∷ 11 ∷ 0 ∷ 3 ∷ 4 ∷ 12 ∷ 1 ∷ 114 ∷ 14 ∷ 0 ∷ 0 ∷ 15 ∷ 0 ∷ 4 ∷ 4 ∷ 16 ∷ 1 ∷ 0 ∷ 18 ∷ 0 ∷ 19 ∷ 21 ∷ 0 ∷ 2 ∷ 4 ∷ 22 ∷ 1 ∷ 0 ∷ 0 ∷ 0 ∷ 0 ∷ 24 ∷ 0 ∷ 9 ∷ []))
    -- nested fields; neither a comment's quote nor a prefix after a letter
    ∷ (asked look "f'{x:{y}>{z!s}}' # f'{no}'\nxf'{n}'" 41 gives (0 ∷ 4 ∷ 1 ∷ 2 ∷ 34 ∷ [], 2 ∷ 0 ∷ 3 ∷ 1 ∷ 0 ∷ 0 ∷ 0 ∷ 5 ∷ 15 ∷ 0 ∷ 2 ∷ 0 ∷ 6 ∷ 1 ∷ 0 ∷ 0 ∷ 0 ∷ 0 ∷ 8 ∷ 0 ∷ 1 ∷ 0 ∷ 10 ∷ 1 ∷ 115 ∷ 0 ∷ 12 ∷ 0 ∷ 14 ∷ 0 ∷ 5 ∷ 29 ∷ 27 ∷ 76 ∷ 0 ∷ 0 ∷ 0 ∷ 0 ∷ 0 ∷ 0 ∷ 9 ∷ []))
    -- adjacent ones; b and u have none
    ∷ (asked look "f'{a}'f'{b}'b'{c}'u'{d}'" 21 gives (0 ∷ 2 ∷ 0 ∷ 4 ∷ 24 ∷ [], 2 ∷ 0 ∷ 3 ∷ 1 ∷ 0 ∷ 0 ∷ 0 ∷ 0 ∷ 5 ∷ 0 ∷ 2 ∷ 6 ∷ 9 ∷ 1 ∷ 0 ∷ 0 ∷ 0 ∷ 0 ∷ 11 ∷ 0 ∷ 9 ∷ []))
    -- literals in expressions, level by level, and in a nested field's
    ∷ (asked look "f'{f\"{g}\"}{h}'" 31 gives (0 ∷ 3 ∷ 0 ∷ 1 ∷ 14 ∷ [], 2 ∷ 0 ∷ 3 ∷ 6 ∷ 0 ∷ 0 ∷ 0 ∷ 0 ∷ 10 ∷ 0 ∷ 2 ∷ 0 ∷ 11 ∷ 1 ∷ 0 ∷ 0 ∷ 0 ∷ 0 ∷ 13 ∷ 0 ∷ 2 ∷ 3 ∷ 6 ∷ 1 ∷ 0 ∷ 0 ∷ 0 ∷ 0 ∷ 8 ∷ 1 ∷ 9 ∷ []))
    ∷ (asked look "f'''{f\"{f'{x}'}\"}'''" 31 gives (0 ∷ 3 ∷ 0 ∷ 1 ∷ 20 ∷ [], 2 ∷ 0 ∷ 5 ∷ 11 ∷ 0 ∷ 0 ∷ 0 ∷ 0 ∷ 17 ∷ 0 ∷ 2 ∷ 5 ∷ 8 ∷ 6 ∷ 0 ∷ 0 ∷ 0 ∷ 0 ∷ 15 ∷ 1 ∷ 2 ∷ 8 ∷ 11 ∷ 1 ∷ 0 ∷ 0 ∷ 0 ∷ 0 ∷ 13 ∷ 2 ∷ 9 ∷ []))
    ∷ (asked look "f'''{x[\"a\"]!r:>{f\"{w}\"}}'''" 31 gives (0 ∷ 3 ∷ 0 ∷ 1 ∷ 27 ∷ [], 1 ∷ 0 ∷ 5 ∷ 6 ∷ 114 ∷ 0 ∷ 12 ∷ 14 ∷ 24 ∷ 0 ∷ 2 ∷ 0 ∷ 16 ∷ 6 ∷ 0 ∷ 0 ∷ 0 ∷ 0 ∷ 23 ∷ 0 ∷ 2 ∷ 16 ∷ 19 ∷ 1 ∷ 0 ∷ 0 ∷ 0 ∷ 0 ∷ 21 ∷ 2 ∷ 9 ∷ []))
    -- what follows a refused one is listed; details, and the bracket of 23
    ∷ (asked look "f'{x!q}' rf'{b}'" 21 gives (0 ∷ 2 ∷ 1 ∷ 2 ∷ 16 ∷ [], 5 ∷ 0 ∷ 6 ∷ 21 ∷ 0 ∷ 0 ∷ 0 ∷ 0 ∷ 0 ∷ 0 ∷ 2 ∷ 9 ∷ 13 ∷ 1 ∷ 0 ∷ 0 ∷ 0 ∷ 0 ∷ 15 ∷ 0 ∷ 9 ∷ []))
    ∷ (asked look "f'{(a]}'f'{a)}'f'{a'f'{" 40 gives (0 ∷ 4 ∷ 4 ∷ 3 ∷ 20 ∷ [], 5 ∷ 0 ∷ 6 ∷ 23 ∷ 40 ∷ 93 ∷ 4 ∷ 0 ∷ 0 ∷ 0 ∷ 5 ∷ 8 ∷ 13 ∷ 26 ∷ 41 ∷ 0 ∷ 0 ∷ 0 ∷ 0 ∷ 0 ∷ 5 ∷ 15 ∷ 19 ∷ 20 ∷ 4 ∷ 0 ∷ 0 ∷ 0 ∷ 0 ∷ 0 ∷ 5 ∷ 20 ∷ 20 ∷ 50 ∷ 0 ∷ 0 ∷ 0 ∷ 0 ∷ 0 ∷ 0 ∷ []))
    ∷ (asked look "f'é'f'{a}}'\n f'{b}'" 30 gives (0 ∷ 3 ∷ 2 ∷ 3 ∷ 19 ∷ [], 5 ∷ 0 ∷ 2 ∷ 6 ∷ 0 ∷ 0 ∷ 0 ∷ 0 ∷ 0 ∷ 0 ∷ 5 ∷ 4 ∷ 10 ∷ 25 ∷ 0 ∷ 0 ∷ 0 ∷ 0 ∷ 0 ∷ 0 ∷ 2 ∷ 13 ∷ 16 ∷ 1 ∷ 0 ∷ 0 ∷ 0 ∷ 0 ∷ 18 ∷ 0 ∷ []))
    -- 50 and 51 after the others of that cut, in the script and in a source
    ∷ (asked look "b'{x}' '{y}' F\"{ z }\" 'a" 21 gives (0 ∷ 2 ∷ 1 ∷ 3 ∷ 22 ∷ [], 2 ∷ 13 ∷ 16 ∷ 3 ∷ 0 ∷ 0 ∷ 0 ∷ 0 ∷ 20 ∷ 0 ∷ 5 ∷ 22 ∷ 22 ∷ 50 ∷ 0 ∷ 0 ∷ 0 ∷ 0 ∷ 0 ∷ 0 ∷ 9 ∷ []))
    ∷ (asked look "f'{a}'u'\nf'{b}'" 20 gives (0 ∷ 2 ∷ 1 ∷ 1 ∷ 6 ∷ [], 2 ∷ 0 ∷ 3 ∷ 1 ∷ 0 ∷ 0 ∷ 0 ∷ 0 ∷ 5 ∷ 0 ∷ 5 ∷ 6 ∷ 6 ∷ 51 ∷ 0 ∷ 0 ∷ 0 ∷ 0 ∷ 0 ∷ 0 ∷ []))
    ∷ (asked look "f'''{f\"{a}\"'\n'}'''" 31 gives (0 ∷ 3 ∷ 1 ∷ 1 ∷ 18 ∷ [], 2 ∷ 0 ∷ 5 ∷ 9 ∷ 0 ∷ 0 ∷ 0 ∷ 0 ∷ 15 ∷ 0 ∷ 2 ∷ 5 ∷ 8 ∷ 1 ∷ 0 ∷ 0 ∷ 0 ∷ 0 ∷ 10 ∷ 1 ∷ 5 ∷ 11 ∷ 11 ∷ 51 ∷ 0 ∷ 0 ∷ 0 ∷ 0 ∷ 0 ∷ 1 ∷ 9 ∷ []))
    -- 75: a `#`, a backslash, a triple-quoted literal with its own quote inside
    ∷ (asked look "f'{x#}{\"#\"}'" 30 gives (0 ∷ 3 ∷ 1 ∷ 1 ∷ 12 ∷ [], 2 ∷ 0 ∷ 3 ∷ 2 ∷ 0 ∷ 0 ∷ 0 ∷ 0 ∷ 6 ∷ 0 ∷ 2 ∷ 0 ∷ 7 ∷ 3 ∷ 0 ∷ 0 ∷ 0 ∷ 0 ∷ 11 ∷ 0 ∷ 5 ∷ 0 ∷ 4 ∷ 75 ∷ 0 ∷ 0 ∷ 0 ∷ 0 ∷ 0 ∷ 1 ∷ []))
    ∷ (asked look "f'{\"\\n\"}'f'{f\"\\{a}\"}'" 50 gives (0 ∷ 5 ∷ 2 ∷ 2 ∷ 21 ∷ [], 2 ∷ 0 ∷ 3 ∷ 4 ∷ 0 ∷ 0 ∷ 0 ∷ 0 ∷ 8 ∷ 0 ∷ 2 ∷ 9 ∷ 12 ∷ 7 ∷ 0 ∷ 0 ∷ 0 ∷ 0 ∷ 20 ∷ 0 ∷ 5 ∷ 0 ∷ 4 ∷ 75 ∷ 0 ∷ 0 ∷ 0 ∷ 0 ∷ 0 ∷ 1 ∷ 5 ∷ 9 ∷ 14 ∷ 75 ∷ 0 ∷ 0 ∷ 0 ∷ 0 ∷ 0 ∷ 2 ∷ 2 ∷ 12 ∷ 16 ∷ 1 ∷ 0 ∷ 0 ∷ 0 ∷ 0 ∷ 18 ∷ 2 ∷ []))
    ∷ (asked look "f'{\"\"\"\"{{\"}\"\"\"}{\"\"\"\"}}\":\"\"\"}'" 21 gives (0 ∷ 2 ∷ 1 ∷ 1 ∷ 29 ∷ [], 2 ∷ 0 ∷ 3 ∷ 24 ∷ 0 ∷ 0 ∷ 0 ∷ 0 ∷ 28 ∷ 0 ∷ 5 ∷ 0 ∷ 3 ∷ 75 ∷ 0 ∷ 0 ∷ 0 ∷ 0 ∷ 0 ∷ 1 ∷ 9 ∷ []))
    -- more than spaces after the first `=`; a spec's backslash before any brace, of kind 1
    ∷ (asked look "f'{x=()}{a= =}{b=  !r}'" 50 gives (0 ∷ 5 ∷ 2 ∷ 1 ∷ 23 ∷ [], 3 ∷ 0 ∷ 3 ∷ 3 ∷ 114 ∷ 5 ∷ 0 ∷ 0 ∷ 8 ∷ 0 ∷ 3 ∷ 0 ∷ 9 ∷ 1 ∷ 114 ∷ 11 ∷ 0 ∷ 0 ∷ 14 ∷ 0 ∷ 1 ∷ 0 ∷ 15 ∷ 1 ∷ 114 ∷ 17 ∷ 20 ∷ 0 ∷ 22 ∷ 0 ∷ 5 ∷ 0 ∷ 5 ∷ 75 ∷ 0 ∷ 0 ∷ 0 ∷ 0 ∷ 0 ∷ 1 ∷ 5 ∷ 0 ∷ 11 ∷ 75 ∷ 0 ∷ 0 ∷ 0 ∷ 0 ∷ 0 ∷ 2 ∷ []))
    ∷ (asked look "f'{x:\\N{D}}'fr'{x:\\d}'f'{x:{y}\\t}'" 61 gives (0 ∷ 6 ∷ 1 ∷ 3 ∷ 34 ∷ [], 2 ∷ 0 ∷ 3 ∷ 1 ∷ 0 ∷ 0 ∷ 0 ∷ 5 ∷ 11 ∷ 0 ∷ 2 ∷ 0 ∷ 8 ∷ 1 ∷ 0 ∷ 0 ∷ 0 ∷ 0 ∷ 10 ∷ 0 ∷ 2 ∷ 12 ∷ 16 ∷ 1 ∷ 0 ∷ 0 ∷ 0 ∷ 18 ∷ 21 ∷ 0 ∷ 2 ∷ 22 ∷ 25 ∷ 1 ∷ 0 ∷ 0 ∷ 0 ∷ 27 ∷ 33 ∷ 0 ∷ 2 ∷ 22 ∷ 28 ∷ 1 ∷ 0 ∷ 0 ∷ 0 ∷ 0 ∷ 30 ∷ 0 ∷ 5 ∷ 0 ∷ 5 ∷ 75 ∷ 0 ∷ 0 ∷ 0 ∷ 0 ∷ 0 ∷ 1 ∷ 9 ∷ []))
    -- the first of them counts, and one is told
    ∷ (asked look "f'{[\"\\a\"#]}'" 20 gives (0 ∷ 2 ∷ 1 ∷ 1 ∷ 12 ∷ [], 2 ∷ 0 ∷ 3 ∷ 7 ∷ 0 ∷ 0 ∷ 0 ∷ 0 ∷ 11 ∷ 0 ∷ 5 ∷ 0 ∷ 5 ∷ 75 ∷ 0 ∷ 0 ∷ 0 ∷ 0 ∷ 0 ∷ 1 ∷ []))
    ∷ (asked look "f'{[x#\"\\a\"]=:\\n}'" 20 gives (0 ∷ 2 ∷ 1 ∷ 1 ∷ 17 ∷ [], 4 ∷ 0 ∷ 3 ∷ 8 ∷ 0 ∷ 12 ∷ 0 ∷ 13 ∷ 16 ∷ 0 ∷ 5 ∷ 0 ∷ 5 ∷ 75 ∷ 0 ∷ 0 ∷ 0 ∷ 0 ∷ 0 ∷ 1 ∷ []))
    -- 76: a prefix of another Python, a word from 80 (hex) on before an f-string, one in a source; places where the word begins
    ∷ (asked look "t\"{x}\"" 11 gives (0 ∷ 1 ∷ 1 ∷ 1 ∷ 6 ∷ [], 5 ∷ 1 ∷ 0 ∷ 76 ∷ 0 ∷ 0 ∷ 0 ∷ 0 ∷ 0 ∷ 0 ∷ 9 ∷ []))
    ∷ (asked look "Ã©f\"{x}\"" 20 gives (0 ∷ 2 ∷ 1 ∷ 1 ∷ 8 ∷ [], 5 ∷ 2 ∷ 0 ∷ 76 ∷ 0 ∷ 0 ∷ 0 ∷ 0 ∷ 0 ∷ 0 ∷ 2 ∷ 2 ∷ 5 ∷ 1 ∷ 0 ∷ 0 ∷ 0 ∷ 0 ∷ 7 ∷ 0 ∷ []))
    ∷ (asked look "(bt'..'x_9'')" 20 gives (0 ∷ 2 ∷ 2 ∷ 2 ∷ 13 ∷ [], 5 ∷ 3 ∷ 1 ∷ 76 ∷ 0 ∷ 0 ∷ 0 ∷ 0 ∷ 0 ∷ 0 ∷ 5 ∷ 10 ∷ 7 ∷ 76 ∷ 0 ∷ 0 ∷ 0 ∷ 0 ∷ 0 ∷ 0 ∷ []))
    ∷ (asked look "f\"{t'a'}\"" 20 gives (0 ∷ 2 ∷ 1 ∷ 1 ∷ 9 ∷ [], 2 ∷ 0 ∷ 3 ∷ 4 ∷ 0 ∷ 0 ∷ 0 ∷ 0 ∷ 8 ∷ 0 ∷ 5 ∷ 4 ∷ 3 ∷ 76 ∷ 0 ∷ 0 ∷ 0 ∷ 0 ∷ 0 ∷ 1 ∷ []))
    -- keywords may stand there, and numbers with one behind them; no other keyword, and none behind a letter
    ∷ (asked look "and''as''assert''await''case''del''elif''else''except''for''from''if''in''is''match''not''or''raise''return''while''with''yield''" 1 gives (0 ∷ 0 ∷ 0 ∷ 22 ∷ 129 ∷ [], 9 ∷ []))
    ∷ (asked look "1if\"a\"else\"b\"0x1for\"c\"2.5and\"d\"0if''9in''\u{7f}''" 1 gives (0 ∷ 0 ∷ 0 ∷ 7 ∷ 44 ∷ [], 9 ∷ []))
    ∷ (asked look "False''None''True''async''break''class''continue''def''finally''global''import''lambda''nonlocal''pass''try''_''9''1t''xif''Else''Ã©in''\u{80}''ÿ''" 1 gives (53 ∷ 0 ∷ 0 ∷ 0 ∷ 0 ∷ 0 ∷ 0 ∷ 0 ∷ 0 ∷ 23 ∷ [], 0 ∷ []))
    -- 53
    ∷ (asked look "f'{f\"{g}\"}{h}'" 29 gives (53 ∷ 0 ∷ 0 ∷ 0 ∷ 0 ∷ 0 ∷ 0 ∷ 0 ∷ 0 ∷ 3 ∷ [], 0 ∷ 0 ∷ 0 ∷ 0 ∷ 0 ∷ 0 ∷ 0 ∷ 0 ∷ 0 ∷ 0 ∷ 0 ∷ 0 ∷ 0 ∷ 0 ∷ 0 ∷ 0 ∷ 0 ∷ 0 ∷ 0 ∷ 0 ∷ 0 ∷ 0 ∷ 0 ∷ 0 ∷ 0 ∷ 0 ∷ 0 ∷ 0 ∷ 0 ∷ []))
    ∷ []

pub scripts_listed : (look : Naming) → map (λ r. r.asks) (scripts look) ≡ map (λ r. r.is) (scripts look)
unfolding scripts prefix ascii inside_any table37 following follow width decoded code next char formed_from well_formed utf8 white_space before same more count_from counted octal_digit octal_from hex_digit scalar hex_from lookup named unicode_name escape_case escape encode meant with_escape string_case string_move string_n text_case text_move filled with_equals with_bang with_colon with_close fresh add documented spaced formatted outside field_case case_of conversion_move open_move close_move quote_move field_move direct conversion_of field_pieces self_documenting finished specified plain_run text_n alone read_body touching covers item item_of glue merge both_items merged texts record_at laid cover answer_of opening place_of body refusal moved not_empty not_many first_bad bad all_good total not_long formed ill_formed all_utf8 any_of first_start not_mixed first_of entry opened_at refusal_in read_literal and_then read_from sort_of u_mark last_end all_chars answered read reason row_numbers sign_at signs_at field_rows pieces_of literal_rows one_letter two_letters opens quotes_of tripled quotes_at apart body_case closing_n closing closed_at literal_at begins cut_case first_cut cut_n cut_from cut cut_part word_start keywords is_one_of ends_in_keyword known may_stand ten_of tens read_rows unknown_row own_rows all_read broken_row cut_rows source_end reached first_in quoted_inside first_odd more_after spec_backslash otherwise otherwise_row source_rows below levels_n rows_of refusals_in fields_of fields_after fields_call fields_into fields_numbers
scripts_listed look = refl

-- a wrong file or index of names leaves zeros
pub wrong_names_left : fields_after (wrong_names 60) (9 ∷ 9 ∷ []) ≡ 0 ∷ 0 ∷ []
unfolding fields_after
wrong_names_left = refl
