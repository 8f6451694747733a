-- The rows of small bodies, and what a call for them answers, by a table, computed. Assumes nothing.
use Prim.Native.Nat.{ℕ}
use Prim.Native.String.{String}
use mathlib.Core.Path.{◌≡◌, refl}
use mathlib.Core.List.{List, [], ◌∷◌, map}
use lib.ListN.{replicate}
use Rattle.definition.specs.Numbers.{prefix}
use Rattle.definition.specs.Chars.{ascii, inside_any, table37, following, follow, width, decoded, code, next, char, formed_from, well_formed, utf8, white_space, before, same}
use Rattle.definition.specs.Counts.{more, count_from, counted}
use Rattle.definition.specs.Escapes.{Naming, octal_digit, octal_from, hex_digit, scalar, hex_from, lookup, named, unicode_name, escape_case, escape, encode, meant}
use Rattle.definition.specs.Body.{with_escape, string_case, string_move, string_n, text_case, text_move, filled, with_equals, with_bang, with_colon, with_close, fresh, add, documented, spaced, formatted, outside, field_case, case_of, conversion_move, open_move, close_move, quote_move, field_move, direct, conversion_of, field_pieces, self_documenting, finished, specified, plain_run, text_n, alone, read_body}
use Rattle.definition.specs.Records.{touching, covers, item, item_of, glue, merge, both_items, merged, texts, record_at, laid, cover, answer_of}
use Rattle.definition.specs.Entry.{Literal, sixes, one_more, opening, place_of, body, refusal, moved, not_empty, not_many, first_bad, bad, all_good, total, not_long, formed, ill_formed, all_utf8, any_of, first_start, not_mixed, first_of, entry}
use Rattle.definition.specs.Reading.{opened_at, refusal_in, read_literal, and_then, read_from, sort_of, u_mark, last_end, all_chars, answered, read, outcome_of, short_of, room_for, sort_number, numbers}
use Rattle.definition.specs.Rows.{reason, row_numbers, sign_at, signs_at, field_rows, pieces_of, literal_rows, all_rows, all_numbers, rowed, roomed_rows, rows_after, called_rows, signs_into, signs_numbers, rowed_numbers, absent, verbatim, nested, braced, written_spec, row_spec}

-- the answer's numbers and the row buffer, which held so many nines
abbrev asked : (look : Naming) → String → List ℕ → ℕ → List ℕ × List ℕ
unfolding ascii
asked look text ns room = let c = signs_numbers look (ascii text) ns (replicate room 9) in (rowed_numbers c.outcome, c.rows)

pub record Asked : Type 0 where
  pub asks : List ℕ × List ℕ
  pub is : List ℕ × List ℕ

infix 3 ◌gives◌
abbrev ◌gives◌ : List ℕ × List ℕ → List ℕ × List ℕ → Asked
asks gives is = record { asks = asks; is = is }

pub signings : (look : Naming) → List Asked
unfolding ascii
signings look =
    -- the four reasons (RULES 7.2)
    (asked look "{x!r}{y=}{z=:3}{w}" (1 ∷ 0 ∷ 0 ∷ 18 ∷ 0 ∷ 21 ∷ []) 41 gives (0 ∷ 1 ∷ 0 ∷ 0 ∷ 21 ∷ 4 ∷ 0 ∷ 0 ∷ 18 ∷ [], 1 ∷ 0 ∷ 3 ∷ 1 ∷ 114 ∷ 0 ∷ 5 ∷ 0 ∷ 7 ∷ 0 ∷ 3 ∷ 0 ∷ 8 ∷ 1 ∷ 114 ∷ 10 ∷ 0 ∷ 0 ∷ 11 ∷ 0 ∷ 4 ∷ 0 ∷ 12 ∷ 1 ∷ 0 ∷ 14 ∷ 0 ∷ 15 ∷ 17 ∷ 0 ∷ 2 ∷ 0 ∷ 18 ∷ 1 ∷ 0 ∷ 0 ∷ 0 ∷ 0 ∷ 20 ∷ 0 ∷ 9 ∷ []))
    -- written beside a self-documenting `=`; an empty spec; the first of two `=`
    ∷ (asked look "{x=!r}{x=!r:>5}{x=:}{x= =}" (1 ∷ 0 ∷ 0 ∷ 26 ∷ 0 ∷ 29 ∷ []) 40 gives (0 ∷ 1 ∷ 0 ∷ 0 ∷ 29 ∷ 4 ∷ 0 ∷ 0 ∷ 26 ∷ [], 1 ∷ 0 ∷ 3 ∷ 1 ∷ 114 ∷ 5 ∷ 6 ∷ 0 ∷ 8 ∷ 0 ∷ 1 ∷ 0 ∷ 9 ∷ 1 ∷ 114 ∷ 11 ∷ 12 ∷ 14 ∷ 17 ∷ 0 ∷ 4 ∷ 0 ∷ 18 ∷ 1 ∷ 0 ∷ 20 ∷ 0 ∷ 21 ∷ 22 ∷ 0 ∷ 3 ∷ 0 ∷ 23 ∷ 1 ∷ 114 ∷ 25 ∷ 0 ∷ 0 ∷ 28 ∷ 0 ∷ []))
    -- nested fields
    ∷ (asked look "{x:{y!s}>{z=}}" (1 ∷ 0 ∷ 0 ∷ 14 ∷ 0 ∷ 17 ∷ []) 30 gives (0 ∷ 1 ∷ 0 ∷ 0 ∷ 17 ∷ 3 ∷ 0 ∷ 0 ∷ 14 ∷ [], 2 ∷ 0 ∷ 3 ∷ 1 ∷ 0 ∷ 0 ∷ 0 ∷ 5 ∷ 16 ∷ 0 ∷ 1 ∷ 0 ∷ 6 ∷ 1 ∷ 115 ∷ 0 ∷ 8 ∷ 0 ∷ 10 ∷ 0 ∷ 3 ∷ 0 ∷ 12 ∷ 1 ∷ 114 ∷ 14 ∷ 0 ∷ 0 ∷ 15 ∷ 0 ∷ []))
    -- an expression on both sides of an `=`; a pair is no sign
    ∷ (asked look "{x=()}{a!=b}" (1 ∷ 0 ∷ 0 ∷ 12 ∷ 0 ∷ 15 ∷ []) 21 gives (0 ∷ 1 ∷ 0 ∷ 0 ∷ 15 ∷ 2 ∷ 0 ∷ 0 ∷ 12 ∷ [], 3 ∷ 0 ∷ 3 ∷ 3 ∷ 114 ∷ 5 ∷ 0 ∷ 0 ∷ 8 ∷ 0 ∷ 2 ∷ 0 ∷ 9 ∷ 4 ∷ 0 ∷ 0 ∷ 0 ∷ 0 ∷ 14 ∷ 0 ∷ 9 ∷ []))
    -- the second of two literals
    ∷ (asked look "q{a!a}" (0 ∷ 0 ∷ 0 ∷ 1 ∷ 0 ∷ 3 ∷ 1 ∷ 0 ∷ 1 ∷ 5 ∷ 4 ∷ 12 ∷ []) 12 gives (0 ∷ 1 ∷ 0 ∷ 0 ∷ 12 ∷ 1 ∷ 0 ∷ 0 ∷ 6 ∷ [], 1 ∷ 4 ∷ 7 ∷ 1 ∷ 97 ∷ 0 ∷ 9 ∷ 0 ∷ 11 ∷ 0 ∷ 9 ∷ 9 ∷ []))
    -- refused: of a body, for room, for the numbers
    ∷ (asked look "{a}{" (1 ∷ 0 ∷ 0 ∷ 4 ∷ 0 ∷ 7 ∷ []) 10 gives (20 ∷ 0 ∷ 6 ∷ 5 ∷ 0 ∷ 0 ∷ 0 ∷ 4 ∷ 4 ∷ [], 0 ∷ 0 ∷ 0 ∷ 0 ∷ 0 ∷ 0 ∷ 0 ∷ 0 ∷ 0 ∷ 0 ∷ []))
    ∷ (asked look "{x!r}{y=}" (1 ∷ 0 ∷ 0 ∷ 9 ∷ 0 ∷ 12 ∷ []) 19 gives (30 ∷ 0 ∷ 0 ∷ 2 ∷ 0 ∷ 0 ∷ 0 ∷ 0 ∷ 9 ∷ [], 0 ∷ 0 ∷ 0 ∷ 0 ∷ 0 ∷ 0 ∷ 0 ∷ 0 ∷ 0 ∷ 0 ∷ 0 ∷ 0 ∷ 0 ∷ 0 ∷ 0 ∷ 0 ∷ 0 ∷ 0 ∷ 0 ∷ []))
    ∷ (asked look "{a}" (1 ∷ 0 ∷ 0 ∷ 3 ∷ 0 ∷ []) 10 gives (2 ∷ 0 ∷ 0 ∷ 0 ∷ 0 ∷ 0 ∷ 0 ∷ 0 ∷ 0 ∷ [], 0 ∷ 0 ∷ 0 ∷ 0 ∷ 0 ∷ 0 ∷ 0 ∷ 0 ∷ 0 ∷ 0 ∷ []))
    ∷ []

pub signings_read : (look : Naming) → map (λ r. r.asks) (signings look) ≡ map (λ r. r.is) (signings look)
unfolding signings prefix ascii inside_any table37 following follow width decoded code next char formed_from well_formed utf8 white_space before same more count_from counted octal_digit octal_from hex_digit scalar hex_from lookup named unicode_name escape_case escape encode meant with_escape string_case string_move string_n text_case text_move filled with_equals with_bang with_colon with_close fresh add documented spaced formatted outside field_case case_of conversion_move open_move close_move quote_move field_move direct conversion_of field_pieces self_documenting finished specified plain_run text_n alone read_body touching covers item item_of glue merge both_items merged texts record_at laid cover answer_of sixes one_more opening place_of body refusal moved not_empty not_many first_bad bad all_good total not_long formed ill_formed all_utf8 any_of first_start not_mixed first_of entry opened_at refusal_in read_literal and_then read_from sort_of u_mark last_end all_chars answered read outcome_of short_of room_for sort_number numbers reason row_numbers sign_at signs_at field_rows pieces_of literal_rows all_rows all_numbers rowed roomed_rows rows_after called_rows signs_into signs_numbers rowed_numbers
signings_read look = refl

-- THE SPECS of a literal as they are written: a rounding one, none, an empty one, one with a field, that field's, and an escape as it stands
abbrev pub script : List ℕ
unfolding ascii
script = ascii "f'{743 / 12.5:.0f}{a}{b:}{c:{d}}{e:\\n}'"

abbrev pub whole : Literal
whole = record { kind = 1; triple = 0; offset = 2; size = 36; start = 0; end = 39 }

pub specs_written : (look : Naming) → map (row_spec script) (literal_rows look script whole) ≡ verbatim (ascii ".0f") ∷ absent ∷ verbatim [] ∷ nested ∷ absent ∷ verbatim (ascii "\\n") ∷ []
unfolding prefix ascii inside_any table37 following follow width decoded code next char formed_from well_formed utf8 white_space before same more count_from counted octal_digit octal_from hex_digit scalar hex_from lookup named unicode_name escape_case escape encode meant with_escape string_case string_move string_n text_case text_move filled with_equals with_bang with_colon with_close fresh add documented spaced formatted outside field_case case_of conversion_move open_move close_move quote_move field_move direct conversion_of field_pieces self_documenting finished specified plain_run text_n alone read_body touching covers item item_of glue merge both_items merged texts record_at laid cover answer_of opening place_of body refusal moved not_empty not_many first_bad bad all_good total not_long formed ill_formed all_utf8 any_of first_start not_mixed first_of entry opened_at refusal_in read_literal and_then read_from sort_of u_mark last_end all_chars answered read outcome_of short_of room_for sort_number numbers sign_at signs_at field_rows pieces_of literal_rows written_spec braced
specs_written look = refl
