-- What small calls return and leave in both buffers, two runs read as one, and a view over an answer: a table and a claim over it each, computed.
-- Assumes nothing.
use Prim.Native.Nat.{ℕ}
use Prim.Native.String.{String}
use mathlib.Core.Path.{◌≡◌, refl}
use mathlib.Core.List.{List, [], ◌∷◌, map}
use mathlib.Core.Option.{none, some}
use lib.ListN.{replicate}
use Rattle.definition.specs.Numbers.{prefix}
use Rattle.definition.specs.Chars.{ascii, inside_any, table37, following, follow, width, decoded, code, next, char, formed_from, well_formed, utf8, white_space, before, same}
use Rattle.definition.specs.Counts.{more, count_from, counted}
use Rattle.definition.specs.Escapes.{Naming, octal_digit, octal_from, hex_digit, scalar, hex_from, lookup, named, unicode_name, escape_case, escape, encode, meant}
use Rattle.definition.specs.Body.{with_escape, string_case, string_move, string_n, text_case, text_move, filled, with_equals, with_bang, with_colon, with_close, fresh, add, documented, spaced, formatted, outside, field_case, case_of, conversion_move, open_move, close_move, quote_move, field_move, direct, conversion_of, field_pieces, self_documenting, finished, specified, plain_run, text_n, alone, read_body}
use Rattle.definition.specs.Records.{inner, touching, covers, words_of, item, item_of, glue, merge, both_items, merged, texts, record_at, laid, cover, joined, answer_of}
use Rattle.definition.specs.Entry.{sixes, one_more, opening, place_of, body, refusal, moved, not_empty, not_many, first_bad, bad, all_good, total, not_long, formed, ill_formed, all_utf8, any_of, first_start, not_mixed, first_of, entry}
use Rattle.definition.specs.Reading.{refuses, opened_at, refusal_in, read_literal, and_then, read_from, sort_of, u_mark, last_end, all_chars, answered, read, outcome_of, short_of, room_for, roomed, all_words, words_after, text_after, called, read_into, numbers_by, read_numbers, sort_number, numbers}
use Rattle.definition.specs.Join.{both_records, raise, seam, seamed, join_sort, join, shifted, join_outcomes}
use Rattle.definition.specs.View.{viewed}
use Rattle.definition.proofs.Computed.Starred.{literal, rec, accepted, Row, ◌gives◌, Given}

-- the answer's numbers, and what both buffers hold, which held so many nines
abbrev asked : (look : Naming) → String → (numbers : List ℕ) (words bytes : ℕ) → List ℕ × List ℕ × List ℕ
unfolding ascii
asked look text ns w t = let c = read_numbers look (ascii text) ns (replicate w 9) (replicate t 9) in (numbers c.outcome, c.words, c.text)

pub record Asked : Type 0 where
  pub asks : List ℕ × List ℕ × List ℕ
  pub is : List ℕ × List ℕ × List ℕ

infix 3 ◌leaves◌
abbrev ◌leaves◌ : List ℕ × List ℕ × List ℕ → List ℕ × List ℕ × List ℕ → Asked
asks leaves is = record { asks = asks; is = is }

pub calls : (look : Naming) → List Asked
unfolding ascii
calls look =
    -- a field with a spec, in a literal that starts at 1: what follows in both buffers stays
    (asked look " f'{x:y}'" (1 ∷ 0 ∷ 3 ∷ 5 ∷ 1 ∷ 9 ∷ []) 25 3 leaves (0 ∷ 1 ∷ 0 ∷ 1 ∷ 9 ∷ 3 ∷ 2 ∷ 0 ∷ 5 ∷ [], 2 ∷ 0 ∷ 1 ∷ 1 ∷ 9 ∷ 0 ∷ 1 ∷ 4 ∷ 3 ∷ 1 ∷ 0 ∷ 1 ∷ 9 ∷ 0 ∷ 1 ∷ 0 ∷ 1 ∷ 1 ∷ 1 ∷ 1 ∷ 9 ∷ 0 ∷ 0 ∷ 0 ∷ 9 ∷ [], 120 ∷ 121 ∷ 9 ∷ []))
    -- 30 and 31 with what is needed, after all characters
    ∷ (asked look " f'{x:y}'" (1 ∷ 0 ∷ 3 ∷ 5 ∷ 1 ∷ 9 ∷ []) 9 1 leaves (30 ∷ 0 ∷ 0 ∷ 3 ∷ 2 ∷ 0 ∷ 0 ∷ 0 ∷ 5 ∷ [], 0 ∷ 0 ∷ 0 ∷ 0 ∷ 0 ∷ 0 ∷ 0 ∷ 0 ∷ 0 ∷ [], 0 ∷ []))
    ∷ (asked look " f'{x:y}'" (1 ∷ 0 ∷ 3 ∷ 5 ∷ 1 ∷ 9 ∷ []) 24 1 leaves (31 ∷ 0 ∷ 0 ∷ 3 ∷ 2 ∷ 0 ∷ 0 ∷ 0 ∷ 5 ∷ [], 0 ∷ 0 ∷ 0 ∷ 0 ∷ 0 ∷ 0 ∷ 0 ∷ 0 ∷ 0 ∷ 0 ∷ 0 ∷ 0 ∷ 0 ∷ 0 ∷ 0 ∷ 0 ∷ 0 ∷ 0 ∷ 0 ∷ 0 ∷ 0 ∷ 0 ∷ 0 ∷ 0 ∷ [], 0 ∷ []))
    -- what is refused is refused whatever the room: an unmatched bracket, a backslash outside quotes
    ∷ (asked look "f'{a)}'" (1 ∷ 0 ∷ 2 ∷ 4 ∷ 0 ∷ 7 ∷ []) 0 0 leaves (26 ∷ 0 ∷ 5 ∷ 41 ∷ 0 ∷ 0 ∷ 0 ∷ 3 ∷ 3 ∷ [], [], []))
    ∷ (asked look "f'{a\\}'" (1 ∷ 0 ∷ 2 ∷ 4 ∷ 0 ∷ 7 ∷ []) 8 1 leaves (27 ∷ 0 ∷ 5 ∷ 0 ∷ 0 ∷ 0 ∷ 0 ∷ 3 ∷ 3 ∷ [], 0 ∷ 0 ∷ 0 ∷ 0 ∷ 0 ∷ 0 ∷ 0 ∷ 0 ∷ [], 0 ∷ []))
    -- a body that is not UTF-8, before a mix of bytes and others
    ∷ (asked look "b'a''é'" (2 ∷ 0 ∷ 2 ∷ 1 ∷ 0 ∷ 4 ∷ 0 ∷ 0 ∷ 5 ∷ 1 ∷ 4 ∷ 7 ∷ []) 0 1 leaves (6 ∷ 1 ∷ 5 ∷ 0 ∷ 0 ∷ 0 ∷ 0 ∷ 0 ∷ 0 ∷ [], [], 0 ∷ []))
    -- bytes become one record, and so do strings, with the u mark of the first
    ∷ (asked look "b'a'b'b'" (2 ∷ 0 ∷ 2 ∷ 1 ∷ 0 ∷ 4 ∷ 2 ∷ 0 ∷ 6 ∷ 1 ∷ 4 ∷ 8 ∷ []) 8 2 leaves (0 ∷ 2 ∷ 0 ∷ 0 ∷ 8 ∷ 1 ∷ 2 ∷ 0 ∷ 2 ∷ [], 4 ∷ 0 ∷ 2 ∷ 0 ∷ 8 ∷ 0 ∷ 0 ∷ 0 ∷ [], 97 ∷ 98 ∷ []))
    ∷ (asked look "u'a''b'" (6 ∷ 0 ∷ 2 ∷ 1 ∷ 0 ∷ 4 ∷ 0 ∷ 0 ∷ 5 ∷ 1 ∷ 4 ∷ 7 ∷ []) 8 2 leaves (0 ∷ 0 ∷ 1 ∷ 0 ∷ 7 ∷ 1 ∷ 2 ∷ 0 ∷ 2 ∷ [], 1 ∷ 0 ∷ 2 ∷ 0 ∷ 7 ∷ 1 ∷ 0 ∷ 0 ∷ [], 97 ∷ 98 ∷ []))
    -- no escape in a raw f-string
    ∷ (asked look "fr'\\n'" (4 ∷ 0 ∷ 3 ∷ 2 ∷ 0 ∷ 6 ∷ []) 8 2 leaves (0 ∷ 1 ∷ 0 ∷ 0 ∷ 6 ∷ 1 ∷ 2 ∷ 0 ∷ 2 ∷ [], 1 ∷ 0 ∷ 2 ∷ 0 ∷ 6 ∷ 0 ∷ 0 ∷ 0 ∷ [], 92 ∷ 110 ∷ []))
    -- a name in each of two literals
    ∷ (asked (λ name. 65) "'\\N{a}''\\N{b}'" (0 ∷ 0 ∷ 1 ∷ 5 ∷ 0 ∷ 7 ∷ 0 ∷ 0 ∷ 8 ∷ 5 ∷ 7 ∷ 14 ∷ []) 8 2 leaves (0 ∷ 0 ∷ 0 ∷ 0 ∷ 14 ∷ 1 ∷ 2 ∷ 0 ∷ 10 ∷ [], 1 ∷ 0 ∷ 2 ∷ 0 ∷ 14 ∷ 0 ∷ 0 ∷ 0 ∷ [], 65 ∷ 65 ∷ []))
    ∷ []

pub calls_read : (look : Naming) → map (λ r. r.asks) (calls look) ≡ map (λ r. r.is) (calls look)
unfolding calls prefix ascii inside_any table37 following follow width decoded code next char formed_from well_formed utf8 white_space before same more count_from counted octal_digit octal_from hex_digit scalar hex_from lookup named unicode_name escape_case escape encode meant with_escape string_case string_move string_n text_case text_move filled with_equals with_bang with_colon with_close fresh add documented spaced formatted outside field_case case_of conversion_move open_move close_move quote_move field_move direct conversion_of field_pieces self_documenting finished specified plain_run text_n alone read_body touching covers item item_of glue merge both_items merged texts record_at laid cover answer_of sixes one_more opening place_of body refusal moved not_empty not_many first_bad bad all_good total not_long formed ill_formed all_utf8 any_of first_start not_mixed first_of entry opened_at refusal_in read_literal and_then read_from sort_of u_mark last_end all_chars answered read outcome_of short_of room_for sort_number numbers words_of roomed all_words words_after text_after called read_into numbers_by read_numbers
calls_read look = refl

-- two runs of one literal each: both read, and the second refused
pub runs : (look : Naming) → List Row
unfolding ascii
runs look =
    (join_outcomes 1 (read look (ascii "f'{a}'f'{b}'") (literal 1 2 3 0 6 ∷ [])) (read look (ascii "f'{a}'f'{b}'") (literal 1 8 3 6 12 ∷ []))
    gives accepted joined 12 6 (rec inner 2 0 1 0 6 0 0 3 ∷ rec inner 2 1 1 6 12 0 0 9 ∷ []) (ascii "ab"))
    ∷ (join_outcomes 1 (read look (ascii "f'{a}'f'}'") (literal 1 2 3 0 6 ∷ [])) (read look (ascii "f'{a}'f'}'") (literal 1 8 1 6 10 ∷ []))
    gives refuses (record { number = 25; literal = 1; place = 9; a = 0; b = 0; opened = 0; line = 0; column = 1; chars = 4 }))
    ∷ []

pub runs_joined : (look : Naming) → Given (runs look)
unfolding runs prefix ascii inside_any table37 following follow width decoded code next char formed_from well_formed utf8 white_space before same more count_from counted octal_digit octal_from hex_digit scalar hex_from lookup named unicode_name escape_case escape encode meant with_escape string_case string_move string_n text_case text_move filled with_equals with_bang with_colon with_close fresh add documented spaced formatted outside field_case case_of conversion_move open_move close_move quote_move field_move direct conversion_of field_pieces self_documenting finished specified plain_run text_n alone read_body touching covers item item_of glue merge both_items merged texts record_at laid cover answer_of sixes one_more opening place_of body refusal moved not_empty not_many first_bad bad all_good total not_long formed ill_formed all_utf8 any_of first_start not_mixed first_of entry opened_at refusal_in read_literal and_then read_from sort_of u_mark last_end all_chars answered read outcome_of short_of room_for sort_number numbers both_records raise seam seamed join_sort join shifted join_outcomes
runs_joined look = refl

-- a view over two records, in 17 words: the second; none from the count on, nor where the words end first
abbrev words : List ℕ
words = 1 ∷ 2 ∷ 3 ∷ 4 ∷ 5 ∷ 6 ∷ 7 ∷ 8 ∷ 11 ∷ 12 ∷ 13 ∷ 14 ∷ 15 ∷ 16 ∷ 17 ∷ 18 ∷ 21 ∷ []

pub views_read : viewed words 2 1 ∷ viewed words 2 2 ∷ viewed words 3 2 ∷ [] ≡ some (11 ∷ 12 ∷ 13 ∷ 14 ∷ 15 ∷ 16 ∷ 17 ∷ 18 ∷ []) ∷ none ∷ none ∷ []
unfolding viewed
views_read = refl
