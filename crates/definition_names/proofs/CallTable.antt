-- Readings with the names of a small file: one table and one claim over it, computed. Assumes nothing.
use Prim.Native.Nat.{ℕ, ◌+◌}
use Prim.Native.String.{String}
use mathlib.Core.Path.{◌≡◌, refl}
use mathlib.Core.List.{List, [], ◌∷◌, ◌++◌}
use lib.ListN.{length}
use Rattle.definition.specs.Numbers.{prefix}
use Rattle.definition.specs.Chars.{ascii, inside_any, table37, following, follow, width, decoded, code, next, char, formed_from, well_formed, utf8, before, same}
use Rattle.definition.specs.Counts.{more, count_from, counted}
use Rattle.definition.specs.Escapes.{hex_digit, named, unicode_name, escape_case, escape, encode, meant}
use Rattle.definition.specs.Body.{with_escape, string_case, string_move, string_n, alone, read_body}
use Rattle.definition.specs.Records.{top, touching, covers, item, item_of, glue, merge, both_items, merged, texts, record_at, laid, cover, plain, Answer, answer_of}
use Rattle.definition.specs.Entry.{sixes, opening, place_of, body, refusal, moved, not_empty, not_many, first_bad, bad, all_good, total, not_long, formed, ill_formed, all_utf8, any_of, first_start, not_mixed, first_of, entry}
use Rattle.definition.specs.Reading.{Outcome, refuses, opened_at, refusal_in, read_literal, and_then, read_from, sort_of, u_mark, last_end, all_chars, answered, read, called, numbers_by}
use Rattle.definition_names.specs.Names.{parted, hex_value, line_of, entries, lookup_in, lookup_of, has, twice, at_most, insert, by_name, indexed, check}
use Rattle.definition_names.specs.NamedReading.{of_names, read_named, named_into, named_numbers, fields_named_of, fields_named_into}
use Rattle.definition_scripts.specs.Listing.{fields_after, fields_call, fields_numbers}
use Rattle.definition.proofs.Computed.Starred.{literal, rec, accepted, refused_as, Row, ◌gives◌, Given}
use Rattle.definition_names.proofs.NameTable.{lines, few}

-- the body of a string, start 0, flag 0, whose end is after the closing quote
abbrev one : (file index : List ℕ) → String → Outcome Answer
unfolding ascii
one file index text = let s = ascii text in read_named file index s (literal 0 0 (length s) 0 (length s + 2) ∷ [])

-- a refusal: its number alone
abbrev only : ℕ → Outcome Answer
unfolding refusal
only number = refuses (refusal number 0 0 0 0)

abbrev index : List ℕ
index = 20 ∷ 63 ∷ 0 ∷ []

-- a name that stands twice
unfoldable twice_named : List ℕ
twice_named = lines ("0041;B" ∷ "0042;B" ∷ [])

pub readings : List Row
readings =
    -- a name of the file, and one of the constant list, which the file does not have
    (one few index "\\N{A}" gives accepted plain 7 5 (rec top 1 0 4 0 7 0 0 0 ∷ []) (0xF0 ∷ 0x9F ∷ 0x92 ∷ 0xA9 ∷ []))
    ∷ (one few index "\\N{INFINITY}" gives refused_as 13 4 0 0 0 3)
    -- whether or not a body has a name: 60, 61, 63
    ∷ (one (few ++ 10 ∷ []) index "a" gives only 60)
    ∷ (one twice_named [] "a" gives only 61)
    ∷ (one few (63 ∷ 20 ∷ 0 ∷ []) "a" gives only 63)
    -- before 10, and after 1
    ∷ (one few [] "\\" gives only 63)
    ∷ (read_named (10 ∷ []) [] [] [] gives only 1)
    -- 2 before them
    ∷ ((named_numbers (10 ∷ []) [] [] (0 ∷ []) [] []).outcome gives only 2)
    ∷ ((named_numbers twice_named [] [] (0 ∷ []) [] []).outcome gives only 2)
    ∷ ((named_numbers few [] [] (0 ∷ []) [] []).outcome gives only 2)
    -- an empty file holds no name
    ∷ (one [] [] "\\N{A}" gives refused_as 13 4 0 0 0 3)
    ∷ []

pub named_readings : Given readings
unfolding readings few twice_named lines prefix ascii inside_any table37 following follow width decoded code next char formed_from well_formed utf8 before same more count_from counted hex_digit named unicode_name escape_case escape encode meant with_escape string_case string_move string_n alone read_body touching covers item item_of glue merge both_items merged texts record_at laid cover answer_of opening place_of body refusal moved not_empty not_many first_bad bad all_good total not_long formed ill_formed all_utf8 any_of first_start not_mixed first_of entry opened_at refusal_in read_literal and_then read_from sort_of u_mark last_end all_chars answered read parted hex_value line_of entries lookup_in lookup_of has twice at_most insert by_name indexed check of_names read_named named_numbers numbers_by named_into sixes called
named_readings = refl

-- EVERY FIELD of a script that has one, in a buffer of one nine: 60 before 61, 61 before 63, and each before 53
abbrev listed : (file index : List ℕ) → List ℕ × List ℕ
unfolding ascii
listed file index = let c = fields_named_into file index (ascii "f'{x}'") (9 ∷ []) in (fields_numbers c.listed, c.rows)

pub orders : List (List ℕ × List ℕ)
orders = listed (twice_named ++ 10 ∷ []) [] ∷ listed twice_named [] ∷ listed few [] ∷ []

pub orders_listed : orders ≡ (60 ∷ [], 0 ∷ []) ∷ (61 ∷ [], 0 ∷ []) ∷ (63 ∷ [], 0 ∷ []) ∷ []
unfolding orders few twice_named lines ascii same hex_digit refusal parted hex_value line_of entries has twice at_most insert by_name indexed check of_names fields_named_of fields_named_into fields_call fields_after fields_numbers
orders_listed = refl
