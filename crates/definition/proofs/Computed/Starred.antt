-- The starred readings (RULES 5.11), the five reasons of 20, the places of 23 and the count of characters: a table and a claim over it each, computed.
-- Assumes nothing.
use Prim.Native.Nat.{ℕ, ◌+◌}
use Prim.Native.String.{String}
use mathlib.Core.Path.{◌≡◌, refl}
use mathlib.Core.List.{List, [], ◌∷◌, map}
use lib.ListN.{length}
use Rattle.definition.specs.Numbers.{prefix}
use Rattle.definition.specs.Chars.{ascii, inside_any, table37, following, follow, width, decoded, code, next, char, formed_from, well_formed, utf8, white_space, before, same}
use Rattle.definition.specs.Counts.{more, count_from, counted}
use Rattle.definition.specs.Escapes.{Naming, octal_digit, octal_from, hex_digit, scalar, hex_from, lookup, named, unicode_name, escape_case, escape, encode, meant}
use Rattle.definition.specs.Body.{with_escape, string_case, string_move, string_n, text_case, text_move, filled, with_equals, with_bang, with_colon, with_close, fresh, add, documented, spaced, formatted, outside, field_case, case_of, conversion_move, open_move, close_move, quote_move, field_move, direct, conversion_of, field_pieces, self_documenting, finished, specified, plain_run, text_n, alone, read_body}
use Rattle.definition.specs.Records.{Role, top, raw, inner, touching, covers, Record, item, item_of, glue, merge, both_items, merged, texts, record_at, laid, cover, Sort, plain, joined, bytes_only, Answer, answer_of}
use Rattle.definition.specs.Entry.{Literal, opening, place_of, body, refusal, moved, not_empty, not_many, first_bad, bad, all_good, total, not_long, formed, ill_formed, all_utf8, any_of, first_start, not_mixed, first_of, entry}
use Rattle.definition.specs.Reading.{Outcome, accepts, refuses, opened_at, refusal_in, read_literal, and_then, read_from, sort_of, u_mark, last_end, all_chars, answered, read}

abbrev pub literal : (kind offset size start end : ℕ) → Literal
literal kind offset size start end = record { kind = kind; triple = 0; offset = offset; size = size; start = start; end = end }

-- the body of one literal of a kind, start 0, flag 0, whose end is after the closing quote
abbrev one : (look : Naming) → ℕ → String → Outcome Answer
unfolding ascii prefix
one look kind text = let s = ascii text in read look s (literal kind 0 (length s) 0 (prefix kind + length s + 2) ∷ [])

abbrev pub rec : Role → (kind offset size start end mode parts place : ℕ) → Record
rec role kind offset size start end mode parts place =
    record { role = role; kind = kind; offset = offset; size = size; start = start; end = end; mode = mode; parts = parts; place = place }

-- an acceptance that starts at 0
abbrev pub accepted : Sort → (end chars : ℕ) → List Record → List ℕ → Outcome Answer
accepted sort end chars records text =
    accepts (record { sort = sort; u_mark = 0; start = 0; end = end; records = records; text = text; chars = chars })

-- a refusal in the first line of the first body: its column is the characters before
abbrev pub refused_as : (number place a b opened column : ℕ) → Outcome Answer
refused_as number place a b opened column =
    refuses (record { number = number; literal = 0; place = place; a = a; b = b; opened = opened; line = 0; column = column; chars = column })

pub record Row : Type 0 where
  pub reading : Outcome Answer
  pub is : Outcome Answer

infix 3 ◌gives◌
abbrev pub ◌gives◌ : Outcome Answer → Outcome Answer → Row
reading gives is = record { reading = reading; is = is }

pub starred : (look : Naming) → List Row
unfolding ascii
starred look =
    (one look 1 "{x!=y}" gives accepted joined 9 6 (rec inner 2 0 4 0 9 0 0 3 ∷ []) (ascii "x!=y"))
    ∷ (one look 1 "{x!r b}" gives refused_as 20 6 2 0 0 4)
    ∷ (one look 1 "{x:{y:{z}}}" gives refused_as 24 8 0 0 0 6)
    ∷ (one look 1 "{x = }" gives accepted joined 9 6 (rec top 1 0 4 0 9 0 0 0 ∷ rec inner 2 4 2 0 9 114 0 3 ∷ []) (ascii "x = x "))
    ∷ (one look 1 "{x=()}" gives accepted joined 9 6 (rec top 1 0 4 0 9 0 0 0 ∷ rec inner 2 4 3 0 9 114 0 3 ∷ []) (ascii "x()=x()"))
    ∷ (one look 1 "" gives accepted joined 3 0 [] [])
    ∷ (one look 1 "{(]}" gives refused_as 23 5 40 93 4 3)
    ∷ (one look 1 "{x:\\n>{w}\\n}"
    gives accepted joined 15 12
    (rec inner 2 0 1 0 15 0 1 3
    ∷ rec inner 3 1 0 0 15 0 3 0
    ∷ rec inner 1 1 3 0 15 0 0 0
    ∷ rec inner 2 4 1 0 15 0 0 9
    ∷ rec inner 1 5 1 0 15 0 0 0
    ∷ [])
    (ascii "x\\n>w\n"))
    ∷ (read look (ascii "\"\" f\"{x}\"") (literal 0 1 0 0 2 ∷ literal 1 5 3 3 9 ∷ [])
    gives accepted joined 9 3 (rec top 1 0 0 0 9 0 0 0 ∷ rec inner 2 0 1 3 9 0 0 6 ∷ []) (ascii "x"))
    ∷ (one look 2 "\\777" gives accepted bytes_only 7 4 (rec raw 4 0 1 0 7 0 0 0 ∷ []) (255 ∷ []))
    ∷ (one look 0 "\\777" gives accepted plain 6 4 (rec top 1 0 2 0 6 0 0 0 ∷ []) (0xC7 ∷ 0xBF ∷ []))
    ∷ []

-- what 20's first detail says: the body ends right after `!`; the character after a conversion is neither `}` nor `:`, or there is none;
-- something not allowed follows a self-documenting `=`; the body ends elsewhere inside a field: in its expression, after a `=` and its
-- spaces, in its spec, in a spec's field; a `{` at depth 0 is the last character
pub unclosed : (look : Naming) → List Row
unclosed look =
    (one look 1 "{x!" gives refused_as 20 5 1 0 0 3)
    ∷ (one look 1 "{x!r b}" gives refused_as 20 6 2 0 0 4)
    ∷ (one look 1 "{x!r" gives refused_as 20 6 2 0 0 4)
    ∷ (one look 1 "{x=y}" gives refused_as 20 6 3 0 0 4)
    ∷ (one look 1 "{x" gives refused_as 20 4 4 0 0 2)
    ∷ (one look 1 "{x= " gives refused_as 20 6 4 0 0 4)
    ∷ (one look 1 "{x:y" gives refused_as 20 6 4 0 0 4)
    ∷ (one look 1 "{x:{" gives refused_as 20 6 4 0 0 4)
    ∷ (one look 1 "{" gives refused_as 20 3 5 0 0 1)
    ∷ []

-- where 23's bracket was opened: the innermost that is still open, in a field or a spec's field; not one that was closed, nor one in quotes
pub openers : (look : Naming) → List Row
openers look =
    (one look 1 "{f(a[0)}" gives refused_as 23 9 91 41 7 7)
    ∷ (one look 1 "{[a](b}" gives refused_as 23 9 40 125 7 7)
    ∷ (one look 1 "{('['}" gives refused_as 23 8 40 125 4 6)
    ∷ (one look 1 "{x:{(]}}" gives refused_as 23 8 40 93 7 6)
    ∷ []

-- the characters that are counted: é (two bytes), a line end and a, read; é, and then a body that is refused after a line end, é and `}`
pub counts : (look : Naming) → List Row
counts look =
    (read look (0xC3 ∷ 0xA9 ∷ 10 ∷ 97 ∷ []) (literal 0 0 2 0 4 ∷ literal 0 2 2 4 8 ∷ [])
    gives accepted plain 8 3 (rec top 1 0 4 0 8 0 0 0 ∷ []) (0xC3 ∷ 0xA9 ∷ 10 ∷ 97 ∷ []))
    ∷ (read look (0xC3 ∷ 0xA9 ∷ 10 ∷ 0xC3 ∷ 0xA9 ∷ 125 ∷ 97 ∷ []) (literal 0 0 2 0 4 ∷ literal 1 2 5 4 12 ∷ [])
    gives refuses (record { number = 25; literal = 1; place = 10; a = 0; b = 0; opened = 0; line = 1; column = 2; chars = 4 }))
    ∷ []

abbrev pub Given : List Row → Type 0
Given rows = map (λ r. r.reading) rows ≡ map (λ r. r.is) rows

computed : (look : Naming) → Given (starred look) × Given (unclosed look) × Given (openers look) × Given (counts look)
unfolding starred unclosed openers counts prefix ascii inside_any table37 following follow width decoded code next char formed_from well_formed utf8 white_space before same more count_from counted octal_digit octal_from hex_digit scalar hex_from lookup named unicode_name escape_case escape encode meant with_escape string_case string_move string_n text_case text_move filled with_equals with_bang with_colon with_close fresh add documented spaced formatted outside field_case case_of conversion_move open_move close_move quote_move field_move direct conversion_of field_pieces self_documenting finished specified plain_run text_n alone read_body touching covers item item_of glue merge both_items merged texts record_at laid cover answer_of opening place_of body refusal moved not_empty not_many first_bad bad all_good total not_long formed ill_formed all_utf8 any_of first_start not_mixed first_of entry opened_at refusal_in read_literal and_then read_from sort_of u_mark last_end all_chars answered read
computed look = (refl, refl, refl, refl)

pub starred_read : (look : Naming) → Given (starred look)
starred_read look = (computed look).0

pub unclosed_read : (look : Naming) → Given (unclosed look)
unclosed_read look = (computed look).1

pub openers_read : (look : Naming) → Given (openers look)
openers_read look = (computed look).2

pub counts_read : (look : Naming) → Given (counts look)
counts_read look = (computed look).3
