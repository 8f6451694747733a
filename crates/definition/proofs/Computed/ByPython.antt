-- The tables of rows.py: escapes, characters and whole calls are read as they say, computed. Assumes nothing.
use Rattle.std.specs.Prelude.{if◌then◌else◌}
use Prim.Native.Nat.{ℕ, zero, suc, ◌+◌}
use mathlib.Core.Path.{◌≡◌, refl}
use mathlib.Core.List.{List, [], ◌∷◌, ◌++◌, map}
use lib.ListN.{length, replicate}
use Rattle.definition.specs.Numbers.{prefix, ◌among◌}
use Rattle.definition.specs.Chars.{ascii, inside_any, table37, following, follow, width, decoded, code, next, char, formed_from, well_formed, utf8, white_space, before, same}
use Rattle.definition.specs.Counts.{more, count_from, counted}
use Rattle.definition.specs.Escapes.{fault, Read, got, refused, octal_digit, octal_from, hex_digit, scalar, hex_from, held, lookup, held_names, named, unicode_name, escape_case, escape, encode, meant}
use Rattle.definition.specs.Body.{Piece, literal, with_escape, string_case, string_move, string_n, text_case, text_move, filled, with_equals, with_bang, with_colon, with_close, fresh, add, documented, spaced, formatted, outside, field_case, case_of, conversion_move, open_move, close_move, quote_move, field_move, direct, conversion_of, field_pieces, self_documenting, finished, specified, plain_run, text_n, alone, read_body}
use Rattle.definition.specs.Records.{touching, covers, item, item_of, glue, merge, both_items, merged, texts as texts_of, record_at, laid, cover, answer_of}
use Rattle.definition.specs.Entry.{one_more, sixes, opening, place_of, body, refusal, moved, not_empty, not_many, first_bad, bad, all_good, total, not_long, formed, ill_formed as ill, all_utf8, any_of, first_start, not_mixed, first_of, entry}
use Rattle.definition.specs.Reading.{opened_at, refusal_in, read_literal, and_then, read_from, sort_of, u_mark, last_end, all_chars, answered, read, outcome_of, short_of, room_for, roomed, all_words, words_after, text_after, called, read_into, read_numbers, sort_number, numbers, numbers_by}
use Rattle.definition.proofs.Computed.EscapeRows.{texts, held_rows, refusals}
use Rattle.definition.proofs.Computed.CharRows.{encoded, ill_formed}
use Rattle.definition.proofs.Computed.PlaceRows.{places}
use Rattle.definition.proofs.Computed.CallRows.{calls}

-- each body gives its text, all of it taken
pub texts_read : map (λ r. read_body held_names r.0 r.1) texts ≡ map (λ r. got (literal 0 r.2 ∷ []) (length r.1)) texts
unfolding texts ascii table37 following follow width decoded code next char utf8 before same octal_digit octal_from hex_digit scalar hex_from lookup named unicode_name escape_case escape encode meant with_escape string_case string_move string_n text_case text_move filled text_n alone read_body
texts_read = refl

-- these names are held, with these codes, and no others
pub names_held : map (λ h. (ascii h.0, h.1)) held ≡ held_rows
unfolding held_rows ascii
names_held = refl

-- each body is refused so
pub bodies_refused : map (λ r. read_body held_names r.0 r.1) refusals ≡ map (λ r. refused (fault r.2 r.3)) refusals
unfolding refusals ascii inside_any table37 following follow width decoded code next char utf8 white_space before same octal_digit octal_from hex_digit scalar hex_from lookup named unicode_name escape_case escape encode meant with_escape string_case string_move string_n text_case text_move filled fresh add outside field_case case_of open_move quote_move field_move text_n alone read_body
bodies_refused = refl

-- EVERY PRINTED CHARACTER IN A PLACE. The number of the first group that has it, else that of most
unfoldable pub given : ℕ → List (List ℕ × ℕ) → ℕ → ℕ
given most [] b = most
given most (g ∷ gs) b = if b among g.0 then g.1 else given most gs b

-- n numbers from i on
unfoldable pub from : (i n : ℕ) → List ℕ
from i zero = []
from i (suc n) = i ∷ from (i + 1) n

-- the number that a body is refused by, 0 if it is read
unfoldable pub refused_by : Read (List Piece) → ℕ
refused_by (got ps j) = 0
refused_by (refused x) = x.number

pub places_read : map (λ r. map (λ b. refused_by (read_body held_names r.0 (r.1 ++ b ∷ r.2))) (from 32 95)) places ≡ map (λ r. map (given r.3 r.4) (from 32 95)) places
unfolding places given from refused_by ascii inside_any table37 following follow width decoded code next char utf8 white_space before same octal_digit octal_from hex_digit scalar hex_from lookup named unicode_name escape_case escape encode meant with_escape string_case string_move string_n text_case text_move filled with_equals with_bang with_colon with_close fresh add documented spaced formatted outside field_case case_of conversion_move open_move close_move quote_move field_move direct conversion_of field_pieces self_documenting finished specified plain_run text_n alone read_body
places_read = refl

-- each code has these bytes, and they are read as that code
pub codes_encoded : map (λ r. utf8 r.0) encoded ≡ map (λ r. r.1) encoded
unfolding encoded utf8
codes_encoded = refl

pub codes_decoded : map (λ r. code r.1 0 ∷ next r.1 0 ∷ []) encoded ≡ map (λ r. r.0 ∷ length r.1 ∷ []) encoded
unfolding encoded table37 following follow width decoded code next
codes_decoded = refl

-- what is not UTF-8 is well formed up to there
pub bytes_formed : map (λ r. well_formed r.0) ill_formed ≡ map (λ r. r.1) ill_formed
unfolding ill_formed table37 following follow width formed_from well_formed
bytes_formed = refl

-- each call returns these numbers
pub calls_numbered : map (λ r. numbers (read_numbers held_names r.0 r.1 (replicate r.2 9) (replicate r.3 9)).outcome) calls ≡ map (λ r. r.4) calls
unfolding calls prefix ascii inside_any table37 following follow width decoded code next char formed_from well_formed utf8 white_space before same more count_from counted octal_digit octal_from hex_digit scalar hex_from lookup named unicode_name escape_case escape encode meant with_escape string_case string_move string_n text_case text_move filled with_equals with_bang with_colon with_close fresh add documented spaced formatted outside field_case case_of conversion_move open_move close_move quote_move field_move direct conversion_of field_pieces self_documenting finished specified plain_run text_n alone read_body touching covers item item_of glue merge both_items merged texts_of record_at laid cover answer_of opening place_of body refusal moved not_empty not_many first_bad bad all_good total not_long formed ill all_utf8 any_of first_start not_mixed first_of entry opened_at refusal_in read_literal and_then read_from sort_of u_mark last_end all_chars answered read one_more sixes outcome_of short_of room_for roomed all_words words_after text_after called read_into read_numbers numbers_by sort_number numbers
calls_numbered = refl
