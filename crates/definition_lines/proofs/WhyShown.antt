-- The reasons (RULES 7.2), line by line: one table and one claim over it, computed. Assumes nothing.
use mathlib.Core.Path.{◌≡◌, refl}
use mathlib.Core.List.{List, [], ◌∷◌, map}
use Rattle.definition.specs.Numbers.{prefix}
use Rattle.definition.specs.Chars.{ascii, inside_any, table37, following, follow, width, decoded, code, next, char, formed_from, well_formed, white_space, before}
use Rattle.definition.specs.Counts.{more, count_from, counted}
use Rattle.definition.specs.Body.{text_case, text_move, filled, with_equals, with_bang, with_colon, with_close, fresh, add, documented, spaced, formatted, outside, field_case, case_of, conversion_move, open_move, close_move, field_move, direct, conversion_of, field_pieces, self_documenting, finished, specified, plain_run, text_n, read_body}
use Rattle.definition.specs.Records.{touching, covers, item, item_of, glue, merge, both_items, merged, texts, record_at, laid, cover, answer_of}
use Rattle.definition.specs.Entry.{opening, place_of, body, refusal, moved, not_empty, not_many, first_bad, bad, all_good, total, not_long, formed, ill_formed, all_utf8, any_of, first_start, not_mixed, first_of, entry}
use Rattle.definition.specs.Reading.{opened_at, refusal_in, read_literal, and_then, read_from, sort_of, u_mark, last_end, all_chars, answered, read}
use Rattle.definition.specs.Rows.{reason, sign_at, signs_at, field_rows, pieces_of, literal_rows, all_rows, rowed}
use Rattle.definition_lines.specs.Lines.{decimal_n, decimal, escaped, escaped_text, refusal_line}
use Rattle.definition_lines.specs.Why.{written_end, reason_end, why_line, why_here, rows_left, why_lines, outcome_why, body_why}
use Rattle.definition_lines.proofs.Shown.{Row, ◌writes◌, written}

pub whys : List Row
whys =
    ("{x!r}{y=}{z=:3}{w}"
    writes "{\"field\":\"x\",\"at\":3,\"reason\":\"written\",\"after\":5}"
    ∷ "{\"field\":\"y\",\"at\":8,\"reason\":\"repr\"}"
    ∷ "{\"field\":\"z\",\"at\":12,\"reason\":\"spec\"}"
    ∷ "{\"field\":\"w\",\"at\":18,\"reason\":\"none\"}"
    ∷ [])
    ∷ ("a{x=:{y=}}"
    writes "{\"field\":\"x\",\"at\":4,\"reason\":\"spec\"}"
    ∷ "{\"field\":\"y\",\"at\":8,\"reason\":\"repr\"}"
    ∷ [])
    ∷ ("}" writes "{\"refusal\":25,\"at\":3,\"a\":0,\"b\":0}" ∷ [])
    ∷ ("{(]}" writes "{\"refusal\":23,\"at\":5,\"a\":40,\"b\":93}" ∷ [])
    ∷ ("a" writes [])
    ∷ []

pub whys_written : map (λ r. body_why (ascii r.body)) whys ≡ map (λ r. written r.lines) whys
unfolding whys prefix ascii inside_any table37 following follow width decoded code next char formed_from well_formed white_space before more count_from counted text_case text_move filled with_equals with_bang with_colon with_close fresh add documented spaced formatted outside field_case case_of conversion_move open_move close_move field_move direct conversion_of field_pieces self_documenting finished specified plain_run text_n read_body touching covers item item_of glue merge both_items merged texts record_at laid cover answer_of opening place_of body refusal moved not_empty not_many first_bad bad all_good total not_long formed ill_formed all_utf8 any_of first_start not_mixed first_of entry opened_at refusal_in read_literal and_then read_from sort_of u_mark last_end all_chars answered read decimal_n decimal escaped escaped_text refusal_line reason sign_at signs_at field_rows pieces_of literal_rows all_rows rowed written_end reason_end why_line why_here rows_left why_lines outcome_why body_why
whys_written = refl
