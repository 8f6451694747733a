-- The examples of the lines (RULES 10.1), a reason of 20 and both details of 23: one table and one claim over it, computed. Assumes nothing.
use Prim.Native.Nat.{ℕ}
use Prim.Native.String.{String}
use mathlib.Core.Path.{◌≡◌, refl}
use mathlib.Core.List.{List, [], ◌∷◌, ◌++◌, map}
use Rattle.definition.specs.Numbers.{prefix}
use Rattle.definition.specs.Chars.{ascii, inside_any, table37, following, follow, width, decoded, code, next, char, formed_from, well_formed, white_space, before}
use Rattle.definition.specs.Counts.{more, count_from, counted}
use Rattle.definition.specs.Body.{text_case, text_move, filled, with_bang, with_colon, with_close, fresh, add, formatted, outside, field_case, case_of, conversion_move, open_move, close_move, field_move, direct, conversion_of, field_pieces, self_documenting, finished, specified, plain_run, text_n, read_body}
use Rattle.definition.specs.Records.{touching, covers, item, item_of, glue, merge, both_items, merged, texts, record_at, laid, cover, answer_of}
use Rattle.definition.specs.Entry.{opening, place_of, body, refusal, moved, not_empty, not_many, first_bad, bad, all_good, total, not_long, formed, ill_formed, all_utf8, any_of, first_start, not_mixed, first_of, entry}
use Rattle.definition.specs.Reading.{opened_at, refusal_in, read_literal, and_then, read_from, sort_of, u_mark, last_end, all_chars, answered, read}
use Rattle.definition_lines.specs.Lines.{decimal_n, decimal, escaped, escaped_text, literal_line, field_line, spec_line, refusal_line, line_of, record_line, record_lines, outcome_lines, body_lines}

pub record Row : Type 0 where
  pub body : String
  pub lines : List String

infix 3 ◌writes◌
abbrev pub ◌writes◌ : String → List String → Row
body writes lines = record { body = body; lines = lines }

-- each line, and a newline after it
abbrev pub written : List String → List ℕ
unfolding ascii
written [] = []
written (l ∷ ls) = ascii l ++ (10 ∷ written ls)

pub shown : List Row
shown =
    ("a{x:>5}"
    writes "{\"kind\":\"literal\",\"text\":\"a\"}"
    ∷ "{\"kind\":\"field\",\"text\":\"x\",\"conversion\":0,\"at\":4}"
    ∷ "{\"kind\":\"spec\",\"parts\":1}"
    ∷ "{\"kind\":\"literal\",\"text\":\">5\"}"
    ∷ [])
    ∷ ("}" writes "{\"refusal\":25,\"at\":3,\"a\":0,\"b\":0}" ∷ [])
    ∷ ("{x!" writes "{\"refusal\":20,\"at\":5,\"a\":1,\"b\":0}" ∷ [])
    ∷ ("{(]}" writes "{\"refusal\":23,\"at\":5,\"a\":40,\"b\":93}" ∷ [])
    ∷ ("" writes [])
    ∷ []

pub shown_written : map (λ r. body_lines (ascii r.body)) shown ≡ map (λ r. written r.lines) shown
unfolding shown prefix ascii inside_any table37 following follow width decoded code next char formed_from well_formed white_space before more count_from counted text_case text_move filled with_bang with_colon with_close fresh add formatted outside field_case case_of conversion_move open_move close_move field_move direct conversion_of field_pieces self_documenting finished specified plain_run text_n read_body touching covers item item_of glue merge both_items merged texts record_at laid cover answer_of opening place_of body refusal moved not_empty not_many first_bad bad all_good total not_long formed ill_formed all_utf8 any_of first_start not_mixed first_of entry opened_at refusal_in read_literal and_then read_from sort_of u_mark last_end all_chars answered read decimal_n decimal escaped escaped_text literal_line field_line spec_line refusal_line line_of record_line record_lines outcome_lines body_lines
shown_written = refl
