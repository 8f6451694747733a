-- What a program writes of the fields of one body: why each has its conversion, a line each.
use Rattle.std.specs.Prelude.{ℕ, ◌+◌, List, [], ◌∷◌, ◌++◌, ltb, eqb, length, if◌then◌else◌}
use Rattle.definition.specs.Numbers.{bodies_too_long}
use Rattle.definition.specs.Chars.{ascii, part}
use Rattle.definition.specs.Escapes.{held_names}
use Rattle.definition.specs.Records.{Record}
use Rattle.definition.specs.Reading.{Outcome, accepts, refuses, read}
use Rattle.definition.specs.Rows.{reason, Row, all_rows, Rowed, rowed}
use Rattle.definition_lines.specs.Lines.{escaped_text, numbered, refusal_line, one_literal}

-- how a line ends, by the reason; the place after the `!` stands only with `written`
unfoldable pub written_end : (bang : ℕ) → List ℕ
written_end bang = numbered "written\",\"after\":" bang ++ ascii "}\n"

unfoldable pub reason_end : (reason bang : ℕ) → List ℕ
reason_end reason bang =
    if eqb reason 1 then written_end bang else
    if eqb reason 2 then ascii "none\"}\n" else
    if eqb reason 3 then ascii "repr\"}\n" else ascii "spec\"}\n"

-- THE LINE of a field: its expression, its place, the reason of its conversion
unfoldable pub why_line : List ℕ → (place reason bang : ℕ) → List ℕ
why_line text place reason bang =
    ascii "{\"field\":\"" ++ escaped_text text ++ numbered "\",\"at\":" place ++ ascii ",\"reason\":\"" ++ reason_end reason bang

-- a record's line, if it is a field: the first row is its own
unfoldable pub why_here : List ℕ → Record → List Row → List ℕ
why_here text r [] = []
why_here text r (w ∷ ws) =
    if eqb r.kind 2 then why_line (part text r.offset (r.offset + r.size)) w.place (reason w.signs) w.signs.bang else []

-- the rows of the records after it
unfoldable pub rows_left : Record → List Row → List Row
rows_left r [] = []
rows_left r (w ∷ ws) = if eqb r.kind 2 then ws else w ∷ ws

unfoldable pub why_lines : List ℕ → List Record → List Row → List ℕ
why_lines text [] ws = []
why_lines text (r ∷ rs) ws = why_here text r ws ++ why_lines text rs (rows_left r ws)

-- an outcome's lines
unfoldable pub outcome_why : Outcome Rowed → List ℕ
outcome_why (accepts x) = why_lines x.answer.text x.answer.records x.rows
outcome_why (refuses r) = refusal_line r.number r.place r.a r.b

-- A BODY'S LINES: more than 1,024 bytes are refused as 5
unfoldable pub body_why : List ℕ → List ℕ
body_why s =
    if ltb 1024 (length s) then refusal_line bodies_too_long 0 0 0 else
    let one = one_literal (length s) ∷ [] in outcome_why (rowed (all_rows held_names s one) (read held_names s one))
