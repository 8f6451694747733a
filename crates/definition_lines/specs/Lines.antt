-- What a program writes of one body of an f-string: RFC 8259 objects, a line each.
use Rattle.std.specs.Prelude.{ℕ, zero, suc, ◌+◌, ◌/◌, ◌%◌, true, false, List, [], ◌∷◌, ◌++◌, ltb, eqb, length, if◌then◌else◌}
use Prim.Native.String.{String}
use Rattle.definition.specs.Numbers.{bodies_too_long}
use Rattle.definition.specs.Chars.{ascii, ◌is◌, part}
use Rattle.definition.specs.Escapes.{held_names}
use Rattle.definition.specs.Records.{Record, Answer}
use Rattle.definition.specs.Entry.{Literal}
use Rattle.definition.specs.Reading.{Outcome, accepts, refuses, read}

-- the decimal digits of n, at most m of them
unfoldable pub decimal_n : ℕ → ℕ → List ℕ
decimal_n zero n = []
decimal_n (suc m) n = elim (ltb n 10) [ true ↦ (48 + n) ∷ [] | false ↦ decimal_n m (n / 10) ++ ((48 + n % 10) ∷ []) ]

-- a number
unfoldable pub decimal : ℕ → List ℕ
decimal n = decimal_n (suc n) n

-- a hex digit, in lower case
unfoldable pub hex_code : ℕ → ℕ
hex_code d = if ltb d 10 then 48 + d else 87 + d

-- a byte of text: `"` and `\` get a backslash, bytes below 32 become `\u00` and two hex digits
unfoldable pub escaped : ℕ → List ℕ
escaped b =
    if b is "\"\\" then 92 ∷ b ∷ [] else
    if ltb b 32 then ascii "\\u00" ++ (hex_code (b / 16) ∷ hex_code (b % 16) ∷ []) else b ∷ []

unfoldable pub escaped_text : List ℕ → List ℕ
escaped_text [] = []
escaped_text (b ∷ t) = escaped b ++ escaped_text t

-- a text, and a number after it
abbrev pub numbered : String → ℕ → List ℕ
numbered text n = ascii text ++ decimal n

-- THE LINES of a literal, a field, a spec and a refusal
unfoldable pub literal_line : List ℕ → List ℕ
literal_line text = ascii "{\"kind\":\"literal\",\"text\":\"" ++ escaped_text text ++ ascii "\"}\n"

unfoldable pub field_line : List ℕ → (conversion place : ℕ) → List ℕ
field_line text conversion place =
    ascii "{\"kind\":\"field\",\"text\":\""
    ++ escaped_text text
    ++ numbered "\",\"conversion\":" conversion
    ++ numbered ",\"at\":" place
    ++ ascii "}\n"

unfoldable pub spec_line : ℕ → List ℕ
spec_line parts = numbered "{\"kind\":\"spec\",\"parts\":" parts ++ ascii "}\n"

unfoldable pub refusal_line : (number place a b : ℕ) → List ℕ
refusal_line number place a b =
    numbered "{\"refusal\":" number ++ numbered ",\"at\":" place ++ numbered ",\"a\":" a ++ numbered ",\"b\":" b ++ ascii "}\n"

-- by a record's kind: 2 a field, 3 a spec, else a literal
unfoldable pub line_of : (kind : ℕ) → List ℕ → (mode parts place : ℕ) → List ℕ
line_of kind text mode parts place =
    if eqb kind 2 then field_line text mode place else if eqb kind 3 then spec_line parts else literal_line text

-- a record's line, over the whole text
unfoldable pub record_line : List ℕ → Record → List ℕ
record_line text r = line_of r.kind (part text r.offset (r.offset + r.size)) r.mode r.parts r.place

unfoldable pub record_lines : List ℕ → List Record → List ℕ
record_lines text [] = []
record_lines text (r ∷ rs) = record_line text r ++ record_lines text rs

-- an outcome's lines
unfoldable pub outcome_lines : Outcome Answer → List ℕ
outcome_lines (accepts x) = record_lines x.text x.records
outcome_lines (refuses r) = refusal_line r.number r.place r.a r.b

-- the literal of a body of so many bytes: kind 1, start 0, flag 0, end after the closing quote
abbrev pub one_literal : ℕ → Literal
one_literal size = record { kind = 1; triple = 0; offset = 0; size = size; start = 0; end = size + 3 }

-- A BODY'S LINES: more than 1,024 bytes are refused as 5
unfoldable pub body_lines : List ℕ → List ℕ
body_lines s =
    if ltb 1024 (length s) then refusal_line bodies_too_long 0 0 0 else outcome_lines (read held_names s (one_literal (length s) ∷ []))
