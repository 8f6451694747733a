-- One literal's body, read to pieces (parse_string, parse_bytes, parse_fstring, parse_formatted_value, parse_spec).
use Rattle.std.specs.Prelude.{ℕ, zero, suc, ◌+◌, Bool, true, false, ◌&&◌, ◌||◌, not, List, [], ◌∷◌, ◌++◌, ltb, leb, eqb, length, drop, replicate, if◌then◌else◌}
use Rattle.std.proofs.Math.Option.{Option, none, some}
use Rattle.definition.specs.Numbers.{is_fstring, is_bytes, is_raw, non_ascii_in_bytes, unclosed_lbrace, invalid_conversion_flag, empty_expression, mismatched_delimiter, expression_nested_too_deeply, single_rbrace, unmatched, unterminated_string, too_many_brackets, after_bang, after_conversion, after_equals, in_field, last_brace}
use Rattle.definition.specs.Chars.{◌is◌, part, at_end, inside_any, code, next, char, white_space, before}
use Rattle.definition.specs.Escapes.{Naming, Fault, fault, detail, Read, got, refused, Meaning, escape, meant}

-- A field's signs: the bytes taken just after its first self-documenting `=`, its `!`, its `:` and its `}`; 0 for none
pub record Signs : Type 0 where
  pub equals : ℕ
  pub bang : ℕ
  pub colon : ℕ
  pub close : ℕ

-- A piece, in record order: a field, its spec, the spec's parts. `depth` is that of the text that it stands in
pub data Piece : Type 0 where
  literal : (depth : ℕ) (text : List ℕ) → Piece
  field : (depth : ℕ) (expression : List ℕ) (conversion parts taken : ℕ) (signs : Signs) → Piece  -- taken: just after its `{`
  spec : (parts : ℕ) → Piece

-- What a reader does at a character: goes on with a new state, refuses, calls for the next reader, or ends
pub data Move (A : Type 0) : Type 0 where
  goes : (taken : ℕ) (state : A) → Move A
  stops : (why : Fault) → Move A
  calls : Move A
  ends : Move A

-- a text with what the escape of the backslash at i stands for
unfoldable pub with_escape : ℕ → List ℕ → ℕ → List ℕ → Read Meaning → Move (List ℕ)
with_escape kind s i text (got m j) = goes j (text ++ meant kind s i j m)
with_escape kind s i text (refused x) = stops x

-- STRING AND BYTES BODIES
pub data StringCase : Type 0 where
  over escapes foreign plain : StringCase

unfoldable pub string_case : ℕ → List ℕ → ℕ → StringCase
string_case kind s i =
    if at_end s i then over else
    if code s i is "\\" && not (is_raw kind) then escapes else
    if is_bytes kind && leb 0x80 (code s i) then foreign else plain

unfoldable pub string_move : Naming → ℕ → List ℕ → ℕ → List ℕ → Move (List ℕ)
string_move look kind s i text =
    elim (string_case kind s i) [
      | over ↦ ends
      | escapes ↦ with_escape kind s i text (escape look kind s (next s i))
      | foreign ↦ stops (fault non_ascii_in_bytes (next s i))
      | plain ↦ goes (next s i) (text ++ char s i)
    ]

-- n bounds the moves
unfoldable pub string_n : Naming → ℕ → ℕ → List ℕ → ℕ → List ℕ → Read (List ℕ)
string_n look zero kind s i text = refused (fault 0 i)
string_n look (suc n) kind s i text =
    elim (string_move look kind s i text) [
      | goes j text' ↦ string_n look n kind s j text'
      | stops x ↦ refused x
      | calls ↦ refused (fault 0 i)
      | ends ↦ got text i
    ]

-- F-STRING TEXT, at a depth
pub data TextCase : Type 0 where
  deep over opens last doubled lone escapes plain : TextCase

-- the depth of text that is 24
abbrev pub too_deep : ℕ
too_deep = 2

-- a backslash before a brace stays and the brace is read next
unfoldable pub text_case : ℕ → List ℕ → ℕ → ℕ → TextCase
text_case kind s depth i =
    let c = code s i in
    let c' = code s (next s i) in
    if leb too_deep depth then deep else
    if at_end s i then over else
    if c is "{" && eqb depth 0 && c' is "{" then doubled else
    if c is "{" && eqb depth 0 && at_end s (next s i) then last else
    if c is "{" then opens else
    if c is "}" && not (eqb depth 0) then over else
    if c is "}" && c' is "}" then doubled else
    if c is "}" then lone else
    if c is "\\" && not (is_raw kind) && not (c' is "{}") then escapes else plain

-- `text` is what was read since the last field
unfoldable pub text_move : Naming → ℕ → List ℕ → ℕ → ℕ → List ℕ → Move (List ℕ)
text_move look kind s depth i text =
    elim (text_case kind s depth i) [
      | deep ↦ stops (fault expression_nested_too_deeply i)
      | over ↦ ends
      | opens ↦ calls
      | last ↦ stops (detail unclosed_lbrace (next s i) last_brace)
      | doubled ↦ goes (next s (next s i)) (text ++ char s i)
      | lone ↦ stops (fault single_rbrace (next s i))
      | escapes ↦ with_escape kind s i text (escape look kind s (next s i))
      | plain ↦ goes (next s i) (text ++ char s i)
    ]

-- empty f-string or spec text gives no literal
unfoldable pub filled : ℕ → List ℕ → List Piece
filled depth [] = []
filled depth (b ∷ text) = literal depth (b ∷ text) ∷ []

-- An open bracket: its code, and the bytes taken just after it
pub record Bracket : Type 0 where
  pub bracket : ℕ
  pub taken : ℕ

-- A FIELD. Its state: the expression, whether that is blank so far, the open brackets (innermost first), the conversion,
-- whether a self-documenting `=` was met, the spaces kept apart after it, and the signs so far
pub data Field : Type 0 where
  state : (expression : List ℕ) (blank : Bool) (brackets : List Bracket) (conversion : ℕ) (documented : Bool) (spaces : ℕ) (signs : Signs) → Field

abbrev pub signs : (equals bang colon close : ℕ) → Signs
signs equals bang colon close = record { equals = equals; bang = bang; colon = colon; close = close }

-- with a sign more, just before j; only the first `=` counts
unfoldable pub with_equals : ℕ → Signs → Signs
with_equals j g = signs (if eqb g.equals 0 then j else g.equals) g.bang g.colon g.close

unfoldable pub with_bang : ℕ → Signs → Signs
with_bang j g = signs g.equals j g.colon g.close

unfoldable pub with_colon : ℕ → Signs → Signs
with_colon j g = signs g.equals g.bang j g.close

unfoldable pub with_close : ℕ → Signs → Signs
with_close j g = signs g.equals g.bang g.colon j

unfoldable pub fresh : Field
fresh = state [] true [] 0 false 0 (signs 0 0 0 0)

-- blank means White_Space
abbrev pub is_blank : ℕ → Bool
is_blank c = inside_any white_space c

-- more of the expression: its text, and whether it is blank
unfoldable pub add : List ℕ → Bool → Field → Field
add t blank (state e b o c d w g) = state (e ++ t) (b && blank) o c d w g

-- past its `=`, a space more, or its `:`
unfoldable pub documented : ℕ → Field → Field
documented j (state e b o c d w g) = state e b o c true w (with_equals j g)

unfoldable pub spaced : Field → Field
spaced (state e b o c d w g) = state e b o c d (suc w) g

unfoldable pub formatted : ℕ → Field → Field
formatted j (state e b o c d w g) = state e b o c d w (with_colon j g)

pub data FieldCase : Type 0 where
  over pair converts documents formats opener closes closer quote space backslash stray plain : FieldCase

unfoldable pub outside : List Bracket → Bool
outside [] = true
outside (b ∷ brackets) = false

-- what a character is in a field, by the one after it. `out`: outside brackets; `doc`: after a self-documenting `=`
abbrev pub sign_case : (c after : ℕ) → Bool → Bool → FieldCase
sign_case c after out doc =
    if c is "!=><" && after is "=" then pair else
    if c is "!" && out then converts else
    if c is "=" && out then documents else
    if c is ":" && out then formats else
    if c is "([{" then opener else
    if c is "}" && out then closes else
    if c is ")]}" then closer else
    if c is "\"'" then quote else
    if c is " " && doc then space else
    if c is "\\" then backslash else
    if doc then stray else plain

unfoldable pub field_case : List ℕ → ℕ → Bool → Bool → FieldCase
field_case s i out doc = if at_end s i then over else sign_case (code s i) (code s (next s i)) out doc

unfoldable pub case_of : List ℕ → ℕ → Field → FieldCase
case_of s i (state e b o c d w g) = field_case s i (outside o) d

-- the `!` at i: not after a blank expression; then s, a or r; then `}` or `:` must follow
unfoldable pub conversion_move : List ℕ → ℕ → Field → Move Field
conversion_move s i (state e b o c d w g) =
    let flag = next s i in
    let after = next s flag in
    if b then stops (fault empty_expression flag) else
    if at_end s flag then stops (detail unclosed_lbrace flag after_bang) else
    if not (code s flag is "sar") then stops (fault invalid_conversion_flag after) else
    if code s after is "}:" then goes after (state e b o (code s flag) d w (with_bang flag g)) else stops (detail unclosed_lbrace after after_conversion)

-- the opening bracket at i: 64 may be open at once
unfoldable pub open_move : List ℕ → ℕ → Field → Move Field
open_move s i (state e b o c d w g) =
    if ltb (length o) 64 then goes (next s i) (state (e ++ char s i) false (record { bracket = code s i; taken = next s i } ∷ o) c d w g) else stops (fault too_many_brackets (next s i))

abbrev pub matching : ℕ → ℕ → Bool
matching a b = a is "(" && b is ")" || a is "[" && b is "]" || a is "{" && b is "}"

-- 23, with the open bracket and the closing one
abbrev pub wrong : ℕ → Bracket → ℕ → Fault
wrong taken a b = record { number = mismatched_delimiter; taken = taken; a = a.bracket; b = b; opened = a.taken }

-- the closing bracket at i must match the innermost open one by kind
unfoldable pub close_move : List ℕ → ℕ → Field → Move Field
close_move s i (state e b [] c d w g) = stops (detail unmatched (next s i) (code s i))
close_move s i (state e b (a ∷ o) c d w g) =
    if matching a.bracket (code s i) then goes (next s i) (state (e ++ char s i) false o c d w g) else stops (wrong (next s i) a (code s i))

-- the quote at i opens a run that ends at the same quote
unfoldable pub quote_move : List ℕ → ℕ → Field → Move Field
quote_move s i f =
    let close = next s i + before (λ b. eqb b (code s i)) (drop (next s i) s) in
    if at_end s close then stops (fault unterminated_string (length s)) else goes (close + 1) (add (part s i (close + 1)) false f)

unfoldable pub field_move : List ℕ → ℕ → Field → Move Field
field_move s i f =
    let after = next s i in
    elim (case_of s i f) [
      | over ↦ stops (detail unclosed_lbrace i in_field)
      | pair ↦ goes (next s after) (add (part s i (next s after)) false f)
      | converts ↦ conversion_move s i f
      | documents ↦ goes after (documented after f)
      | formats ↦ calls
      | opener ↦ open_move s i f
      | closes ↦ ends
      | closer ↦ close_move s i f
      | quote ↦ quote_move s i f
      | space ↦ goes after (spaced f)
      | backslash ↦ stops (fault unterminated_string after)
      | stray ↦ stops (detail unclosed_lbrace after after_equals)
      | plain ↦ goes after (add (char s i) (is_blank (code s i)) f)
    ]

-- the direct literals and fields among a spec's pieces, which stand at a depth
unfoldable pub direct : ℕ → List Piece → ℕ
direct depth [] = 0
direct depth (literal d t ∷ ps) = (if eqb d depth then 1 else 0) + direct depth ps
direct depth (field d t c n i g ∷ ps) = (if eqb d depth then 1 else 0) + direct depth ps
direct depth (spec n ∷ ps) = direct depth ps

-- a self-documenting field has conversion r exactly if it has neither conversion nor spec
unfoldable pub conversion_of : Bool → ℕ → Option (List Piece) → ℕ
conversion_of false c p = c
conversion_of true c none = if eqb c 0 then 114 else c
conversion_of true c (some ps) = c

-- a field that began at i, with its spec and the spec's parts
unfoldable pub field_pieces : ℕ → List ℕ → ℕ → ℕ → Signs → Option (List Piece) → List Piece
field_pieces depth e c i g none = field depth e c 0 i g ∷ []
field_pieces depth e c i g (some ps) = field depth e c 1 i g ∷ spec (direct (suc depth) ps) ∷ ps

-- a self-documenting field gives the literals expression + `=` and spaces (even none) first
unfoldable pub self_documenting : ℕ → Bool → List ℕ → ℕ → List Piece
self_documenting depth false e w = []
self_documenting depth true e w = literal depth (e ++ (61 ∷ [])) ∷ literal depth (replicate w 32) ∷ []

-- the `}` before j that ends the field which began at i, with its spec's pieces if it has a spec
unfoldable pub finished : ℕ → ℕ → ℕ → Field → Option (List Piece) → Read (List Piece)
finished depth i j (state e b o c d w g) p =
    if b then refused (fault empty_expression j) else got (self_documenting depth d e w ++ field_pieces depth e (conversion_of d c p) i (with_close j g) p) j

-- a field whose spec has ended at j, at its `}` or at the body's end
unfoldable pub specified : List ℕ → ℕ → ℕ → ℕ → Field → List Piece → Read (List Piece)
specified s depth i j f ps = if at_end s j then refused (detail unclosed_lbrace j in_field) else finished depth i (next s j) f (some ps)

-- a spec's first piece: the bytes before the first brace; where it ends, if it begins at i
unfoldable pub plain_run : List ℕ → ℕ
plain_run s = before (λ b. b is "{}") s

abbrev pub first_end : List ℕ → ℕ → ℕ
first_end s i = i + plain_run (drop i s)

-- TEXT, FIELD AND SPEC call for one another; n bounds the moves. `ps` is the text's pieces so far; a field began at `from`
module _ (look : Naming) where
  unfoldable mutual
    pub text_n : ℕ → ℕ → List ℕ → ℕ → ℕ → List ℕ → List Piece → Read (List Piece)
    text_n zero kind s depth i text ps = refused (fault 0 i)
    text_n (suc n) kind s depth i text ps =
        elim (text_move look kind s depth i text) [
          | goes j text' ↦ text_n n kind s depth j text' ps
          | stops x ↦ refused x
          | calls ↦ elim (field_n n kind s depth (next s i) (next s i) fresh) [
            | got qs j ↦ text_n n kind s depth j [] (ps ++ filled depth text ++ qs)
            | refused x ↦ refused x
          ]
          | ends ↦ got (ps ++ filled depth text) i
        ]

    pub field_n : ℕ → ℕ → List ℕ → ℕ → ℕ → ℕ → Field → Read (List Piece)
    field_n zero kind s depth from i f = refused (fault 0 i)
    field_n (suc n) kind s depth from i f =
        elim (field_move s i f) [
          | goes j f' ↦ field_n n kind s depth from j f'
          | stops x ↦ refused x
          | calls ↦ elim (spec_n n kind s depth (next s i)) [
            | got ps j ↦ specified s depth from j (formatted (next s i) f) ps
            | refused x ↦ refused x
          ]
          | ends ↦ finished depth from (next s i) f none
        ]

    pub spec_n : ℕ → ℕ → List ℕ → ℕ → ℕ → Read (List Piece)
    spec_n zero kind s depth i = refused (fault 0 i)
    spec_n (suc n) kind s depth i =
        let j = first_end s i in
        let first = filled (suc depth) (part s i j) in
        elim (code s j is "{") [ true ↦ text_n n kind s (suc depth) j [] first | false ↦ got first j ]

-- moves enough for a body
abbrev pub enough : List ℕ → ℕ
enough s = length s + length s + 2

-- a string's or bytes' one piece, empty or not
unfoldable pub alone : Read (List ℕ) → Read (List Piece)
alone (got t j) = got (literal 0 t ∷ []) j
alone (refused x) = refused x

-- ONE LITERAL: the body s of a kind
unfoldable pub read_body : Naming → ℕ → List ℕ → Read (List Piece)
read_body look kind s =
    elim (is_fstring kind) [ true ↦ text_n look (enough s) kind s 0 0 [] [] | false ↦ alone (string_n look (enough s) kind s 0 []) ]
