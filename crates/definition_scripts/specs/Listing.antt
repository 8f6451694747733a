-- EVERY FIELD OF A WHOLE SCRIPT: the rows of its cut, then those of each row's source, level by level.
use Rattle.std.specs.Prelude.{ℕ, zero, suc, ◌+◌, ◌-◌, ◌/◌, Bool, true, false, ◌&&◌, not, List, [], ◌∷◌, ◌++◌, map, ltb, leb, eqb, length, if◌then◌else◌}
use Rattle.definition.specs.Numbers.{is_fstring, script_too_long, too_little_list_room, read_otherwise, unknown_prefix}
use Rattle.definition.specs.Chars.{◌is◌, byte}
use Rattle.definition.specs.Escapes.{Naming}
use Rattle.definition.specs.Body.{Signs}
use Rattle.definition.specs.Entry.{Literal}
use Rattle.definition.specs.Reading.{accepts, refuses, read, in_front, zeros}
use Rattle.definition.specs.Rows.{Row, row_numbers, literal_rows}
use Rattle.definition_scripts.specs.Opening.{opens, is_sign, first_at}
use Rattle.definition_scripts.specs.IsRun.{body_end}
use Rattle.definition_scripts.specs.IsCut.{Ending, reaches_end, breaks_off}
use Rattle.definition_scripts.specs.Cut.{Cut, cut, cut_part}
use Rattle.definition_scripts.specs.Keywords.{word_start, may_stand}

-- A ROW OF THE LIST: a field, or a refusal with its literal's start; `within` is the row, from 1, in whose source its literal stands, 0 for a literal of the script
pub data ListRow : Type 0 where
  of_field : (within : ℕ) (row : Row) → ListRow
  of_refusal : (within start place number a b opened : ℕ) → ListRow

-- its ten numbers, and those of several in order
unfoldable pub ten_of : ListRow → List ℕ
ten_of (of_field within r) = row_numbers within r
ten_of (of_refusal within start place number a b opened) = 5 ∷ start ∷ place ∷ number ∷ a ∷ b ∷ opened ∷ 0 ∷ 0 ∷ within ∷ []

unfoldable pub tens : List ListRow → List ℕ
tens [] = []
tens (r ∷ rs) = ten_of r ++ tens rs

-- THE ROWS OF A LITERAL, read alone: its fields, or its one refusal. Only f-strings are read
unfoldable pub read_rows : Naming → List ℕ → (within : ℕ) → Literal → List ListRow
read_rows look s within l =
    elim (is_fstring l.kind) [
      | true ↦ elim (read look s (l ∷ [])) [
        | accepts x ↦ map (of_field within) (literal_rows look s l)
        | refuses r ↦ of_refusal within l.start r.place r.number r.a r.b r.opened ∷ []
      ]
      | false ↦ []
    ]

-- before them, if the word that ends where the literal starts may not stand there, that word
unfoldable pub unknown_row : List ℕ → (within : ℕ) → Literal → List ListRow
unknown_row s within l =
    if not (may_stand s l.start) then of_refusal within l.start (word_start s l.start) unknown_prefix 0 0 0 ∷ [] else []

unfoldable pub own_rows : Naming → List ℕ → (within : ℕ) → Literal → List ListRow
own_rows look s within l = unknown_row s within l ++ read_rows look s within l

unfoldable pub all_read : Naming → List ℕ → (within : ℕ) → List Literal → List ListRow
all_read look s within [] = []
all_read look s within (l ∷ ls) = own_rows look s within l ++ all_read look s within ls

-- of a 50 or 51, where the literal starts
unfoldable pub broken_row : (within : ℕ) → Ending → List ListRow
broken_row within reaches_end = []
broken_row within (breaks_off number place) = of_refusal within place place number 0 0 0 ∷ []

-- THE ROWS OF A CUT of a part of the script s
unfoldable pub cut_rows : Naming → List ℕ → (within : ℕ) → Cut → List ListRow
cut_rows look s within c = all_read look s within c.literals ++ broken_row within c.ending

-- A FIELD'S SOURCE goes from its place up to its first `!`, `:` or `}`
unfoldable pub source_end : Signs → ℕ
source_end g =
    if not (eqb g.bang 0) then g.bang - 1 else
    if not (eqb g.colon 0) then g.colon - 1 else g.close - 1

-- how far a cut went: to its 50 or 51, else to the end
unfoldable pub reached : ℕ → Ending → ℕ
reached end reaches_end = end
reached end (breaks_off number place) = place

-- WHERE PYTHON READS OTHERWISE, 75: places in the script, its length for none. The first from i up to j whose byte passes a test
unfoldable pub first_in : (ℕ → Bool) → List ℕ → (i j : ℕ) → ℕ
first_in test s i j = let k = first_at test s i in if ltb k j then k else length s

-- a triple-quoted literal has its own quote inside
unfoldable pub quoted_inside : List ℕ → Literal → Bool
quoted_inside s l = eqb l.triple 1 && ltb (first_at (λ b. eqb b (byte s (l.end - 1))) s l.offset) (body_end l)

-- from i up to j with its literals: the first `#` between them, or the start of the first such literal
unfoldable pub first_odd : List ℕ → (i j : ℕ) → List Literal → ℕ
first_odd s i j [] = first_in is_sign s i j
first_odd s i j (l ∷ ls) =
    if ltb (first_at is_sign s i) l.start then first_at is_sign s i else
    if quoted_inside s l then l.start else first_odd s l.end j ls

-- just after a field's first self-documenting `=`, if anything but spaces follows up to the end of its source
unfoldable pub more_after : List ℕ → Signs → ℕ
more_after s g =
    if not (eqb g.equals 0) && ltb (first_at (λ b. not (b is " ")) s g.equals) (source_end g) then g.equals else length s

-- a backslash in its spec before any brace, in a literal of kind 1
unfoldable pub spec_backslash : List ℕ → (start : ℕ) → Signs → ℕ
spec_backslash s start g =
    let i = first_at (λ b. b is "{}\\") s g.colon in
    if not (eqb g.colon 0) && eqb (opens s start) 1 && byte s i is "\\" then i else length s

abbrev pub least : ℕ → ℕ → ℕ
least a b = if leb a b then a else b

-- the first of these of a field, whose source was cut so
unfoldable pub otherwise : List ℕ → Row → Cut → ℕ
otherwise s r c =
    let g = r.signs in
    let end = source_end g in
    least (first_odd s r.place (reached end c.ending) c.literals)
    (least (first_in (λ b. b is "\\") s r.place end)
    (least (more_after s g) (spec_backslash s r.start g)))

unfoldable pub otherwise_row : List ℕ → (within : ℕ) → Row → Cut → List ListRow
otherwise_row s within r c =
    let place = otherwise s r c in
    if ltb place (length s) then of_refusal within r.start place read_otherwise 0 0 0 ∷ [] else []

-- THE ROWS OF A ROW'S SOURCE; i is its number
unfoldable pub source_rows : Naming → List ℕ → (i : ℕ) → ListRow → List ListRow
source_rows look s i (of_field within r) = let c = cut_part s r.place (source_end r.signs) in otherwise_row s i r c ++ cut_rows look s i c
source_rows look s i (of_refusal within start place number a b opened) = []

-- of rows in order, whose numbers follow i
unfoldable pub below : Naming → List ℕ → (i : ℕ) → List ListRow → List ListRow
below look s i [] = []
below look s i (r ∷ rs) = source_rows look s (suc i) r ++ below look s (suc i) rs

-- a level, whose numbers follow i, and those below it; n bounds the levels
unfoldable pub levels_n : Naming → ℕ → List ℕ → (i : ℕ) → List ListRow → List ListRow
levels_n look zero s i level = []
levels_n look (suc n) s i level = level ++ levels_n look n s (i + length level) (below look s i level)

-- EVERY ROW OF A SCRIPT
unfoldable pub rows_of : Naming → List ℕ → List ListRow
rows_of look s = levels_n look (suc (length s)) s 0 (cut_rows look s 0 (cut s))

-- how many of some rows are refusals
unfoldable pub refusals_in : List ListRow → ℕ
refusals_in [] = 0
refusals_in (of_field within r ∷ rs) = refusals_in rs
refusals_in (of_refusal within start place number a b opened ∷ rs) = suc (refusals_in rs)

-- A list: its rows, the literals of the script, and how far it was cut; or that the script is too long, the number of what is wrong with a lent file
-- of names or its index, or how many rows a buffer does not hold
pub data Fields : Type 0 where
  fields : (rows : List ListRow) (literals cut_to : ℕ) → Fields
  too_long : Fields
  wrong_names : (number : ℕ) → Fields
  short : (needed : ℕ) → Fields

-- in a buffer of so many numbers: ten for a row
unfoldable pub fields_of : Naming → (script : List ℕ) (room : ℕ) → Fields
fields_of look s room =
    elim (ltb 1048576 (length s)) [
      | true ↦ too_long
      | false ↦ elim (ltb (room / 10) (length (rows_of look s))) [
        | true ↦ short (length (rows_of look s))
        | false ↦ fields (rows_of look s) (length (cut s).literals) (reached (length s) (cut s).ending)
      ]
    ]

-- what the row buffer holds after a list
unfoldable pub fields_after : Fields → List ℕ → List ℕ
fields_after (fields rows literals cut_to) buffer = in_front (tens rows) buffer
fields_after too_long buffer = zeros buffer
fields_after (wrong_names n) buffer = zeros buffer
fields_after (short n) buffer = zeros buffer

-- WHAT A CALL RETURNS AND LEAVES
pub record FieldsCall : Type 0 where
  pub listed : Fields
  pub rows : List ℕ

unfoldable pub fields_call : Fields → List ℕ → FieldsCall
fields_call x buffer = record { listed = x; rows = fields_after x buffer }

unfoldable pub fields_into : Naming → (script buffer : List ℕ) → FieldsCall
fields_into look s buffer = fields_call (fields_of look s (length buffer)) buffer

-- The numbers of RULES 9.6: 0 first for a list, and with 53 at 9 how many rows there are
unfoldable pub fields_numbers : Fields → List ℕ
fields_numbers (fields rows literals cut_to) = 0 ∷ length rows ∷ refusals_in rows ∷ literals ∷ cut_to ∷ []
fields_numbers too_long = script_too_long ∷ []
fields_numbers (wrong_names n) = n ∷ []
fields_numbers (short n) = too_little_list_room ∷ 0 ∷ 0 ∷ 0 ∷ 0 ∷ 0 ∷ 0 ∷ 0 ∷ 0 ∷ n ∷ []
