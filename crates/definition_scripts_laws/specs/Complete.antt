-- WHAT IT MEANS THAT A LIST OF ROWS IS COMPLETE FOR A SCRIPT, without a word of how it is made: it uses the reading of one literal and its rows, what a cut is,
-- of Keywords what a byte of a word and a keyword are, and of Listing only what a row is and where a field's source ends.
use Rattle.std.specs.Prelude.{ℕ, suc, ◌-◌, ◌≤◌, ◌<◌, ◌≡◌, Bool, true, false, not, List, [], ◌∷◌, ◌++◌, map, eqb, length, take}
use Prim.Native.String.{String}
use Rattle.definition.specs.Numbers.{is_fstring}
use Rattle.definition.specs.Chars.{◌is◌, ascii, byte, part, ◌to◌, inside}
use Rattle.definition.specs.Escapes.{Naming}
use Rattle.definition.specs.Records.{Answer}
use Rattle.definition.specs.Entry.{Literal}
use Rattle.definition.specs.Reading.{accepts, read}
use Rattle.definition.specs.Rows.{reason, Row, literal_rows, row_field, record_fields, row_spec, record_specs}
use Rattle.definition_scripts.specs.Opening.{opens, is_sign}
use Rattle.definition_scripts.specs.IsRun.{body_end}
use Rattle.definition_scripts.specs.IsCut.{reaches_end, IsCut, EachLiteral}
use Rattle.definition_scripts.specs.Keywords.{in_word, keywords}
use Rattle.definition_scripts.specs.Listing.{ListRow, of_field, source_end}

-- a text is one of some
pub data Among (k : String) : List String → Type 0 where
  first : {ks : List String} → Among k (k ∷ ks)
  next : {j : String} {ks : List String} → Among k ks → Among k (j ∷ ks)

-- THE ROWS OF LITERALS in order: each f-string is accepted alone, and its rows have the fields of its answer, in record order, a `:` exactly if there is a spec,
-- and between it and the `}` that spec's text where no field stands in it; no other literal is read
pub data Fielded (look : Naming) (s : List ℕ) (within : ℕ) : List Literal → List ListRow → Type 0 where
  none : Fielded look s within [] []
  other : {l : Literal} {ls : List Literal} {rows : List ListRow} → is_fstring l.kind ≡ false → Fielded look s within ls rows → Fielded look s within (l ∷ ls) rows
  fstring : {l : Literal} {ls : List Literal} {rows : List ListRow} → (answer : Answer) → read look s (l ∷ []) ≡ accepts answer
      → map row_field (literal_rows look s l) ≡ record_fields answer.records → map (row_spec s) (literal_rows look s l) ≡ record_specs answer.text answer.records → Fielded look s within ls rows → Fielded look s within (l ∷ ls) (map (of_field within) (literal_rows look s l) ++ rows)

-- A WORD from w up to i: bytes of words, as many as there are
pub record IsWordTo (s : List ℕ) (i w : ℕ) : Type 0 where
  pub some : w < i
  pub bytes : (m : ℕ) → w ≤ m → m < i → in_word (byte s m) ≡ true
  pub all : 1 ≤ w → in_word (byte s (w - 1)) ≡ false

-- the bytes from w up to i spell a keyword
pub record Spells (s : List ℕ) (i w : ℕ) : Type 0 where
  pub keyword : String
  pub listed : Among keyword keywords
  pub spelled : part s w i ≡ ascii keyword

-- WHAT MAY STAND BEFORE A LITERAL at i: no word, a keyword, or a digit with what follows it up to a keyword
pub data Stands (s : List ℕ) (i : ℕ) : Type 0 where
  no_word : (1 ≤ i → in_word (byte s (i - 1)) ≡ false) → Stands s i
  after_keyword : {w : ℕ} → IsWordTo s i w → Spells s i w → Stands s i
  after_number : {w m : ℕ} → IsWordTo s i w → inside (48 to 57) (byte s w) ≡ true → w < m → m < i → Spells s i m → Stands s i

-- WHAT A ROW OF 76 AT p SAYS of a literal that starts at i
pub record Unknown (s : List ℕ) (i p : ℕ) : Type 0 where
  pub word : IsWordTo s i p
  pub stands_not : Stands s i → ⊥

-- A PART OF A SCRIPT from `from` up to `end` is cut to its end, each literal may stand where it does, and these are the rows of its literals
pub record Covered (look : Naming) (s : List ℕ) (within from end : ℕ) (rows : List ListRow) : Type 0 where
  pub literals : List Literal
  pub is_cut : IsCut (take end s) from literals reaches_end
  pub standing : EachLiteral (λ l. Stands s l.start) literals
  pub fielded : Fielded look s within literals rows

-- no byte from i up to j passes a test; none outside the literals
abbrev pub NoneIn : (ℕ → Bool) → List ℕ → (i j : ℕ) → Type 0
NoneIn test s i j = (m : ℕ) → i ≤ m → m < j → test (byte s m) ≡ false

abbrev pub NoneOutside : (ℕ → Bool) → List ℕ → (i j : ℕ) → List Literal → Type 0
NoneOutside test s i j [] = NoneIn test s i j
NoneOutside test s i j (l ∷ ls) = NoneIn test s i l.start × NoneOutside test s l.end j ls

-- A FIELD THAT PYTHON READS LIKEWISE, whose source has these literals
pub record Likewise (s : List ℕ) (r : Row) (literals : List Literal) : Type 0 where
  pub no_comment : NoneOutside is_sign s r.place (source_end r.signs) literals
  pub no_backslash : NoneIn (λ b. b is "\\") s r.place (source_end r.signs)
  pub no_quote : EachLiteral (λ l. l.triple ≡ 1 → NoneIn (λ b. eqb b (byte s (l.end - 1))) s l.offset (body_end l)) literals
  pub nothing_after : 1 ≤ r.signs.equals → NoneIn (λ b. not (b is " ")) s r.signs.equals (source_end r.signs)
  pub spec_plain : 1 ≤ r.signs.colon → opens s r.start ≡ 1 → (m : ℕ) → r.signs.colon ≤ m → m < length s → NoneIn (λ b. b is "{}") s r.signs.colon m
      → (byte s m is "\\") ≡ false

-- p stands in a gap between literals, from i up to j; one of them satisfies P
pub data InGap (p : ℕ) : (i j : ℕ) → List Literal → Type 0 where
  last : {i j : ℕ} → i ≤ p → p < j → InGap p i j []
  here : {i j : ℕ} {l : Literal} {ls : List Literal} → i ≤ p → p < l.start → InGap p i j (l ∷ ls)
  later : {i j : ℕ} {l : Literal} {ls : List Literal} → InGap p l.end j ls → InGap p i j (l ∷ ls)

pub data OneOf (P : Literal → Type 0) : List Literal → Type 0 where
  this : {l : Literal} {ls : List Literal} → P l → OneOf P (l ∷ ls)
  another : {l : Literal} {ls : List Literal} → OneOf P ls → OneOf P (l ∷ ls)

-- a byte from i up to j passes a test
pub record SomeIn (test : ℕ → Bool) (s : List ℕ) (i j : ℕ) : Type 0 where
  pub found : ℕ
  pub after : i ≤ found
  pub before : found < j
  pub passes : test (byte s found) ≡ true

-- WHAT A ROW OF 75 AT p SAYS of a field, whose source goes up to `end` and has these literals up to `reached`
pub data ReadOtherwise (s : List ℕ) (r : Row) (reached : ℕ) (literals : List Literal) (p : ℕ) : Type 0 where
  comment : is_sign (byte s p) ≡ true → InGap p r.place reached literals → ReadOtherwise s r reached literals p
  backslash : (byte s p is "\\") ≡ true → r.place ≤ p → p < source_end r.signs → ReadOtherwise s r reached literals p
  quoted : OneOf (λ l. (p ≡ l.start) × (l.triple ≡ 1) × SomeIn (λ b. eqb b (byte s (l.end - 1))) s l.offset (body_end l)) literals → ReadOtherwise s r reached literals p
  after_equals : p ≡ r.signs.equals → 1 ≤ p → SomeIn (λ b. not (b is " ")) s p (source_end r.signs) → ReadOtherwise s r reached literals p
  in_spec : 1 ≤ r.signs.colon → opens s r.start ≡ 1 → r.signs.colon ≤ p → (byte s p is "\\") ≡ true → NoneIn (λ b. b is "{}\\") s r.signs.colon p → ReadOtherwise s r reached literals p

-- THE ROWS OF SOURCES: of the field of each row in order, whose numbers follow i
pub data Sources (look : Naming) (s : List ℕ) : (i : ℕ) → List ListRow → List ListRow → Type 0 where
  none : {i : ℕ} → Sources look s i [] []
  source : {i within : ℕ} {r : Row} {rs own rows : List ListRow} → (covered : Covered look s (suc i) r.place (source_end r.signs) own) → Likewise s r covered.literals
      → Sources look s (suc i) rs rows → Sources look s i (of_field within r ∷ rs) (own ++ rows)

-- COMPLETE: the rows are those of the script's literals and then those of the source of each field in the list, in order, and no others
pub record Complete (look : Naming) (s : List ℕ) (rows : List ListRow) : Type 0 where
  pub own : List ListRow
  pub later : List ListRow
  pub script : Covered look s 0 0 (length s) own
  pub sources : Sources look s 0 rows later
  pub exact : rows ≡ own ++ later

-- A FIELD'S PLACES are just after its `{`, `=`, `!`, `:` and `}` in the script, and its conversion is what its reason says
pub record Placed (s : List ℕ) (r : Row) : Type 0 where
  pub brace_at : byte s (r.place - 1) ≡ 123
  pub equals_at : 1 ≤ r.signs.equals → (r.place < r.signs.equals) × (byte s (r.signs.equals - 1) ≡ 61)
  pub bang_at : 1 ≤ r.signs.bang → (r.place < r.signs.bang) × (byte s (r.signs.bang - 1) ≡ 33)
  pub colon_at : 1 ≤ r.signs.colon → (r.place < r.signs.colon) × (byte s (r.signs.colon - 1) ≡ 58)
  pub close_at : (r.place < r.signs.close) × (byte s (r.signs.close - 1) ≡ 125)
  pub written : reason r.signs ≡ 1 → byte s r.signs.bang ≡ r.conversion
  pub none_written : reason r.signs ≡ 2 → r.conversion ≡ 0
  pub by_repr : reason r.signs ≡ 3 → r.conversion ≡ 114
  pub by_spec : reason r.signs ≡ 4 → r.conversion ≡ 0
