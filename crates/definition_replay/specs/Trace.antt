-- A TRACE: RFC 4180's grammar to the letter, and rows of decimal integers.
--   file = record *(CRLF record) [CRLF]; record = field *(COMMA field); field = escaped / non-escaped
use Rattle.std.specs.Prelude.{ℕ, zero, suc, Bool, true, false, ◌&&◌, ◌||◌, not, List, [], ◌∷◌, eqb, length, if◌then◌else◌}
use Rattle.std.proofs.Math.Option.{Option, none, some}
use Rattle.definition.specs.Chars.{◌is◌, ◌to◌, inside}
use Rattle.definition_replay.specs.Spec.{is_digit, first, past, front, behind, all, nothing}
use Rattle.definition_replay.specs.Integers.{Integer, decimal}

-- TEXTDATA: 20 to 7E but for the quote and the comma; a quoted column also holds commas, CR, LF and quotes
abbrev pub is_quote : ℕ → Bool
is_quote b = eqb b 34

unfoldable pub is_text : ℕ → Bool
is_text b = inside (32 to 126) b && not (b is "\",")

unfoldable pub in_quotes : ℕ → Bool
in_quotes b = is_text b || b is "," || eqb b 13 || eqb b 10

-- What is read and what is left; or nothing, as the text is malformed
pub data Taken (A : Type 0) : Type 0 where
  taken : (value : A) (rest : List ℕ) → Taken A
  broken : Taken A

unfoldable pub more_of : {A : Type 0} → A → Taken (List A) → Taken (List A)
more_of x (taken xs s) = taken (x ∷ xs) s
more_of x broken = broken

-- a byte in quotes: a quote, which is the first of two or closes; the second of two; one behind the closing quote; any that may stand there
pub data QuotedCase : Type 0 where
  quote twice closed holds wrong : QuotedCase

-- `after` a quote
unfoldable pub quoted_case : (after : Bool) → ℕ → QuotedCase
quoted_case true b = if is_quote b then twice else closed
quoted_case false b = if is_quote b then quote else if in_quotes b then holds else wrong

-- what stands in quotes, behind the first one: two quotes are one, and one closes
unfoldable pub quoted_from : (after : Bool) → List ℕ → Taken (List ℕ)
quoted_from after [] = if after then taken [] [] else broken
quoted_from after (b ∷ s) =
    elim (quoted_case after b) [
      | quote ↦ quoted_from true s
      | twice ↦ more_of 34 (quoted_from false s)
      | closed ↦ taken [] (b ∷ s)
      | holds ↦ more_of b (quoted_from false s)
      | wrong ↦ broken
    ]

-- A COLUMN, its quotes removed
unfoldable pub column_of : List ℕ → Taken (List ℕ)
column_of [] = taken [] []
column_of (b ∷ s) = elim (is_quote b) [ true ↦ quoted_from false s | false ↦ taken (front is_text (b ∷ s)) (behind is_text (b ∷ s)) ]

-- what stands behind a column: a comma, the row's end (CRLF or the text's end), or something else
pub data Behind : Type 0 where
  comma : (rest : List ℕ) → Behind
  ends : (rest : List ℕ) → Behind
  other : Behind

unfoldable pub behind_column : List ℕ → Behind
behind_column [] = ends []
behind_column (b ∷ []) = if b is "," then comma [] else other
behind_column (b ∷ c ∷ s) = if b is "," then comma (c ∷ s) else if eqb b 13 && eqb c 10 then ends s else other

-- THE COLUMNS OF A ROW; n bounds them
unfoldable pub columns_n : ℕ → List ℕ → Taken (List (List ℕ))
columns_n zero s = broken
columns_n (suc n) s =
    elim (column_of s) [
      | broken ↦ broken
      | taken v t ↦ elim (behind_column t) [ comma u ↦ more_of v (columns_n n u) | ends u ↦ taken (v ∷ []) u | other ↦ broken ]
    ]

unfoldable pub columns_of : List ℕ → Taken (List (List ℕ))
columns_of s = columns_n (suc (length s)) s

-- AN INTEGER: at most one `-`, then one digit or more
unfoldable pub integer_of : List ℕ → Option Integer
integer_of s =
    let ds = past "-" s in
    if nothing ds || not (all is_digit ds) then none else
    some (record { negative = not (eqb (first "-" s) 0) && not (eqb (decimal ds) 0); size = decimal ds })

unfoldable pub with_integer : Option Integer → Option (List Integer) → Option (List Integer)
with_integer none vs = none
with_integer (some v) none = none
with_integer (some v) (some vs) = some (v ∷ vs)

unfoldable pub integers_of : List (List ℕ) → Option (List Integer)
integers_of [] = some []
integers_of (c ∷ cs) = with_integer (integer_of c) (integers_of cs)

-- A ROW of integers; broken if it is malformed or a column is none
unfoldable pub row_of : List ℕ → Taken (List Integer)
row_of s =
    elim (columns_of s) [
      | broken ↦ broken
      | taken cs t ↦ elim (integers_of cs) [ none ↦ broken | some vs ↦ taken vs t ]
    ]

-- THE ROWS OF A TRACE, in order; none for a broken one, which is the last that is read. An empty text has no row; n bounds them
unfoldable pub rows_n : ℕ → List ℕ → List (Option (List Integer))
rows_n zero s = []
rows_n (suc n) s =
    elim (nothing s) [
      | true ↦ []
      | false ↦ elim (row_of s) [ broken ↦ none ∷ [] | taken vs t ↦ some vs ∷ rows_n n t ]
    ]

unfoldable pub rows_of : List ℕ → List (Option (List Integer))
rows_of s = rows_n (length s) s
