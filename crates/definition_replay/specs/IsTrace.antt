-- WHAT A ROW OF A TRACE IS (RFC 4180), without a word of how it is read: its columns, parted by commas, and its end.
use Rattle.std.specs.Prelude.{ℕ, ◌≡◌, Bool, true, false, ◌&&◌, ◌||◌, not, List, [], ◌∷◌, ◌++◌, map, eqb, if◌then◌else◌}
use Rattle.definition_replay.specs.Spec.{is_digit, all, nothing}
use Rattle.definition_replay.specs.IsSpec.{one, optional}
use Rattle.definition_replay.specs.Integers.{Integer, decimal}
use Rattle.definition_replay.specs.Trace.{is_quote, is_text, in_quotes}

-- A column: as it stands, or in quotes
pub data Column : Type 0 where
  bare : (value : List ℕ) → Column
  quoted : (value : List ℕ) → Column

abbrev pub value_of : Column → List ℕ
value_of (bare v) = v
value_of (quoted v) = v

-- each quote twice
unfoldable pub doubled : List ℕ → List ℕ
doubled [] = []
doubled (b ∷ v) = if is_quote b then 34 ∷ 34 ∷ doubled v else b ∷ doubled v

-- its text
unfoldable pub column_text : Column → List ℕ
column_text (bare v) = v
column_text (quoted v) = 34 ∷ (doubled v ++ (34 ∷ []))

-- TEXTDATA alone; in quotes also commas, CR, LF and quotes
unfoldable pub column_legal : Column → Bool
column_legal (bare v) = all is_text v
column_legal (quoted v) = all (λ b. in_quotes b || is_quote b) v

-- the text of a row
unfoldable pub row_text : Column → List Column → List ℕ
row_text c [] = column_text c
row_text c (d ∷ cs) = column_text c ++ (44 ∷ row_text d cs)

unfoldable pub all_legal : List Column → Bool
all_legal [] = true
all_legal (c ∷ cs) = column_legal c && all_legal cs

-- how a row ends, and what is left behind it: CRLF and anything; or the text's end
pub data Ending : List ℕ → List ℕ → Type 0 where
  line : (rest : List ℕ) → Ending (13 ∷ 10 ∷ rest) rest
  last : Ending [] []

-- A ROW in front of a text: the values of its columns, and what is left
pub record IsRow (s : List ℕ) (values : List (List ℕ)) (rest : List ℕ) : Type 0 where
  pub first : Column
  pub others : List Column
  pub ending : List ℕ
  pub text : s ≡ row_text first others ++ ending
  pub are : values ≡ map value_of (first ∷ others)
  pub legal : all_legal (first ∷ others) ≡ true
  pub ends : Ending ending rest

-- THE INTEGER OF A COLUMN: at most one `-` and digits, one or more, whose value in base ten is its size; -0 is 0
pub record IsNumber (s : List ℕ) (v : Integer) : Type 0 where
  pub minus : ℕ
  pub digits : List ℕ
  pub text : s ≡ one minus ++ digits
  pub mark : optional "-" minus ≡ true
  pub any : nothing digits ≡ false
  pub legal : all is_digit digits ≡ true
  pub size : v.size ≡ decimal digits
  pub negative : v.negative ≡ not (eqb minus 0) && not (eqb (decimal digits) 0)
