-- THE FORMAT SPECIFICATION MINI-LANGUAGE of Python 3.11's library reference, read from bytes; nothing here knows of numbers or of a trace:
--   [[fill]align][sign]["z"]["#"]["0"][width][grouping_option]["." precision][type]
use Rattle.std.specs.Prelude.{ℕ, Bool, true, false, ◌&&◌, ◌||◌, not, List, [], ◌∷◌, eqb, take, drop, if◌then◌else◌}
use Prim.Native.String.{String}
use Rattle.std.proofs.Math.Option.{Option, none, some}
use Rattle.definition.specs.Chars.{◌is◌, byte, ◌to◌, inside, code, next}

-- THE PARTS of a text: one of a single ASCII character by its code, 0 where there is none; fill, width and precision as they stand
pub record Spec : Type 0 where
  pub fill : List ℕ
  pub align : ℕ
  pub sign : ℕ
  pub z : ℕ
  pub alternate : ℕ
  pub nought : ℕ
  pub width : List ℕ
  pub grouping : ℕ
  pub precision : List ℕ
  pub type : ℕ

-- the characters of each
abbrev pub aligns : String
aligns = "<>=^"

abbrev pub signs : String
signs = "+- "

abbrev pub groupings : String
groupings = "_,"

abbrev pub types : String
types = "bcdeEfFgGnosxX%"

abbrev pub is_digit : ℕ → Bool
is_digit b = inside (48 to 57) b

-- the first byte, if it is one of some characters, else 0; and what follows it
unfoldable pub first : String → List ℕ → ℕ
first set [] = 0
first set (b ∷ s) = if b is set then b else 0

unfoldable pub past : String → List ℕ → List ℕ
past set [] = []
past set (b ∷ s) = if b is set then s else b ∷ s

-- the bytes in front that pass a test, and what follows them
unfoldable pub front : (ℕ → Bool) → List ℕ → List ℕ
front test [] = []
front test (b ∷ s) = if test b then b ∷ front test s else []

unfoldable pub behind : (ℕ → Bool) → List ℕ → List ℕ
behind test [] = []
behind test (b ∷ s) = if test b then behind test s else b ∷ s

-- the digits of a precision: those that a point begins, one or more; and what follows them
unfoldable pub pointed : List ℕ → List ℕ
pointed [] = []
pointed (b ∷ s) = if b is "." then front is_digit s else []

unfoldable pub past_pointed : List ℕ → List ℕ
past_pointed s = elim (pointed s) [ [] ↦ s | d ∷ ds ↦ behind is_digit (past "." s) ]

-- the length of the fill: a character is one if an align stands behind it
unfoldable pub fill_size : List ℕ → ℕ
fill_size s = if byte s (next s 0) is aligns then next s 0 else 0

-- its code; 0 for none
unfoldable pub fill_code : List ℕ → ℕ
fill_code s = if byte s (next s 0) is aligns then code s 0 else 0

-- each byte passes a test
unfoldable pub all : (ℕ → Bool) → List ℕ → Bool
all test [] = true
all test (b ∷ s) = test b && all test s

unfoldable pub nothing : List ℕ → Bool
nothing [] = true
nothing (b ∷ s) = false

-- what is left of a text behind each part
abbrev pub behind_fill : List ℕ → List ℕ
behind_fill s = drop (fill_size s) s

abbrev pub behind_align : List ℕ → List ℕ
behind_align s = past aligns (behind_fill s)

abbrev pub behind_sign : List ℕ → List ℕ
behind_sign s = past signs (behind_align s)

abbrev pub behind_z : List ℕ → List ℕ
behind_z s = past "z" (behind_sign s)

abbrev pub behind_alternate : List ℕ → List ℕ
behind_alternate s = past "#" (behind_z s)

abbrev pub behind_nought : List ℕ → List ℕ
behind_nought s = past "0" (behind_alternate s)

abbrev pub behind_width : List ℕ → List ℕ
behind_width s = behind is_digit (behind_nought s)

abbrev pub behind_grouping : List ℕ → List ℕ
behind_grouping s = past groupings (behind_width s)

abbrev pub behind_precision : List ℕ → List ℕ
behind_precision s = past_pointed (behind_grouping s)

abbrev pub behind_type : List ℕ → List ℕ
behind_type s = past types (behind_precision s)

unfoldable pub parts_of : List ℕ → Spec
parts_of s =
    record {
      fill = take (fill_size s) s;
      align = first aligns (behind_fill s);
      sign = first signs (behind_align s);
      z = first "z" (behind_sign s);
      alternate = first "#" (behind_z s);
      nought = first "0" (behind_alternate s);
      width = front is_digit (behind_nought s);
      grouping = first groupings (behind_width s);
      precision = pointed (behind_grouping s);
      type = first types (behind_precision s);
    }

-- THE PARTS of a text, or none if it is not of the grammar: something is left
unfoldable pub spec_of : List ℕ → Option Spec
spec_of s = if nothing (behind_type s) then some (parts_of s) else none

-- it rounds: a type of a float, or no type and a precision
unfoldable pub rounds : Spec → Bool
rounds p = p.type is "eEfFgGn%" || eqb p.type 0 && not (nothing p.precision)
