-- The classes of bytes: the rows of table 3-7 by their numbers.
use Rattle.std.specs.Prelude.{ℕ, zero, suc, true, false, List, [], ◌∷◌}
use Rattle.definition.specs.Chars.{ascii, Range, ◌to◌, inside, table37}

-- the number of the first row that has the first byte b, the rows numbered from k on; 0 if none has it
unfoldable pub row_from : ℕ → List (Range × List Range) → ℕ → ℕ
row_from k [] b = 0
row_from k (row ∷ rows) b = elim (inside row.0 b) [ true ↦ k | false ↦ row_from (suc k) rows b ]

-- the class of a byte: its row of table 3-7, from 1; 0 if it begins no character
unfoldable pub class_of : ℕ → ℕ
class_of b = row_from 1 table37 b

-- the ranges of `more` bytes: low to high, and 80 to BF for each after the first
unfoldable pub ranges : ℕ → ℕ → ℕ → List Range
ranges zero low high = []
ranges (suc more) low high = low to high ∷ ranges more 0x80 0xBF

-- the table of the classes, each as a digit
abbrev pub classes : List ℕ
unfolding ascii
classes =
    ascii
    "1111111111111111111111111111111111111111111111111111111111111111111111111111111111111111111111111111111111111111111111111111111100000000000000000000000000000000000000000000000000000000000000000022222222222222222222222222222234444444444445667888900000000000"
