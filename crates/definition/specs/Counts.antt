-- What the step takes of a body, counted: characters, line ends, and the characters since the last one.
use Rattle.std.specs.Prelude.{ℕ, zero, suc, ◌+◌, true, false, ◌||◌, List, leb, length, if◌then◌else◌}
use Rattle.definition.specs.Chars.{◌is◌, at_end, code, next}

-- A count, each from 0
pub record Count : Type 0 where
  pub chars : ℕ
  pub line : ℕ
  pub column : ℕ

abbrev pub nothing : Count
nothing = record { chars = 0; line = 0; column = 0 }

-- one more character, of code c
unfoldable pub more : ℕ → Count → Count
more c k =
    if c is "\n" then record { chars = k.chars + 1; line = k.line + 1; column = 0 }
    else record { chars = k.chars + 1; line = k.line; column = k.column + 1 }

-- the characters that begin at i or later and before `taken`, after those of k; n bounds the steps
unfoldable pub count_from : ℕ → List ℕ → ℕ → ℕ → Count → Count
count_from zero s i taken k = k
count_from (suc n) s i taken k =
    elim (leb taken i || at_end s i) [ true ↦ k | false ↦ count_from n s (next s i) taken (more (code s i) k) ]

-- of a body, so many bytes taken (a character has a byte or more): all of it past the end
unfoldable pub counted : List ℕ → ℕ → Count
counted s taken = count_from (length s) s 0 taken nothing
