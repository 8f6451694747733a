-- Runs of bytes: below a limit, and of ASCII.
use Rattle.std.specs.Prelude.{ℕ, ◌≤◌, ◌<◌, Bool, true, ◌&&◌, List, [], ◌∷◌, ltb, length}
use Rattle.definition.specs.Chars.{byte}

-- all bytes from i up to j are below n
abbrev pub Below : ℕ → List ℕ → ℕ → ℕ → Type 0
Below n s i j = (k : ℕ) → i ≤ k → k < j → byte s k < n

-- all bytes from i up to j, which is no less and within s, are ASCII
pub record Ascii (s : List ℕ) (i j : ℕ) : Type 0 where
  pub on : i ≤ j
  pub within : j ≤ length s
  pub all : Below 0x80 s i j

-- and the one at j, if there is one, is not
pub record AsciiEnd (s : List ℕ) (i j : ℕ) : Type 0 where
  pub upto : Ascii s i j
  pub ends : j < length s → 0x80 ≤ byte s j

-- whether a text is all ASCII
unfoldable pub all_ascii : List ℕ → Bool
all_ascii [] = true
all_ascii (b ∷ s) = ltb b 0x80 && all_ascii s
