-- Table 3-7 by neighbours: which byte may stand after three others.
use Rattle.std.specs.Prelude.{ℕ, ◌+◌, ◌≤◌, ◌<◌, ◌≡◌, Bool, ◌||◌, List, leb, length, if◌then◌else◌}
use Rattle.definition.specs.Chars.{◌to◌, inside, byte}

-- after z, y and x a character is open
unfoldable pub is_due : ℕ → ℕ → ℕ → Bool
is_due z y x = leb 0xC2 x || leb 0xE0 y || leb 0xF0 z

-- b, where it is one of 80 to BF, is within its range as the second byte after x
pub record SecondFits (x b : ℕ) : Type 0 where
  pub e0 : x ≡ 0xE0 → 0xA0 ≤ b
  pub f0 : x ≡ 0xF0 → 0x90 ≤ b
  pub ed : x ≡ 0xED → b < 0xA0
  pub f4 : x ≡ 0xF4 → b < 0x90

-- b may stand after z, y and x: it is one of 80 to BF exactly if a character is open, and begins one otherwise
pub record Fits (z y x b : ℕ) : Type 0 where
  pub goes_on : is_due z y x ≡ inside (0x80 to 0xBF) b
  pub not_c0 : 0xC0 ≤ b → 0xC2 ≤ b
  pub small : 0xC2 ≤ b → b < 0xF5
  pub second : SecondFits x b

-- from each index from i up to j the fourth of four bytes may stand after the three
abbrev pub AllFit : List ℕ → ℕ → ℕ → Type 0
AllFit s i j = (k : ℕ) → i ≤ k → k < j → Fits (byte s k) (byte s (k + 1)) (byte s (k + 2)) (byte s (k + 3))

-- j is no less than i, and the bytes are within s
pub record Fitting (s : List ℕ) (i j : ℕ) : Type 0 where
  pub on : i ≤ j
  pub within : j + 3 ≤ length s
  pub all : AllFit s i j

-- where the character begins that the three bytes at i leave open, else just after them
unfoldable pub last_start : List ℕ → ℕ → ℕ
last_start s i =
    if leb 0xC2 (byte s (i + 2)) then i + 2 else
    if leb 0xE0 (byte s (i + 1)) then i + 1 else
    if leb 0xF0 (byte s i) then i else i + 3
