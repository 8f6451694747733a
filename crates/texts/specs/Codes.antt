-- The escapes of a letter and of digits, by the definition.
use Rattle.std.specs.Prelude.{ℕ, ◌+◌, ◌<◌, ◌≡◌, List, [], length}
use Rattle.definition.specs.Chars.{code}
use Rattle.definition.specs.Escapes.{Naming, got, stands, EscapeCase, escape_case, hex_from, escape, encode}
use Rattle.definition.specs.Body.{goes, string_move}

-- the character b after a backslash asks for x, wherever it stands
abbrev pub Asks : (kind b : ℕ) → EscapeCase → Type 0
Asks kind b x = (s : List ℕ) (i : ℕ) → i < length s → code s i ≡ b → escape_case kind s i ≡ x

-- n hex digits from i on give the code c
abbrev pub HexIs : ℕ → List ℕ → ℕ → ℕ → Type 0
HexIs n s i c = (letter : ℕ) → hex_from n 0 s i letter ≡ got (stands c) (i + n)

-- the octal digits after the backslash at i give the code c and end at j
abbrev pub OctalIs : List ℕ → (i c j : ℕ) → Type 0
OctalIs s i c j = (look : Naming) (kind : ℕ) → escape look kind s (i + 1) ≡ got (stands c) j

-- an escape at i of a string stands for the code c and ends at j
abbrev pub CodedIs : ℕ → List ℕ → (i c j : ℕ) → Type 0
CodedIs kind s i c j = (look : Naming) → string_move look kind s i [] ≡ goes j (encode kind c)
