-- Bytes and characters: a choice by a test, ASCII texts, and UTF-8 by the Unicode Standard's tables 3-6 and 3-7.
use Rattle.std.specs.Prelude.{ℕ, zero, suc, ◌+◌, ◌-◌, ◌*◌, ◌/◌, ◌%◌, max, Bool, true, false, ◌&&◌, ◌||◌, List, [], ◌∷◌, ltb, leb, eqb, length, get_or, take, drop, if◌then◌else◌}
use Prim.Native.Char.{code as code_of}
use Prim.Native.String.{String, [] as []ˢ, ◌∷◌ as ◌∷ˢ◌}
use Rattle.std.proofs.Math.Option.{Option, none, some}

-- the bytes of an ASCII text
unfoldable pub ascii : String → List ℕ
ascii []ˢ = []
ascii (c ∷ˢ s) = code_of c ∷ ascii s

-- the code c is one of the ASCII characters of a text
infix 50 ◌is◌
abbrev pub ◌is◌ : ℕ → String → Bool
c is []ˢ = false
c is (a ∷ˢ []ˢ) = eqb c (code_of a)
c is (a ∷ˢ b ∷ˢ s) = eqb c (code_of a) || c is (b ∷ˢ s)

-- the byte at i; past the end 256, which is no byte
abbrev pub byte : List ℕ → ℕ → ℕ
byte s i = get_or s i 256

-- the bytes from i up to j
abbrev pub part : List ℕ → ℕ → ℕ → List ℕ
part s i j = take (j - i) (drop i s)

-- past every code: what stands where there is no character
abbrev pub no_code : ℕ
no_code = 0x110000

-- nothing is left at i
abbrev pub at_end : List ℕ → ℕ → Bool
at_end s i = leb (length s) i

-- Table 3-7: the range of each byte, by rows of the first byte's range
infix 68 ◌to◌
pub data Range : Type 0 where
  ◌to◌ : ℕ → ℕ → Range

abbrev pub inside : Range → ℕ → Bool
inside (low to high) b = leb low b && leb b high

-- within one of the ranges
unfoldable pub inside_any : List Range → ℕ → Bool
inside_any [] b = false
inside_any (r ∷ rs) b = inside r b || inside_any rs b

unfoldable pub table37 : List (Range × List Range)
table37 =
    (0x00 to 0x7F, [])
    ∷ (0xC2 to 0xDF, 0x80 to 0xBF ∷ [])
    ∷ (0xE0 to 0xE0, 0xA0 to 0xBF ∷ 0x80 to 0xBF ∷ [])
    ∷ (0xE1 to 0xEC, 0x80 to 0xBF ∷ 0x80 to 0xBF ∷ [])
    ∷ (0xED to 0xED, 0x80 to 0x9F ∷ 0x80 to 0xBF ∷ [])
    ∷ (0xEE to 0xEF, 0x80 to 0xBF ∷ 0x80 to 0xBF ∷ [])
    ∷ (0xF0 to 0xF0, 0x90 to 0xBF ∷ 0x80 to 0xBF ∷ 0x80 to 0xBF ∷ [])
    ∷ (0xF1 to 0xF3, 0x80 to 0xBF ∷ 0x80 to 0xBF ∷ 0x80 to 0xBF ∷ [])
    ∷ (0xF4 to 0xF4, 0x80 to 0x8F ∷ 0x80 to 0xBF ∷ 0x80 to 0xBF ∷ [])
    ∷ []

-- the ranges of the bytes that follow the first byte b, by the row that has it
unfoldable pub following : List (Range × List Range) → ℕ → Option (List Range)
following [] b = none
following (row ∷ rows) b = elim (inside row.0 b) [ true ↦ some row.1 | false ↦ following rows b ]

-- the bytes from i on lie in the ranges
unfoldable pub follow : List Range → List ℕ → ℕ → Bool
follow [] s i = true
follow (r ∷ rs) s i = inside r (byte s i) && follow rs s (i + 1)

-- the length of the well-formed character at i; 0 if there is none
unfoldable pub width : List ℕ → ℕ → ℕ
width s i =
    elim (following table37 (byte s i)) [ none ↦ 0 | some rs ↦ if follow rs s (i + 1) then suc (length rs) else 0 ]

-- Table 3-6: the code of a character of so many bytes
unfoldable pub decoded : ℕ → List ℕ → ℕ → ℕ
decoded zero s i = 0xFFFD
decoded (suc zero) s i = byte s i
decoded (suc (suc zero)) s i = byte s i % 32 * 64 + byte s (i + 1) % 64
decoded (suc (suc (suc zero))) s i = byte s i % 16 * 4096 + byte s (i + 1) % 64 * 64 + byte s (i + 2) % 64
decoded (suc (suc (suc (suc n)))) s i =
    byte s i % 8 * 262144 + byte s (i + 1) % 64 * 4096 + byte s (i + 2) % 64 * 64 + byte s (i + 3) % 64

-- the code of the character at i; a byte that begins no well-formed one is taken alone, as U+FFFD
unfoldable pub code : List ℕ → ℕ → ℕ
code s i = if at_end s i then no_code else decoded (width s i) s i

-- where the character after the one at i begins; at the end, there
unfoldable pub next : List ℕ → ℕ → ℕ
next s i = if at_end s i then i else i + max 1 (width s i)

-- the bytes of the character at i
unfoldable pub char : List ℕ → ℕ → List ℕ
char s i = part s i (next s i)

-- from i on, n characters as long as each is well-formed: where they end
unfoldable pub formed_from : ℕ → List ℕ → ℕ → ℕ
formed_from zero s i = i
formed_from (suc n) s i = elim (width s i) [ zero ↦ i | suc w ↦ formed_from n s (i + suc w) ]

-- the length of the longest well-formed prefix (a character has a byte or more)
unfoldable pub well_formed : List ℕ → ℕ
well_formed s = formed_from (length s) s 0

-- Table 3-6: the UTF-8 bytes of a code
unfoldable pub utf8 : ℕ → List ℕ
utf8 c =
    if ltb c 0x80 then c ∷ [] else
    if ltb c 0x800 then (0xC0 + c / 64) ∷ (0x80 + c % 64) ∷ [] else
    if ltb c 0x10000 then (0xE0 + c / 4096) ∷ (0x80 + c / 64 % 64) ∷ (0x80 + c % 64) ∷ [] else
    (0xF0 + c / 262144 % 8) ∷ (0x80 + c / 4096 % 64) ∷ (0x80 + c / 64 % 64) ∷ (0x80 + c % 64) ∷ []

-- Unicode's White_Space, by ranges of the code
unfoldable pub white_space : List Range
white_space =
    0x0009 to 0x000D
    ∷ 0x0020 to 0x0020
    ∷ 0x0085 to 0x0085
    ∷ 0x00A0 to 0x00A0
    ∷ 0x1680 to 0x1680
    ∷ 0x2000 to 0x200A
    ∷ 0x2028 to 0x2028
    ∷ 0x2029 to 0x2029
    ∷ 0x202F to 0x202F
    ∷ 0x205F to 0x205F
    ∷ 0x3000 to 0x3000
    ∷ []

-- how many bytes of s stand before the first that passes a test
unfoldable pub before : (ℕ → Bool) → List ℕ → ℕ
before test [] = 0
before test (b ∷ s) = elim (test b) [ true ↦ 0 | false ↦ suc (before test s) ]

-- two texts are the same, byte for byte
unfoldable pub same : List ℕ → List ℕ → Bool
same [] [] = true
same [] (b ∷ t) = false
same (a ∷ s) [] = false
same (a ∷ s) (b ∷ t) = eqb a b && same s t
