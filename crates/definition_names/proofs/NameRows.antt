-- A file of names and their codes, by Python's unicodedata. Made by crates/definition/rows.py. Assumes nothing.
use Prim.Native.Nat.{ℕ}
use mathlib.Core.List.{List, [], ◌∷◌}
use Rattle.definition.specs.Chars.{ascii}

-- lines by their first two fields
unfoldable pub file_rows : List (List ℕ)
file_rows =
    ascii "0123;LATIN SMALL LETTER G WITH CEDILLA"
    ∷ ascii "4567;CJK UNIFIED IDEOGRAPH-4567"
    ∷ ascii "89ab;CJK UNIFIED IDEOGRAPH-89AB"
    ∷ ascii "89AC;CJK UNIFIED IDEOGRAPH-89AC"
    ∷ ascii "cdef;HANGUL SYLLABLE CWID"
    ∷ ascii "CDEE;HANGUL SYLLABLE CWINH"
    ∷ ascii "01F40d;SNAKE"
    ∷ ascii "1f600;GRINNING FACE"
    ∷ []

-- names and their codes
unfoldable pub asked_rows : List (List ℕ × ℕ)
asked_rows =
    (ascii "LATIN SMALL LETTER G WITH CEDILLA", 0x0123)
    ∷ (ascii "CJK UNIFIED IDEOGRAPH-4567", 0x4567)
    ∷ (ascii "CJK UNIFIED IDEOGRAPH-89AB", 0x89AB)
    ∷ (ascii "CJK UNIFIED IDEOGRAPH-89AC", 0x89AC)
    ∷ (ascii "HANGUL SYLLABLE CWID", 0xCDEF)
    ∷ (ascii "HANGUL SYLLABLE CWINH", 0xCDEE)
    ∷ (ascii "SNAKE", 0x1F40D)
    ∷ (ascii "GRINNING FACE", 0x1F600)
    ∷ []

-- a line, and the numbers of an index built: 60 for a name's code that is no scalar, and for a digit that is none
unfoldable pub code_rows : List (List ℕ × List ℕ)
code_rows =
    (ascii "0000;A", 0 ∷ 1 ∷ [])
    ∷ (ascii "D7FF;A", 0 ∷ 1 ∷ [])
    ∷ (ascii "D800;A", 60 ∷ [])
    ∷ (ascii "dfff;A", 60 ∷ [])
    ∷ (ascii "E000;A", 0 ∷ 1 ∷ [])
    ∷ (ascii "FFFF;A", 0 ∷ 1 ∷ [])
    ∷ (ascii "10ffff;A", 0 ∷ 1 ∷ [])
    ∷ (ascii "110000;A", 60 ∷ [])
    ∷ (ascii "FFFFFF;A", 60 ∷ [])
    ∷ (ascii "004/;A", 60 ∷ [])
    ∷ (ascii "004:;A", 60 ∷ [])
    ∷ (ascii "004@;A", 60 ∷ [])
    ∷ (ascii "004G;A", 60 ∷ [])
    ∷ (ascii "004`;A", 60 ∷ [])
    ∷ (ascii "004g;A", 60 ∷ [])
    ∷ []
