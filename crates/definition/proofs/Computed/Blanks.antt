-- Blanks (RULES 4.8): fields of one character each, and one claim over them, computed. Assumes nothing.
use Prim.Native.Nat.{ℕ}
use mathlib.Core.Path.{◌≡◌, refl}
use mathlib.Core.List.{List, [], ◌∷◌, ◌++◌, map}
use lib.ListN.{length}
use Rattle.definition.specs.Numbers.{empty_expression}
use Rattle.definition.specs.Chars.{ascii, inside_any, table37, following, follow, width, decoded, code, next, char, utf8, white_space}
use Rattle.definition.specs.Escapes.{Naming, fault, Read, got, refused}
use Rattle.definition.specs.Body.{signs, Piece, field, text_case, text_move, filled, with_close, fresh, add, outside, field_case, case_of, field_move, conversion_of, field_pieces, self_documenting, finished, text_n, read_body}

-- all of White_Space
pub blanks : List ℕ
blanks =
    0x09 ∷ 0x0A ∷ 0x0B ∷ 0x0C ∷ 0x0D ∷ 0x20 ∷ 0x85 ∷ 0xA0 ∷ 0x1680
    ∷ 0x2000 ∷ 0x2001 ∷ 0x2002 ∷ 0x2003 ∷ 0x2004 ∷ 0x2005 ∷ 0x2006 ∷ 0x2007 ∷ 0x2008 ∷ 0x2009 ∷ 0x200A
    ∷ 0x2028 ∷ 0x2029 ∷ 0x202F ∷ 0x205F ∷ 0x3000 ∷ []

-- the codes beside them (but `!`, which has its own rule), the information separators U+001C to U+001F, U+180E and U+FEFF
pub others : List ℕ
others =
    0x08 ∷ 0x0E ∷ 0x1C ∷ 0x1D ∷ 0x1E ∷ 0x1F ∷ 0x84 ∷ 0x86 ∷ 0x9F ∷ 0xA1 ∷ 0x167F ∷ 0x1681 ∷ 0x180E
    ∷ 0x1FFF ∷ 0x200B ∷ 0x2027 ∷ 0x202A ∷ 0x202E ∷ 0x2030 ∷ 0x205E ∷ 0x2060 ∷ 0x2FFF ∷ 0x3001 ∷ 0xFEFF ∷ []

-- the body of a field whose expression is one character
abbrev pub around : ℕ → List ℕ
unfolding ascii utf8
around c = ascii "{" ++ utf8 c ++ ascii "}"

-- refused after its `}`, or read
abbrev pub empty : ℕ → Read (List Piece)
empty c = refused (fault empty_expression (length (around c)))

abbrev pub full : ℕ → Read (List Piece)
unfolding utf8
full c = got (field 0 (utf8 c) 0 0 1 (signs 0 0 0 (length (around c))) ∷ []) (length (around c))

pub blanks_read : (look : Naming) → map (λ c. read_body look 1 (around c)) (blanks ++ others) ≡ map empty blanks ++ map full others
unfolding blanks others ascii inside_any table37 following follow width decoded code next char utf8 white_space text_case text_move filled with_close fresh add outside field_case case_of field_move conversion_of field_pieces self_documenting finished text_n read_body
blanks_read look = refl
