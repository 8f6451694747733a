-- The literals of small scripts, by Python's tokenizer. Made by crates/definition/rows.py. Assumes nothing.
use Prim.Native.Nat.{ℕ}
use mathlib.Core.List.{List, [], ◌∷◌}
use Rattle.definition.specs.Chars.{ascii}

-- a script, the answer's numbers and the list
unfoldable pub runs : List (List ℕ × List ℕ × List ℕ)
runs =
    -- every prefix that Python has
    (ascii "f'a' F'a' b'a' B'a'", 0 ∷ 4 ∷ 19 ∷ 19 ∷ [], 1 ∷ 0 ∷ 2 ∷ 1 ∷ 0 ∷ 4 ∷ 1 ∷ 0 ∷ 7 ∷ 1 ∷ 5 ∷ 9 ∷ 2 ∷ 0 ∷ 12 ∷ 1 ∷ 10 ∷ 14 ∷ 2 ∷ 0 ∷ 17 ∷ 1 ∷ 15 ∷ 19 ∷ [])
    ∷ (ascii "r'a' R'a' u'a' U'a'", 0 ∷ 4 ∷ 19 ∷ 19 ∷ [], 3 ∷ 0 ∷ 2 ∷ 1 ∷ 0 ∷ 4 ∷ 3 ∷ 0 ∷ 7 ∷ 1 ∷ 5 ∷ 9 ∷ 6 ∷ 0 ∷ 12 ∷ 1 ∷ 10 ∷ 14 ∷ 6 ∷ 0 ∷ 17 ∷ 1 ∷ 15 ∷ 19 ∷ [])
    ∷ (ascii "fr'a' fR'a' Fr'a' FR'a'", 0 ∷ 4 ∷ 23 ∷ 23 ∷ [], 4 ∷ 0 ∷ 3 ∷ 1 ∷ 0 ∷ 5 ∷ 4 ∷ 0 ∷ 9 ∷ 1 ∷ 6 ∷ 11 ∷ 4 ∷ 0 ∷ 15 ∷ 1 ∷ 12 ∷ 17 ∷ 4 ∷ 0 ∷ 21 ∷ 1 ∷ 18 ∷ 23 ∷ [])
    ∷ (ascii "br'a' bR'a' Br'a' BR'a'", 0 ∷ 4 ∷ 23 ∷ 23 ∷ [], 5 ∷ 0 ∷ 3 ∷ 1 ∷ 0 ∷ 5 ∷ 5 ∷ 0 ∷ 9 ∷ 1 ∷ 6 ∷ 11 ∷ 5 ∷ 0 ∷ 15 ∷ 1 ∷ 12 ∷ 17 ∷ 5 ∷ 0 ∷ 21 ∷ 1 ∷ 18 ∷ 23 ∷ [])
    ∷ (ascii "rf'a' rF'a' rb'a' rB'a'", 0 ∷ 4 ∷ 23 ∷ 23 ∷ [], 4 ∷ 0 ∷ 3 ∷ 1 ∷ 0 ∷ 5 ∷ 4 ∷ 0 ∷ 9 ∷ 1 ∷ 6 ∷ 11 ∷ 5 ∷ 0 ∷ 15 ∷ 1 ∷ 12 ∷ 17 ∷ 5 ∷ 0 ∷ 21 ∷ 1 ∷ 18 ∷ 23 ∷ [])
    ∷ (ascii "Rf'a' RF'a' Rb'a' RB'a'", 0 ∷ 4 ∷ 23 ∷ 23 ∷ [], 4 ∷ 0 ∷ 3 ∷ 1 ∷ 0 ∷ 5 ∷ 4 ∷ 0 ∷ 9 ∷ 1 ∷ 6 ∷ 11 ∷ 5 ∷ 0 ∷ 15 ∷ 1 ∷ 12 ∷ 17 ∷ 5 ∷ 0 ∷ 21 ∷ 1 ∷ 18 ∷ 23 ∷ [])
    -- one and three quotes of either kind, none within; a backslash takes the next character with it, in raw ones too
    ∷ (ascii "'' \"\"'''a'b''c''' \"\"\"'a\"b\"\"\"", 0 ∷ 4 ∷ 28 ∷ 28 ∷ [], 0 ∷ 0 ∷ 1 ∷ 0 ∷ 0 ∷ 2 ∷ 0 ∷ 0 ∷ 4 ∷ 0 ∷ 3 ∷ 5 ∷ 0 ∷ 1 ∷ 8 ∷ 6 ∷ 5 ∷ 17 ∷ 0 ∷ 1 ∷ 21 ∷ 4 ∷ 18 ∷ 28 ∷ [])
    ∷ (ascii "'a\\'b' r'\\'' '\\\\'\"\\\n\"", 0 ∷ 4 ∷ 21 ∷ 21 ∷ [], 0 ∷ 0 ∷ 1 ∷ 4 ∷ 0 ∷ 6 ∷ 3 ∷ 0 ∷ 9 ∷ 2 ∷ 7 ∷ 12 ∷ 0 ∷ 0 ∷ 14 ∷ 2 ∷ 13 ∷ 17 ∷ 0 ∷ 0 ∷ 18 ∷ 2 ∷ 17 ∷ 21 ∷ [])
    ∷ (ascii "'''a\nb''\\'''' '#'", 0 ∷ 2 ∷ 17 ∷ 17 ∷ [], 0 ∷ 1 ∷ 3 ∷ 7 ∷ 0 ∷ 13 ∷ 0 ∷ 0 ∷ 15 ∷ 1 ∷ 14 ∷ 17 ∷ [])
    -- spaces, tabs, newlines and comments between them
    ∷ (ascii "'a' \t\n 'b'", 0 ∷ 2 ∷ 10 ∷ 10 ∷ [], 0 ∷ 0 ∷ 1 ∷ 1 ∷ 0 ∷ 3 ∷ 0 ∷ 0 ∷ 8 ∷ 1 ∷ 7 ∷ 10 ∷ [])
    ∷ (ascii "'a'#'b'\n#\n\n'c' # \"", 0 ∷ 2 ∷ 14 ∷ 18 ∷ [], 0 ∷ 0 ∷ 1 ∷ 1 ∷ 0 ∷ 3 ∷ 0 ∷ 0 ∷ 12 ∷ 1 ∷ 11 ∷ 14 ∷ [])
    ∷ (ascii "'a'\n", 0 ∷ 1 ∷ 3 ∷ 4 ∷ [], 0 ∷ 0 ∷ 1 ∷ 1 ∷ 0 ∷ 3 ∷ [])
    -- RULES 8.3: nothing else is passed over; a carriage return, a form feed, a vertical tab, a no-break space end the run
    ∷ (ascii "'a' \r'b'", 0 ∷ 1 ∷ 3 ∷ 4 ∷ [], 0 ∷ 0 ∷ 1 ∷ 1 ∷ 0 ∷ 3 ∷ [])
    ∷ (0x27 ∷ 0x61 ∷ 0x27 ∷ 0x20 ∷ 0x0C ∷ 0x27 ∷ 0x62 ∷ 0x27 ∷ [], 0 ∷ 1 ∷ 3 ∷ 4 ∷ [], 0 ∷ 0 ∷ 1 ∷ 1 ∷ 0 ∷ 3 ∷ [])
    ∷ (0x27 ∷ 0x61 ∷ 0x27 ∷ 0x20 ∷ 0x0B ∷ 0x27 ∷ 0x62 ∷ 0x27 ∷ [], 0 ∷ 1 ∷ 3 ∷ 4 ∷ [], 0 ∷ 0 ∷ 1 ∷ 1 ∷ 0 ∷ 3 ∷ [])
    ∷ (0x27 ∷ 0x61 ∷ 0x27 ∷ 0x20 ∷ 0xC2 ∷ 0xA0 ∷ 0x27 ∷ 0x62 ∷ 0x27 ∷ [], 0 ∷ 1 ∷ 3 ∷ 4 ∷ [], 0 ∷ 0 ∷ 1 ∷ 1 ∷ 0 ∷ 3 ∷ [])
    ∷ (ascii "'a' \\'b'", 0 ∷ 1 ∷ 3 ∷ 4 ∷ [], 0 ∷ 0 ∷ 1 ∷ 1 ∷ 0 ∷ 3 ∷ [])
    ∷ (ascii "'a' +'b'", 0 ∷ 1 ∷ 3 ∷ 4 ∷ [], 0 ∷ 0 ∷ 1 ∷ 1 ∷ 0 ∷ 3 ∷ [])
    ∷ (ascii "'a' ,'b'", 0 ∷ 1 ∷ 3 ∷ 4 ∷ [], 0 ∷ 0 ∷ 1 ∷ 1 ∷ 0 ∷ 3 ∷ [])
    ∷ (0x27 ∷ 0x61 ∷ 0x27 ∷ 0x20 ∷ 0x00 ∷ 0x27 ∷ 0x62 ∷ 0x27 ∷ [], 0 ∷ 1 ∷ 3 ∷ 4 ∷ [], 0 ∷ 0 ∷ 1 ∷ 1 ∷ 0 ∷ 3 ∷ [])
    ∷ (ascii "'a' !'b'", 0 ∷ 1 ∷ 3 ∷ 4 ∷ [], 0 ∷ 0 ∷ 1 ∷ 1 ∷ 0 ∷ 3 ∷ [])
    -- RULES 8.2, 8.3: byte 13 is no line end, neither in a literal nor in a comment
    ∷ (ascii "'a\rb'", 0 ∷ 1 ∷ 5 ∷ 5 ∷ [], 0 ∷ 0 ∷ 1 ∷ 3 ∷ 0 ∷ 5 ∷ [])
    ∷ (ascii "'a'#\r'b'\n'c'", 0 ∷ 2 ∷ 12 ∷ 12 ∷ [], 0 ∷ 0 ∷ 1 ∷ 1 ∷ 0 ∷ 3 ∷ 0 ∷ 0 ∷ 10 ∷ 1 ∷ 9 ∷ 12 ∷ [])
    -- RULES 8.1: no other letters are a prefix, 52
    ∷ (ascii "ff'a'", 52 ∷ 0 ∷ 0 ∷ [], [])
    ∷ (ascii "fF'a'", 52 ∷ 0 ∷ 0 ∷ [], [])
    ∷ (ascii "fb'a'", 52 ∷ 0 ∷ 0 ∷ [], [])
    ∷ (ascii "fB'a'", 52 ∷ 0 ∷ 0 ∷ [], [])
    ∷ (ascii "fu'a'", 52 ∷ 0 ∷ 0 ∷ [], [])
    ∷ (ascii "fU'a'", 52 ∷ 0 ∷ 0 ∷ [], [])
    ∷ (ascii "Ff'a'", 52 ∷ 0 ∷ 0 ∷ [], [])
    ∷ (ascii "FF'a'", 52 ∷ 0 ∷ 0 ∷ [], [])
    ∷ (ascii "Fb'a'", 52 ∷ 0 ∷ 0 ∷ [], [])
    ∷ (ascii "FB'a'", 52 ∷ 0 ∷ 0 ∷ [], [])
    ∷ (ascii "Fu'a'", 52 ∷ 0 ∷ 0 ∷ [], [])
    ∷ (ascii "FU'a'", 52 ∷ 0 ∷ 0 ∷ [], [])
    ∷ (ascii "bf'a'", 52 ∷ 0 ∷ 0 ∷ [], [])
    ∷ (ascii "bF'a'", 52 ∷ 0 ∷ 0 ∷ [], [])
    ∷ (ascii "bb'a'", 52 ∷ 0 ∷ 0 ∷ [], [])
    ∷ (ascii "bB'a'", 52 ∷ 0 ∷ 0 ∷ [], [])
    ∷ (ascii "bu'a'", 52 ∷ 0 ∷ 0 ∷ [], [])
    ∷ (ascii "bU'a'", 52 ∷ 0 ∷ 0 ∷ [], [])
    ∷ (ascii "Bf'a'", 52 ∷ 0 ∷ 0 ∷ [], [])
    ∷ (ascii "BF'a'", 52 ∷ 0 ∷ 0 ∷ [], [])
    ∷ (ascii "Bb'a'", 52 ∷ 0 ∷ 0 ∷ [], [])
    ∷ (ascii "BB'a'", 52 ∷ 0 ∷ 0 ∷ [], [])
    ∷ (ascii "Bu'a'", 52 ∷ 0 ∷ 0 ∷ [], [])
    ∷ (ascii "BU'a'", 52 ∷ 0 ∷ 0 ∷ [], [])
    ∷ (ascii "rr'a'", 52 ∷ 0 ∷ 0 ∷ [], [])
    ∷ (ascii "rR'a'", 52 ∷ 0 ∷ 0 ∷ [], [])
    ∷ (ascii "ru'a'", 52 ∷ 0 ∷ 0 ∷ [], [])
    ∷ (ascii "rU'a'", 52 ∷ 0 ∷ 0 ∷ [], [])
    ∷ (ascii "Rr'a'", 52 ∷ 0 ∷ 0 ∷ [], [])
    ∷ (ascii "RR'a'", 52 ∷ 0 ∷ 0 ∷ [], [])
    ∷ (ascii "Ru'a'", 52 ∷ 0 ∷ 0 ∷ [], [])
    ∷ (ascii "RU'a'", 52 ∷ 0 ∷ 0 ∷ [], [])
    ∷ (ascii "uf'a'", 52 ∷ 0 ∷ 0 ∷ [], [])
    ∷ (ascii "uF'a'", 52 ∷ 0 ∷ 0 ∷ [], [])
    ∷ (ascii "ub'a'", 52 ∷ 0 ∷ 0 ∷ [], [])
    ∷ (ascii "uB'a'", 52 ∷ 0 ∷ 0 ∷ [], [])
    ∷ (ascii "ur'a'", 52 ∷ 0 ∷ 0 ∷ [], [])
    ∷ (ascii "uR'a'", 52 ∷ 0 ∷ 0 ∷ [], [])
    ∷ (ascii "uu'a'", 52 ∷ 0 ∷ 0 ∷ [], [])
    ∷ (ascii "uU'a'", 52 ∷ 0 ∷ 0 ∷ [], [])
    ∷ (ascii "Uf'a'", 52 ∷ 0 ∷ 0 ∷ [], [])
    ∷ (ascii "UF'a'", 52 ∷ 0 ∷ 0 ∷ [], [])
    ∷ (ascii "Ub'a'", 52 ∷ 0 ∷ 0 ∷ [], [])
    ∷ (ascii "UB'a'", 52 ∷ 0 ∷ 0 ∷ [], [])
    ∷ (ascii "Ur'a'", 52 ∷ 0 ∷ 0 ∷ [], [])
    ∷ (ascii "UR'a'", 52 ∷ 0 ∷ 0 ∷ [], [])
    ∷ (ascii "Uu'a'", 52 ∷ 0 ∷ 0 ∷ [], [])
    ∷ (ascii "UU'a'", 52 ∷ 0 ∷ 0 ∷ [], [])
    ∷ []

-- every byte of ASCII in a place: what stands before and after it, what most bytes give, and groups of bytes that give another
unfoldable pub places : List (List ℕ × List ℕ × ℕ × List (List ℕ × ℕ))
places =
    -- RULES 8.3: between two literals: how many there are, or a refusal's number
    (ascii "'a'", ascii "'c'", 1, (ascii " \t\n'fFbBrRuU", 2) ∷ (ascii "\"", 50) ∷ [])
    ∷ (ascii "'a' ", ascii "\n'c'", 1, (ascii " \t\n#", 2) ∷ (ascii "'\"", 51) ∷ [])
    -- RULES 8.1: before a literal
    ∷ ([], ascii "'a'", 52, (ascii "fFbBrRuU'", 1) ∷ (ascii "\"", 50) ∷ [])
    -- RULES 8.2: in a literal of one quote, and of three
    ∷ (ascii "'", ascii "'", 1, (ascii "'\\", 50) ∷ (ascii "\n", 51) ∷ [])
    ∷ (ascii "'''", ascii "'''", 1, (ascii "'\\", 50) ∷ [])
    ∷ (ascii "\"", ascii "\"", 1, (ascii "\"\\", 50) ∷ (ascii "\n", 51) ∷ [])
    ∷ []

-- the same of the cut
unfoldable pub cut_places : List (List ℕ × List ℕ × ℕ × List (List ℕ × ℕ))
cut_places =
    -- RULES 9.1: before `f''`: the kind of the first literal, 7 for none; a prefix counts after no ASCII letter, digit or underscore
    ([], ascii "f''", 1, (ascii "rR", 4) ∷ (ascii "0123456789ABCDEFGHIJKLMNOPQSTUVWXYZ_abcdefghijklmnopqstuvwxyz'", 0) ∷ (ascii "\"#", 7) ∷ [])
    -- in a comment: it ends before byte 10 or 13
    ∷ (ascii "#", ascii "f''", 7, (ascii "\n\r", 1) ∷ [])
    ∷ []
