-- Every printed character of ASCII in the places of a body: its refusal's number, 0 for none. Made by crates/definition/rows.py. Assumes nothing.
use Prim.Native.Nat.{ℕ}
use mathlib.Core.List.{List, [], ◌∷◌}
use Rattle.definition.specs.Chars.{ascii}

-- a kind, what stands before the character and after it, the number for most, and groups with another
unfoldable pub places : List (ℕ × List ℕ × List ℕ × ℕ × List (List ℕ × ℕ))
places =
    -- RULES 4.1: in text, and after a brace
    (1, [], [], 0, (ascii "{", 20) ∷ (ascii "}", 25) ∷ (ascii "\\", 10) ∷ [])
    ∷ (1, ascii "{", [], 20, (ascii "{", 0) ∷ (ascii "}!", 22) ∷ (ascii ")]", 26) ∷ (ascii "'\"\\", 27) ∷ [])
    ∷ (1, ascii "}", [], 25, (ascii "}", 0) ∷ [])
    -- RULES 4.3: in a field, and there before a `=`
    ∷ (1, ascii "{x", ascii "}", 0, (ascii "([", 23) ∷ (ascii ")]", 26) ∷ (ascii "'\"\\", 27) ∷ (ascii "!", 21) ∷ (ascii "{", 20) ∷ (ascii "}", 25) ∷ [])
    ∷ (1, ascii "{x", ascii "=y}", 20, (ascii "([", 23) ∷ (ascii ")]", 26) ∷ (ascii "'\"\\", 27) ∷ (ascii "!=><:", 0) ∷ (ascii "}", 25) ∷ [])
    -- RULES 4.4: after a `!`, and after a conversion
    ∷ (1, ascii "{x!", ascii "}", 21, (ascii "sar=", 0) ∷ [])
    ∷ (1, ascii "{x!r", ascii "}", 20, (ascii ":", 0) ∷ (ascii "}", 25) ∷ [])
    -- RULES 4.5: after a self-documenting `=`
    ∷ (1, ascii "{x=", ascii "}", 20, (ascii "([", 23) ∷ (ascii ")]", 26) ∷ (ascii "'\"\\", 27) ∷ (ascii " =:", 0) ∷ (ascii "!", 21) ∷ (ascii "}", 25) ∷ [])
    -- RULES 4.6: in a bracket
    ∷ (1, ascii "{(", ascii ")}", 0, (ascii "([{]}", 23) ∷ (ascii ")", 26) ∷ (ascii "'\"\\", 27) ∷ [])
    -- RULES 4.9: in a spec
    ∷ (1, ascii "{x:", ascii "}", 0, (ascii "{", 22) ∷ (ascii "}", 25) ∷ [])
    -- RULES 3.3, 3.4: as a hex digit, and after N
    ∷ (0, ascii "\\x4", [], 11, (ascii "0123456789abcdefABCDEF", 0) ∷ [])
    ∷ (0, ascii "\\N", ascii "}", 10, (ascii "{", 13) ∷ [])
    ∷ []
