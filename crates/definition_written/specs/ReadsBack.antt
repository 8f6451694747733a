-- WHAT READS BACK, told by what is held alone (55 without a body): each field by its expression, each text by its braces, and the spelling's length.
-- Nothing of what is written uses it; that it is exactly what reads back alike is shown.
use Rattle.std.specs.Prelude.{ℕ, suc, Bool, true, false, ◌&&◌, not, List, [], ◌∷◌, ltb, leb, length}
use Rattle.definition.specs.Chars.{◌is◌, byte}
use Rattle.definition.specs.Matched.{Seen, clear, quoted, broken, see, settled, blank, braceless}
use Rattle.definition_written.specs.Written.{Content, empty, says, puts, forms, Where, top, early, late, past_field, spelled}

-- A CLEAN expression: each quoted run ends, outside of them brackets match by kind and no backslash stands, at most 64
-- are open at once, and outside brackets no `:`, nor a `!` or `=` that is of no pair; `second`: the first byte is the second of a pair
unfoldable pub is_open : Seen → Bool
is_open (clear o) = true
is_open (quoted q o) = false
is_open broken = false

unfoldable pub few_open : Seen → Bool
few_open (clear o) = leb (length o) 64
few_open (quoted q o) = true
few_open broken = false

unfoldable pub clean : (second : Bool) → Seen → List ℕ → Bool
clean second x [] = settled x
clean true x (b ∷ s) = clean false x s
clean false x (b ∷ s) =
    elim (is_open x && b is "!=><" && byte s 0 is "=") [
      | true ↦ clean true x s
      | false ↦ not (settled x && b is "!=:") && few_open (see x b) && clean false (see x b) s
    ]

-- B: braces may not stand early in a spec
unfoldable pub text_reads : Where → List ℕ → Bool
text_reads top t = true
text_reads early t = braceless t
text_reads late t = true

-- A: at the top an expression may not begin with a brace
unfoldable pub begins_well : Where → List ℕ → Bool
begins_well top e = not (byte e 0 is "{")
begins_well early e = true
begins_well late e = true

-- D: it is clean and not blank. E: the text that the field stands in is less than two deep
unfoldable pub field_reads : (depth : ℕ) → Where → List ℕ → Bool
field_reads depth w e = ltb depth 2 && begins_well w e && clean false (clear []) e && not (blank e)

unfoldable pub parts_read : (depth : ℕ) → Where → Content → Bool
parts_read depth w empty = true
parts_read depth w (says t p) = text_reads w t && parts_read depth w p
parts_read depth w (puts e c p) = field_reads depth w e && parts_read depth (past_field w) p
parts_read depth w (forms e c q p) = field_reads depth w e && parts_read (suc depth) early q && parts_read depth (past_field w) p

-- C: and the spelling is no longer than bodies may be
unfoldable pub reads_back : Content → Bool
reads_back p = parts_read 0 top p && leb (length (spelled top p)) 1048576
