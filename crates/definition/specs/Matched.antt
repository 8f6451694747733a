-- What an expression is by its bytes alone: matched, blank, without braces. Nothing of the reader is used.
use Rattle.std.specs.Prelude.{ℕ, zero, suc, ◌-◌, Bool, true, false, ◌&&◌, ◌||◌, not, List, [], ◌∷◌, eqb, if◌then◌else◌}
use Rattle.definition.specs.Chars.{◌is◌, inside_any, code, next, white_space}

-- After some bytes: outside quoted runs, or in a run that ends at a quote, with the open brackets, innermost first; or wrong for good
pub data Seen : Type 0 where
  clear : (brackets : List ℕ) → Seen
  quoted : (quote : ℕ) (brackets : List ℕ) → Seen
  broken : Seen

-- a closing bracket must be of the innermost open one's kind
abbrev pub pairs : ℕ → ℕ → Bool
pairs a b = a is "(" && b is ")" || a is "[" && b is "]" || a is "{" && b is "}"

unfoldable pub closed : (brackets : List ℕ) → ℕ → Seen
closed [] b = broken
closed (a ∷ brackets) b = if pairs a b then clear brackets else broken

-- one more byte: a run ends at the quote that began it, and a backslash may stand in runs only
unfoldable pub see : Seen → ℕ → Seen
see broken b = broken
see (quoted q brackets) b = if eqb b q then clear brackets else quoted q brackets
see (clear brackets) b =
    if b is "\"'" then quoted b brackets else
    if b is "([{" then clear (b ∷ brackets) else
    if b is ")]}" then closed brackets b else
    if b is "\\" then broken else clear brackets

unfoldable pub see_all : Seen → List ℕ → Seen
see_all x [] = x
see_all x (b ∷ bytes) = see_all (see x b) bytes

-- nothing is open, nothing wrong
unfoldable pub settled : Seen → Bool
settled (clear []) = true
settled (clear (a ∷ brackets)) = false
settled (quoted q brackets) = false
settled broken = false

-- MATCHED: outside quoted runs brackets match by kind and no backslash stands, and each run ends
unfoldable pub matched : List ℕ → Bool
matched bytes = settled (see_all (clear []) bytes)

-- each character is White_Space; the first `rest` bytes belong to the one before
unfoldable pub blank_after : (rest : ℕ) → List ℕ → Bool
blank_after rest [] = true
blank_after (suc rest) (b ∷ bytes) = blank_after rest bytes
blank_after zero (b ∷ bytes) = inside_any white_space (code (b ∷ bytes) 0) && blank_after (next (b ∷ bytes) 0 - 1) bytes

-- BLANK: each of its characters is Unicode's White_Space, if there are any
abbrev pub blank : List ℕ → Bool
blank bytes = blank_after 0 bytes

-- WITHOUT BRACES
unfoldable pub braceless : List ℕ → Bool
braceless [] = true
braceless (b ∷ bytes) = not (b is "{}") && braceless bytes
