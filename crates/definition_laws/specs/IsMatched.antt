-- WHAT MATCHED TEXT IS, as a grammar: nothing is counted or kept, and nothing of the reader is used.
use Rattle.std.specs.Prelude.{ℕ, ◌≡◌, Bool, true, false, ◌&&◌, not, List, [], ◌∷◌, ◌++◌, eqb}
use Rattle.definition.specs.Chars.{◌is◌}
use Rattle.definition.specs.Matched.{pairs}

-- a byte that is no quote, no bracket and no backslash
abbrev pub Calm : ℕ → Type 0
Calm b = ((b is "\"'") ≡ false) × ((b is "([{") ≡ false) × ((b is ")]}") ≡ false) × ((b is "\\") ≡ false)

-- no byte is q
unfoldable pub lacks : ℕ → List ℕ → Bool
lacks q [] = true
lacks q (b ∷ bytes) = not (eqb b q) && lacks q bytes

-- MATCHED TEXT is nothing, or has first a calm byte, a quoted run, or matched text between two brackets of a kind, and then matched text
pub data IsMatched : List ℕ → Type 0 where
  none : IsMatched []
  calm : (b : ℕ) (s : List ℕ) → Calm b → IsMatched s → IsMatched (b ∷ s)
  run : (q : ℕ) (t s : List ℕ) → (q is "\"'") ≡ true → lacks q t ≡ true → IsMatched s → IsMatched (q ∷ (t ++ (q ∷ s)))
  bracketed : (a b : ℕ) (t s : List ℕ) → pairs a b ≡ true → IsMatched t → IsMatched s → IsMatched (a ∷ (t ++ (b ∷ s)))
