-- WHAT THE LINES OF A TRACE ARE, without a word of how they are made: of each row the template's text, and column k in its k-th field.
use Rattle.std.specs.Prelude.{ℕ, ◌≡◌, true, List, [], ◌∷◌, ◌++◌}
use Rattle.std.proofs.Math.Option.{Option, none, some}
use Rattle.definition_replay.specs.Integers.{Integer}
use Rattle.definition_replay.specs.IsInteger.{IsWritten}
use Rattle.definition_replay.specs.Replay.{Part, stands, column, all_in_range}

-- A LINE of a row: text as it stands, the integer's text for each field, in the end byte 10; no column is left, and none is missing
abbrev pub IsLine : List Part → List Integer → List ℕ → Type 0
IsLine [] [] t = t ≡ 10 ∷ []
IsLine [] (v ∷ vs) t = ⊥
IsLine (stands b ∷ ps) vs t = (rest : List ℕ) × (t ≡ b ++ rest) × IsLine ps vs rest
IsLine (column f ∷ ps) [] t = ⊥
IsLine (column f ∷ ps) (v ∷ vs) t = (word : List ℕ) × (rest : List ℕ) × (t ≡ word ++ rest) × IsWritten f v word × IsLine ps vs rest

-- THE LINES of rows, none of them broken and all numbers in range
abbrev pub AreLines : List Part → List (Option (List Integer)) → List (List ℕ) → Type 0
AreLines ps [] [] = Unit {0}
AreLines ps [] (l ∷ ls) = ⊥
AreLines ps (r ∷ rs) [] = ⊥
AreLines ps (none ∷ rs) (l ∷ ls) = ⊥
AreLines ps (some vs ∷ rs) (l ∷ ls) = IsLine ps vs l × (all_in_range vs ≡ true) × AreLines ps rs ls
