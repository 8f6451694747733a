-- The numbers of an index.
use Rattle.std.specs.Prelude.{ℕ, List, [], ◌∷◌, Result, Ok, Err}

-- the paper's numbers of an index
abbrev pub index_says : Result ℕ ℕ → List ℕ
index_says (Ok n) = 0 ∷ n ∷ []
index_says (Err n) = n ∷ []
