-- A row's ten numbers.
use Rattle.std.specs.Prelude.{ℕ, List, [], ◌∷◌}
use Rattle.row_numbers.specs.declared.Row.{Row}

-- in the order of the definition's rows
abbrev pub numbers_of : Row → List ℕ
numbers_of r =
    r.reason ∷ r.start ∷ r.place ∷ r.expression ∷ r.conversion ∷ r.equals ∷ r.bang ∷ r.colon ∷ r.close ∷ r.within ∷ []
