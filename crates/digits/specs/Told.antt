-- Digits as a number of 32 bits.
use Rattle.std.specs.Prelude.{ℕ, ◌+◌, ◌-◌, ◌*◌, min, List, [], ◌∷◌, eqb, if◌then◌else◌}

-- after a digit more
unfoldable pub more_told : (told d : ℕ) → ℕ
more_told told d = min ((told - 1) * 10 + (d - 48) + 1) 0xFFFFFFFF

unfoldable pub told_from : ℕ → List ℕ → ℕ
told_from t [] = t
told_from t (d ∷ ds) = told_from (more_told t d) ds

-- a value after a digit more, cut off
unfoldable pub more_value : (value d : ℕ) → ℕ
more_value value d = min (value * 10 + (d - 48)) 0xFFFFFFFE

-- what is told of digits of a value from one index up to another
unfoldable pub told_at : (value at next : ℕ) → ℕ
told_at value at next = if eqb next at then 0 else value + 1
