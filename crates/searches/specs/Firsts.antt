-- Where the first of three bytes stands.
use Rattle.std.specs.Prelude.{ℕ, ◌+◌, Bool, ◌||◌, List, eqb, drop}
use Rattle.definition.specs.Chars.{before}

-- a byte is one of three
abbrev pub one_of : ℕ → ℕ → ℕ → ℕ → Bool
one_of a b c x = eqb x a || (eqb x b || eqb x c)

-- the first place of one from i on; the end, or i past it, where there is none
abbrev pub first_of : ℕ → ℕ → ℕ → List ℕ → ℕ → ℕ
first_of a b c s i = i + before (one_of a b c) (drop i s)
