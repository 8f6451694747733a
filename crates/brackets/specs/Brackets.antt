-- The open brackets of a field, as they lie in places.
use Rattle.std.specs.Prelude.{ℕ, zero, suc, ◌-◌, ◌/◌, ◌%◌, ◌||◌, List, [], ◌∷◌, eqb, ltb, get_or, if◌then◌else◌}
use Rattle.definition.specs.Body.{Bracket}
use Rattle.brackets.specs.declared.Opener.{Opener}

-- a bracket and the bytes taken just after it, as one number
abbrev pub unpacked : ℕ → Bracket
unpacked n = record { bracket = n % 256; taken = n / 256 }

-- the open brackets, innermost first: the first n of the places
unfoldable pub brackets : ℕ → List ℕ → List Bracket
brackets zero places = []
brackets (suc n) places = unpacked (get_or places n 0) ∷ brackets n places

abbrev pub bracket_of : Opener → Bracket
bracket_of o = record { bracket = o.bracket; taken = o.taken }

-- the first of them; zeros for none, and for more than there are places
abbrev pub innermost_of : ℕ → List ℕ → Bracket
innermost_of depth places = if eqb depth 0 || ltb 64 depth then record { bracket = 0; taken = 0 } else unpacked (get_or places (depth - 1) 0)
