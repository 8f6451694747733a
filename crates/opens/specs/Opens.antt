-- The open specs as the code keeps them.
use Rattle.std.specs.Prelude.{ℕ, zero, suc, Bool, List, [], ◌∷◌, eqb, if◌then◌else◌}
use Rattle.definition_written.specs.Written.{Where, top, early, late}
use Rattle.definition_written.specs.Passes.{Open, opened}
use Rattle.opens.specs.declared.Opens.{Opens}

-- where a spec's text stands, by whether a field came
abbrev pub place : Bool → Where
place b = if b then late else early

abbrev pub where_of : (depth : ℕ) → Bool → Where
where_of d b = if eqb d 0 then top else place b

unfoldable pub list_of : (depth left : ℕ) (late : Bool) (outer : ℕ) (behind : Bool) → List Open
list_of zero l b m c = []
list_of (suc zero) l b m c = opened l (place b) ∷ []
list_of (suc (suc d)) l b m c = opened l (place b) ∷ opened m (place c) ∷ []

abbrev pub os_of : Opens → List Open
os_of o = list_of o.depth o.left o.late o.outer o.behind
