use mathlib.Core.Path.{◌≡◌}
use Prim.Native.Nat.{◌-◌}
use lib.ListN.{length}
use Rattle.literals.proofs.Listings.{Running}
use Rattle.literals.proofs.list_run.Given as goal

abbrev pub invariant-loop-l : goal.invariant-loop-l
invariant-loop-l l = (length l.numbers ≡ length l.initial.numbers) × Running l.s l.from l.initial.numbers l.numbers l.count l.end l.at

abbrev pub decreases-loop-l : goal.decreases-loop-l
decreases-loop-l l = length l.s - l.at
