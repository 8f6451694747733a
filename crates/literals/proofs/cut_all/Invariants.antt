use mathlib.Core.Path.{◌≡◌}
use Prim.Native.Nat.{◌-◌}
use lib.ListN.{length}
use Rattle.literals.proofs.Listings.{Cutting}
use Rattle.literals.proofs.cut_all.Given as goal

abbrev pub invariant-loop-found : goal.invariant-loop-found
invariant-loop-found l = (length l.numbers ≡ length l.initial.numbers) × Cutting l.s l.initial.numbers l.numbers l.count l.at

abbrev pub decreases-loop-found : goal.decreases-loop-found
decreases-loop-found l = length l.s - l.at
