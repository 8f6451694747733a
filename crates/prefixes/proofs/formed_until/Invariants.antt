use Prim.Native.Nat.{◌-◌}
use lib.ListN.{length}
use Rattle.prefixes.specs.Formed.{Formed}
use Rattle.prefixes.proofs.formed_until.Given as goal

abbrev pub invariant-loop-at : goal.invariant-loop-at
invariant-loop-at l = Formed l.s l.at

abbrev pub decreases-loop-at : goal.decreases-loop-at
decreases-loop-at l = length l.s - l.at
