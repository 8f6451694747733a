use Prim.Native.Nat.{◌-◌}
use lib.ListN.{length}
use Rattle.gaps.specs.Gaps.{Skips}
use Rattle.found.proofs.next_literal.Given as goal

abbrev pub invariant-loop-at : goal.invariant-loop-at
invariant-loop-at l = Skips l.script l.from l.at

abbrev pub decreases-loop-at : goal.decreases-loop-at
decreases-loop-at l = length l.script - l.at
