use Prim.Native.Nat.{◌≤◌}
use Rattle.gaps.specs.Gaps.{Skips}
use Rattle.gaps.proofs.near.Given as goal

abbrev pub invariant-loop-i : goal.invariant-loop-i
invariant-loop-i l = (l.i ≤ l.to) × Skips l.s l.at l.i
