use Prim.Native.Nat.{◌≤◌}
use Rattle.plans.specs.Answers.{Tails}
use Rattle.plans.proofs.start_at.Given as goal

abbrev pub invariant-loop-i : goal.invariant-loop-i
invariant-loop-i l = (l.from ≤ l.i) × (l.i ≤ l.at) × Tails l.s l.i l.at

abbrev pub decreases-loop-i : goal.decreases-loop-i
decreases-loop-i l = l.i
