use Prim.Native.Nat.{◌+◌, ◌-◌, ◌*◌}
use lib.ListN.{length}
use Rattle.plans.proofs.Planning.{Planning}
use Rattle.plans.proofs.plan_into.Given as goal

abbrev pub invariant-loop-i : goal.invariant-loop-i
invariant-loop-i l = Planning l.s l.limit l.initial.list l.list l.start l.i l.n l.plain

-- bytes that are left, from here on and from the piece's start on, and whether a run is to be found
abbrev pub decreases-loop-i : goal.decreases-loop-i
decreases-loop-i l = 2 * (length l.s - l.i + (length l.s - l.start)) + (1 - (l.plain - l.i))
