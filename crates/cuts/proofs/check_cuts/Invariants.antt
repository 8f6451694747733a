use Prim.Native.Nat.{◌+◌, ◌-◌, ◌*◌}
use lib.ListN.{length}
use Rattle.cuts.proofs.Checking.{Checking}
use Rattle.cuts.proofs.check_cuts.Given as goal

abbrev pub invariant-loop-i : goal.invariant-loop-i
invariant-loop-i l = Checking l.s l.cuts l.i l.k l.differs l.plain

-- bytes and cuts that are left, and whether a run is to be found
abbrev pub decreases-loop-i : goal.decreases-loop-i
decreases-loop-i l = 2 * (length l.s - l.i + (length l.cuts - l.k)) + (1 - (l.plain - l.i))
