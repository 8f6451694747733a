use Prim.Native.Nat.{◌-◌}
use Rattle.revisions.proofs.Running.{FrontInv}
use Rattle.revisions.proofs.front_of.Given as goal

abbrev pub invariant-loop-i : goal.invariant-loop-i
invariant-loop-i l = FrontInv l.words l.text l.count l.others l.other l.total l.items l.i l.j

abbrev pub decreases-loop-i : goal.decreases-loop-i
decreases-loop-i l = l.count - l.i
