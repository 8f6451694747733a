use Prim.Native.Nat.{◌-◌, suc}
use lib.ListN.{length}
use Rattle.traces.proofs.Scanning.{Scanning}
use Rattle.traces.proofs.check_row.Given as goal

abbrev pub invariant-loop-i : goal.invariant-loop-i
invariant-loop-i l = Scanning l.s l.at l.fields l.i l.count l.fits

abbrev pub decreases-loop-i : goal.decreases-loop-i
decreases-loop-i l = suc (length l.s) - l.i
