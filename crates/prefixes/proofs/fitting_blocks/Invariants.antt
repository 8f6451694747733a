use Prim.Native.Nat.{◌-◌}
use lib.ListN.{length}
use Rattle.prefixes.specs.Fits.{Fitting}
use Rattle.prefixes.proofs.fitting_blocks.Given as goal

abbrev pub invariant-loop-i : goal.invariant-loop-i
invariant-loop-i l = Fitting l.s l.at l.i

abbrev pub decreases-loop-i : goal.decreases-loop-i
decreases-loop-i l = length l.s - l.i
