use Prim.Native.Nat.{◌-◌}
use lib.ListN.{length}
use Rattle.ascii.specs.Runs.{Ascii}
use Rattle.ascii.proofs.ascii_blocks.Given as goal

abbrev pub invariant-loop-i : goal.invariant-loop-i
invariant-loop-i l = Ascii l.s l.at l.i

abbrev pub decreases-loop-i : goal.decreases-loop-i
decreases-loop-i l = length l.s - l.i
