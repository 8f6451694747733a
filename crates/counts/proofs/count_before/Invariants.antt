use Prim.Native.Nat.{◌-◌}
use lib.ListN.{length}
use Rattle.definition_laws.proofs.Moves.Counted.{Counting}
use Rattle.counts.specs.Counts.{count_of}
use Rattle.counts.proofs.count_before.Given as goal

abbrev pub invariant-loop-at : goal.invariant-loop-at
invariant-loop-at l = Counting l.s l.place l.at (count_of l.k)

abbrev pub decreases-loop-at : goal.decreases-loop-at
decreases-loop-at l = length l.s - l.at
