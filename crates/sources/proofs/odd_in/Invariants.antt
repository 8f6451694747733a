use Prim.Native.Nat.{◌-◌}
use Rattle.sources.proofs.Odds.{Odding}
use Rattle.sources.proofs.odd_in.Given as goal

abbrev pub invariant-loop-l : goal.invariant-loop-l
invariant-loop-l l = Odding l.s l.from l.end l.at

abbrev pub decreases-loop-l : goal.decreases-loop-l
decreases-loop-l l = l.end - l.at
