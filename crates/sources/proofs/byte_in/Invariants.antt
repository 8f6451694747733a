use lib.Dec.{eqb}
use Rattle.sources.proofs.Odds.{Scanning}
use Rattle.sources.proofs.byte_in.Given as goal

abbrev pub invariant-loop-i : goal.invariant-loop-i
invariant-loop-i l = Scanning (λ x. eqb x l.b) l.s l.from l.end l.i
