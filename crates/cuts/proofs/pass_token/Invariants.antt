use Rattle.cuts.proofs.Checking.{Passing}
use Rattle.cuts.proofs.pass_token.Given as goal

abbrev pub invariant-loop-k : goal.invariant-loop-k
invariant-loop-k l = Passing l.s l.i l.j l.cuts l.from l.flag l.k l.differs
