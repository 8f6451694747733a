use Rattle.formed.proofs.Goods.{NoneYet}
use Rattle.formed.proofs.no_bytes.Given as goal

abbrev pub invariant-loop-i : goal.invariant-loop-i
invariant-loop-i l = NoneYet l.words l.count l.i
