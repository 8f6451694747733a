use Rattle.checks.proofs.OnePass.{Going}
use Rattle.checks.proofs.pass_all.Given as goal

abbrev pub invariant-loop-i : goal.invariant-loop-i
invariant-loop-i l = Going l.script l.numbers l.count l.other l.ended l.left l.chars l.i
