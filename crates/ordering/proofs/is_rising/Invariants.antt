use Rattle.std.proofs.Common.{◌-◌}
use Rattle.ordering.proofs.Rises.{Risen}
use Rattle.ordering.proofs.is_rising.Given as goal

abbrev pub invariant-loop-k : goal.invariant-loop-k
invariant-loop-k l = Risen l.file l.list (l.k - 1)
