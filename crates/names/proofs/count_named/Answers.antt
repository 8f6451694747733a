use Rattle.names.proofs.Counting.{count_end}
use Rattle.names.proofs.count_named.Goals as goal

pub returns : goal.returns
returns c = count_end _ _ _ c.loop-at.invariant c.loop-at-test.false
