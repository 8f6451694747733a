use Rattle.integers.proofs.Joined.{inner_all, inner_none}
use Rattle.integers.proofs.inner_of.Goals as goal

pub returns-then-align-eq61 : goal.returns-then-align-eq61
returns-then-align-eq61 c = inner_all _ _ c.if-align-eq61.true

pub returns-else-align-eq61 : goal.returns-else-align-eq61
returns-else-align-eq61 c = inner_none _ _ c.if-align-eq61.false
