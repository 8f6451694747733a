use Rattle.integers.proofs.Placed.{come_none, come_some}
use Rattle.integers.proofs.come_after.Goals as goal

pub returns-then-come-eq0 : goal.returns-then-come-eq0
returns-then-come-eq0 c = come_none _ _ c.if-come-eq0.true

pub returns-else-come-eq0 : goal.returns-else-come-eq0
returns-else-come-eq0 c = come_some _ _ c.if-come-eq0.false
