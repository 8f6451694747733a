use Rattle.std.proofs.Common.{eq-eqb, ne_eqb}
use Rattle.wholes.proofs.u_mark.Goals as goal

pub returns-then-kind-eq6 : goal.returns-then-kind-eq6
returns-then-kind-eq6 c = rw (eq-eqb _ _ c.if-kind-eq6.true)

pub returns-else-kind-eq6 : goal.returns-else-kind-eq6
returns-else-kind-eq6 c = rw (ne_eqb _ _ c.if-kind-eq6.false)
