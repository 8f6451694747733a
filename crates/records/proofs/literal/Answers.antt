use Rattle.std.proofs.Common.{ap, eq-eqb, ne_eqb}
use Rattle.records.specs.Written.{literal, written}
use Rattle.records.proofs.literal.Goals as goal

pub returns-then-nested-eq0 : goal.returns-then-nested-eq0
unfolding literal
returns-then-nested-eq0 c = rw (eq-eqb _ _ c.if-nested-eq0.true) (ap (written _) c.hold.ensures)

pub returns : goal.returns
unfolding literal
returns c = rw (ne_eqb _ _ c.if-nested-eq0.false, ← c.close_held-a.ensures) c.put_inner.ensures
