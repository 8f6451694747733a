use Rattle.std.proofs.Common.{eq-eqb, ne_eqb}
use Rattle.records.specs.Written.{spec_text}
use Rattle.records.proofs.spec_text.Goals as goal

pub returns-then-k-to : goal.returns-then-k-to
unfolding spec_text
returns-then-k-to c = rw (eq-eqb _ _ c.if-k-to.true)

pub returns : goal.returns
unfolding spec_text
returns c = rw (ne_eqb _ _ c.if-k-to.false) c.put_inner.ensures
