use Rattle.std.proofs.Common.{ap, eq-eqb, ne_eqb}
use Rattle.records.specs.Written.{ended, literal, written}
use Rattle.records.proofs.end_text.Goals as goal

pub returns-then-k-to : goal.returns-then-k-to
unfolding ended literal
returns-then-k-to c = rw (eq-eqb _ _ c.if-k-to.true)

pub returns-then-nested-eq0 : goal.returns-then-nested-eq0
unfolding ended literal
returns-then-nested-eq0 c = rw (ne_eqb _ _ c.if-k-to.false, eq-eqb _ _ c.if-nested-eq0.true) (ap (written _) c.hold.ensures)

pub returns : goal.returns
unfolding ended literal
returns c = let e = rw (c.frame_again.ensures, c.sink_again.ensures) at c.literal.ensures in rw (ne_eqb _ _ c.if-k-to.false) e
