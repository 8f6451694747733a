use Rattle.std.proofs.Common.{eq-eqb, ne_eqb}
use Rattle.definition.specs.Rows.{reason}
use Rattle.records.proofs.rows.reason_of.Goals as goal

pub returns-then-bang-ne0 : goal.returns-then-bang-ne0
unfolding reason
returns-then-bang-ne0 c = λ close. rw (ne_eqb _ _ c.if-bang-ne0.true)

pub returns-then-equals-eq0 : goal.returns-then-equals-eq0
unfolding reason
returns-then-equals-eq0 c = let b = eq-eqb _ _ c.if-bang-ne0.false in λ close. rw (eq-eqb _ _ c.if-equals-eq0.true, b)

pub returns-then-colon-eq0 : goal.returns-then-colon-eq0
unfolding reason
returns-then-colon-eq0 c = λ close. rw (c.if-bang-ne0.false, ne_eqb _ _ c.if-equals-eq0.false, eq-eqb _ _ c.if-colon-eq0.true)

pub returns-else-colon-eq0 : goal.returns-else-colon-eq0
unfolding reason
returns-else-colon-eq0 c = λ close. rw (c.if-bang-ne0.false, ne_eqb _ _ c.if-equals-eq0.false, ne_eqb _ _ c.if-colon-eq0.false)
