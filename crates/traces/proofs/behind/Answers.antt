use native.Mathlib.Omega.{arith}
use Rattle.traces.proofs.Reading.{behind_end, behind_comma, behind_other, behind_alone, behind_apart, behind_line}
use Rattle.traces.proofs.behind.Goals as goal
use Rattle.traces.proofs.behind.Goals.{else-s-at-eq13-via-then-s-at-eq13+then-at-s+else-s-at-eq10, else-s-at-eq13-via-then-s-at-eq13+else-at-s, else-s-at-eq13-via-else-s-at-eq13}

pub returns-then-s-at : goal.returns-then-s-at
returns-then-s-at c = (behind_end _ _ c.if-s-at.true, omega arith, c.requires)

pub returns-then-s-at-eq44 : goal.returns-then-s-at-eq44
returns-then-s-at-eq44 c = (behind_comma _ _ c.if-s-at.false c.if-s-at-eq44.true, omega arith, omega arith)

pub returns-then-s-at-eq10 : goal.returns-then-s-at-eq10
returns-then-s-at-eq10 c = (behind_line _ _ c.if-s-at.false c.if-s-at-eq44.false c.if-at-s.true c.if-s-at-eq13.true c.if-s-at-eq10.true, omega arith, omega arith)

pub returns : goal.returns
returns c = (
  elim c.else-s-at-eq13.branch [
    | else-s-at-eq13-via-then-s-at-eq13+then-at-s+else-s-at-eq10 w ↦ behind_apart _ _ c.if-s-at.false c.if-s-at-eq44.false w.if-at-s.true w.if-s-at-eq10.false
    | else-s-at-eq13-via-then-s-at-eq13+else-at-s w ↦ behind_alone _ _ c.if-s-at.false c.if-s-at-eq44.false w.if-at-s.false
    | else-s-at-eq13-via-else-s-at-eq13 w ↦ behind_other _ _ c.if-s-at.false c.if-s-at-eq44.false w.if-s-at-eq13.false
  ],
  omega arith,
  c.requires,
)
