use Rattle.offsets.proofs.Rising.{rising, risen, not_after, not_inside, rise_on}
use Rattle.offsets.proofs.rises.Goals as goal
use Rattle.offsets.proofs.rises.Goals.{then-c-from-via-then-c-from, then-c-from-via-else-c-from+then-s-c}

pub loop-cut-init : goal.loop-cut-init
loop-cut-init c = rising _ _

pub returns-then-c-from : goal.returns-then-c-from
returns-then-c-from c = elim c.then-c-from.branch [
  | then-c-from-via-then-c-from w ↦ not_after _ _ _ _ c.loop-cut.invariant c.loop-cut-test.true (rw c.wide-c.ensures at w.if-c-from.true)
  | then-c-from-via-else-c-from+then-s-c w ↦ not_inside _ _ _ _ c.loop-cut.invariant c.loop-cut-test.true (rw c.wide-c.ensures at w.if-c-from.false) (rw c.wide-c.ensures at w.if-s-c.true)
]

pub loop-cut-preserved : goal.loop-cut-preserved
loop-cut-preserved c = rw (c.wide-c.ensures) (rise_on _ _ _ _ (c.loop-cut.invariant) (c.loop-cut-test.true) (rw (c.wide-c.ensures) at (c.if-c-from.false)) (rw (c.wide-c.ensures) at (c.if-s-c.false)))

pub returns : goal.returns
returns c = risen _ _ _ _ (c.loop-cut.invariant) (c.loop-cut-test.false)
