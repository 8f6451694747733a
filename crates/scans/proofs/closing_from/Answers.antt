use native.Mathlib.Omega.{arith}
use Rattle.scans.proofs.Closings.{past_fails, going_starts, ends_over, ends_closes, ends_breaks, goes_takes, goes_plain}
use Rattle.scans.proofs.closing_from.Goals as goal

pub returns-then-s-from : goal.returns-then-s-from
returns-then-s-from c = past_fails _ _ _ _ c.if-s-from.true

pub loop-at-init : goal.loop-at-init
loop-at-init c = (c.third-third.ensures, going_starts _ _ _ _ c.if-s-from.false)

pub returns-in-Over : goal.returns-in-Over
returns-in-Over c = ends_over _ _ _ _ _ _ _ c.loop-at.invariant.1 c.loop-at.invariant.0 c.first_of-to.ensures (rw c.in-Over.is at c.body_case.ensures)

pub overflow_add-at : goal.overflow_add-at
overflow_add-at c = let l = goes_takes _ _ _ _ _ _ _ c.loop-at.invariant.1 c.loop-at.invariant.0 c.first_of-to.ensures (rw c.in-Takes.is at c.body_case.ensures) in omega (arith, l.0)

pub loop-at-smaller-in-Takes : goal.loop-at-smaller-in-Takes
loop-at-smaller-in-Takes c = let l = goes_takes _ _ _ _ _ _ _ c.loop-at.invariant.1 c.loop-at.invariant.0 c.first_of-to.ensures (rw c.in-Takes.is at c.body_case.ensures) in omega (arith, l.0, c.first_of-to.ensures)

pub loop-at-preserved-in-Takes : goal.loop-at-preserved-in-Takes
loop-at-preserved-in-Takes c = (c.loop-at.invariant.0, (goes_takes _ _ _ _ _ _ _ c.loop-at.invariant.1 c.loop-at.invariant.0 c.first_of-to.ensures (rw c.in-Takes.is at c.body_case.ensures)).1)

pub returns-in-Closes : goal.returns-in-Closes
returns-in-Closes c = ends_closes _ _ _ _ _ _ _ c.loop-at.invariant.1 c.loop-at.invariant.0 c.first_of-to.ensures (rw c.in-Closes.is at c.body_case.ensures)

pub returns-in-Breaks : goal.returns-in-Breaks
returns-in-Breaks c = ends_breaks _ _ _ _ _ _ _ c.loop-at.invariant.1 c.loop-at.invariant.0 c.first_of-to.ensures (rw c.in-Breaks.is at c.body_case.ensures)

pub overflow_add-at-in-Plain : goal.overflow_add-at-in-Plain
overflow_add-at-in-Plain c = let l = goes_plain _ _ _ _ _ _ _ c.loop-at.invariant.1 c.loop-at.invariant.0 c.first_of-to.ensures (rw c.in-Plain.is at c.body_case.ensures) in omega (arith, l.0)

pub loop-at-smaller : goal.loop-at-smaller
loop-at-smaller c = let l = goes_plain _ _ _ _ _ _ _ c.loop-at.invariant.1 c.loop-at.invariant.0 c.first_of-to.ensures (rw c.in-Plain.is at c.body_case.ensures) in omega (arith, l.0, c.first_of-to.ensures)

pub loop-at-preserved : goal.loop-at-preserved
loop-at-preserved c = (c.loop-at.invariant.0, (goes_plain _ _ _ _ _ _ _ c.loop-at.invariant.1 c.loop-at.invariant.0 c.first_of-to.ensures (rw c.in-Plain.is at c.body_case.ensures)).1)
