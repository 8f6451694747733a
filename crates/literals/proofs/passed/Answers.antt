use native.Mathlib.Omega.{arith}
use mathlib.Core.Path.{refl}
use Rattle.literals.proofs.Passing.{ends_other, goes_space, goes_comment}
use Rattle.literals.proofs.passed.Goals as goal

pub loop-at-init : goal.loop-at-init
loop-at-init c = record { within = c.requires; same = refl }

pub overflow_add-at : goal.overflow_add-at
overflow_add-at c = let l = goes_space _ _ _ c.loop-at.invariant (rw c.in-Space.is at c.blank_case.ensures) in omega (arith, l.0)

pub loop-at-smaller-in-Space : goal.loop-at-smaller-in-Space
loop-at-smaller-in-Space c = let l = goes_space _ _ _ c.loop-at.invariant (rw c.in-Space.is at c.blank_case.ensures) in omega (arith, l.0)

pub loop-at-preserved-in-Space : goal.loop-at-preserved-in-Space
loop-at-preserved-in-Space c = (goes_space _ _ _ c.loop-at.invariant (rw c.in-Space.is at c.blank_case.ensures)).1

pub loop-at-smaller : goal.loop-at-smaller
loop-at-smaller c = let l = goes_comment _ _ _ c.loop-at.invariant _ c.line_end-at.ensures (rw c.in-Comment.is at c.blank_case.ensures) in omega (arith, l.0, l.1.within)

pub loop-at-preserved : goal.loop-at-preserved
loop-at-preserved c = (goes_comment _ _ _ c.loop-at.invariant _ c.line_end-at.ensures (rw c.in-Comment.is at c.blank_case.ensures)).1

pub returns-in-Other : goal.returns-in-Other
returns-in-Other c = ends_other _ _ _ c.loop-at.invariant (rw c.in-Other.is at c.blank_case.ensures)
