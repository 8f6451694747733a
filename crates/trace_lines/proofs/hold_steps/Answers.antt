use borrow.Author.Rules.{rules}
use native.Mathlib.Omega.{arith}
use mathlib.Core.Path.{refl}
use Rattle.trace_lines.proofs.Holding.{held_none, held_more, in_set}
use Rattle.trace_lines.proofs.hold_steps.Goals as goal

pub loop-i-init : goal.loop-i-init
loop-i-init c = (held_none _ _ _ _ (c.requires.0), omega arith, omega arith, refl)

pub shape_of-held-then-k-ge-HELD_STEPS : goal.shape_of-held-then-k-ge-HELD_STEPS
shape_of-held-then-k-ge-HELD_STEPS c = c.loop-i.invariant.3

pub returns-then-k-ge-HELD_STEPS : goal.returns-then-k-ge-HELD_STEPS
returns-then-k-ge-HELD_STEPS c = c.loop-i.invariant.0

pub find_step-step-requires : goal.find_step-step-requires
find_step-step-requires c = (c.requires.1, c.loop-i-test.true, c.loop-i.invariant.2)

pub shape_of-held-in_default : goal.shape_of-held-in_default
shape_of-held-in_default c = c.loop-i.invariant.3

pub returns-in_default : goal.returns-in_default
returns-in_default c = c.loop-i.invariant.0

pub hold_step-requires : goal.hold_step-requires
hold_step-requires c =
    let x = c.find_step-step.ensures in let p = x.place in let a = p.1 in let b = p.2 in let c1 = p.3 in let d = p.4 in let e = p.5 in let f = x.record_is in let g = x.begins in let s = c.requires.1.1 in let t = c.requires.2 in let l = c.loop-i-test.true in let i = in_set c.in-Ok.is x.form in
    ((let h = c.if-k-ge-HELD_STEPS.false in omega arith), c.in-Ok.is, omega arith, omega arith, omega arith, omega arith, omega arith, i.short, i.width)

pub overflow_add-k : goal.overflow_add-k
overflow_add-k c = let h = c.if-k-ge-HELD_STEPS.false in omega arith

pub loop-i-smaller : goal.loop-i-smaller
loop-i-smaller c = let p = c.find_step-step.ensures.place in let a = p.1 in let b = p.2 in omega arith

pub loop-i-preserved : goal.loop-i-preserved
loop-i-preserved c =
    let p = c.find_step-step.ensures.place in
    (held_more _ _ _ _ _ (c.loop-i.invariant.0) (let h = c.if-k-ge-HELD_STEPS.false in omega arith) _ _ _ _ c.find_step-step.ensures c.hold_step.ensures, p.2, p.5, (let l = c.loop-i.invariant.3 in search rules))

pub shape_of-held : goal.shape_of-held
shape_of-held c = c.loop-i.invariant.3

pub returns : goal.returns
returns c = c.loop-i.invariant.0
