use borrow.Author.Rules.{rules}
use native.Mathlib.Omega.{arith}
use mathlib.Core.Path.{refl}
use Rattle.trace_lines.proofs.Lining.{length_part, line_start, line_refused, line_next, line_none, line_some}
use Rattle.trace_lines.proofs.write_line.Goals as goal

pub loop-i-init : goal.loop-i-init
loop-i-init c = (refl, line_start _ _ _ _ _ _ _ (c.requires.4), omega arith)

pub step_at-step-requires : goal.step_at-step-requires
step_at-step-requires c = (c.requires.0, c.requires.1, c.loop-i-test.true, c.loop-i.invariant.1.within)

pub slice_bounds-put_item-count : goal.slice_bounds-put_item-count
slice_bounds-put_item-count c = let q = c.step_at-step.ensures.place in let a = q.3 in omega arith

pub slice_bounds-put_item-start : goal.slice_bounds-put_item-start
slice_bounds-put_item-start c = let q = c.step_at-step.ensures.place in let a = q.3 in omega arith

pub slice_bounds-put_item-end : goal.slice_bounds-put_item-end
slice_bounds-put_item-end c = let q = c.step_at-step.ensures.place in let a = q.4 in let b = q.5 in omega arith

pub slice_bounds-put_item-count-in-loop-i : goal.slice_bounds-put_item-count-in-loop-i
slice_bounds-put_item-count-in-loop-i c = let q = c.step_at-step.ensures.place in let a = q.4 in omega arith

pub slice_bounds-put_item-start-in-loop-i : goal.slice_bounds-put_item-start-in-loop-i
slice_bounds-put_item-start-in-loop-i c = let q = c.step_at-step.ensures.place in let a = q.4 in omega arith

pub slice_bounds-put_item-end-in-loop-i : goal.slice_bounds-put_item-end-in-loop-i
slice_bounds-put_item-end-in-loop-i c = let q = c.step_at-step.ensures.place in let b = q.5 in omega arith

pub put_item-put-requires : goal.put_item-put-requires
put_item-put-requires c =
    let q = c.step_at-step.ensures.place in let a = q.4 in let b = q.5 in let f = c.loop-i.invariant.1.few in let e = c.loop-i.invariant.1.before_end in let w = c.loop-i.invariant.1.within in let s = c.requires.1.1 in let t = c.requires.2 in let r = c.requires.3 in
    (omega arith, (let l = length_part c.args.text.now c.loop-i.at c.step_at-step.result.item.own in omega arith), c.loop-i.invariant.1.inside, c.step_at-step.ensures.form)

pub returns-in-Nothing : goal.returns-in-Nothing
returns-in-Nothing c = line_refused _ _ _ _ _ _ _ _ _ _ _ _ _ (c.loop-i.invariant.1) c.loop-i-test.true _ c.step_at-step.ensures c.put_item-put.ensures c.in-Nothing.is

pub overflow_add-k : goal.overflow_add-k
overflow_add-k c = let b = c.loop-i.invariant.2 in let l = c.loop-i-test.true in let s = c.requires.1.1 in omega arith

pub loop-i-smaller : goal.loop-i-smaller
loop-i-smaller c = let q = c.step_at-step.ensures.place in let a = q.1 in let b = q.2 in omega arith

pub loop-i-preserved : goal.loop-i-preserved
loop-i-preserved c = ((let l = c.loop-i.invariant.0 in search rules), line_next _ _ _ _ _ _ _ _ _ _ _ _ _ (c.loop-i.invariant.1) c.loop-i-test.true _ c.step_at-step.ensures c.put_item-put.ensures c.in_default.not-Nothing, (let q = c.step_at-step.ensures.place in let a = q.1 in let b = c.loop-i.invariant.2 in omega arith))

pub overflow_add-result : goal.overflow_add-result
overflow_add-result c = let f = c.loop-i.invariant.1.few in let e = c.loop-i.invariant.1.before_end in let w = c.loop-i.invariant.1.within in let s = c.requires.1.1 in let t = c.requires.2 in let r = c.requires.3 in omega arith

pub returns-in-Comma : goal.returns-in-Comma
returns-in-Comma c = line_none _ _ _ _ _ _ _ _ _ _ _ _ _ (c.loop-i.invariant.1) c.loop-i-test.false c.in-Comma.is c.args.out.now

pub returns-in_default-ends : goal.returns-in_default-ends
returns-in_default-ends c = line_some _ _ _ _ _ _ _ _ _ _ _ _ _ (c.loop-i.invariant.1) c.loop-i-test.false c.put.ensures c.in_default-ends.not-Comma
