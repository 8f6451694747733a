use borrow.Author.Rules.{rules}
use native.Mathlib.Omega.{arith}
use Rattle.trace_lines.proofs.Holding.{held_is}
use Rattle.trace_lines.proofs.step_at.Goals as goal

pub find_step-requires : goal.find_step-requires
find_step-requires c = (c.requires.1, c.requires.2, c.requires.3)

pub returns-then-steps-k : goal.returns-then-steps-k
returns-then-steps-k c = c.find_step.ensures

pub overflow_mul-from : goal.overflow_mul-from
overflow_mul-from c = let f = c.requires.0.few in let l = c.if-steps-k.false in omega arith

pub overflow_add-to : goal.overflow_add-to
overflow_add-to c = let f = c.requires.0.few in let l = c.if-steps-k.false in omega arith

pub offset_bounds-held-from : goal.offset_bounds-held-from
offset_bounds-held-from c = let f = c.requires.0.few in let l = c.if-steps-k.false in let r = c.requires.0.room in search rules

pub slice_bounds-held_step-count : goal.slice_bounds-held_step-count
slice_bounds-held_step-count c = let f = c.requires.0.few in let l = c.if-steps-k.false in let r = c.requires.0.room in omega arith

pub slice_bounds-held_step-start : goal.slice_bounds-held_step-start
slice_bounds-held_step-start c = let f = c.requires.0.few in let l = c.if-steps-k.false in let r = c.requires.0.room in omega arith

pub slice_bounds-held_step-end : goal.slice_bounds-held_step-end
slice_bounds-held_step-end c = let f = c.requires.0.few in let l = c.if-steps-k.false in let r = c.requires.0.room in omega arith

pub held_step-step-requires : goal.held_step-step-requires
held_step-step-requires c = let f = c.requires.0.few in let l = c.if-steps-k.false in let r = c.requires.0.room in search rules

pub find_step-requires-then-step-i : goal.find_step-requires-then-step-i
find_step-requires-then-step-i c = (c.requires.1, c.requires.2, c.requires.3)

pub returns-then-step-i : goal.returns-then-step-i
returns-then-step-i c = c.find_step-then-step-i.ensures

pub returns : goal.returns
returns c = held_is _ _ _ _ _ c.args.k (c.requires.0) (let l = c.if-steps-k.false in omega arith) c.held_step-step.ensures _ _ c.if-step-i.false c.if-step-at.false
