use borrow.Author.Rules.{rules}
use native.Mathlib.Omega.{arith}
use mathlib.Core.Path.{refl, ◌∙◌}
use Rattle.trace_lines.proofs.AllLines.{lines_start, lines_end, lines_stop, lines_next}
use Rattle.trace_lines.proofs.write_lines.Goals as goal

pub loop-next-init : goal.loop-next-init
loop-next-init c = (refl, lines_start _ _ _ _ _ _)

pub write_line-requires : goal.write_line-requires
write_line-requires c = (c.requires.0, c.requires.1, c.requires.2, (let l = c.min-from.ensures in omega arith), c.loop-next.invariant.1.inside)

pub returns-in_default : goal.returns-in_default
returns-in_default c = lines_stop _ _ _ _ c.args.fields _ _ _ _ _ (c.loop-next.invariant.1) c.loop-next-test.true c.min-from.ensures _ c.in_default.ensures (c.row_number.ensures ∙ c.check_row.ensures)

pub overflow_add-row : goal.overflow_add-row
overflow_add-row c = let f = c.loop-next.invariant.1.few in let l = c.loop-next-test.true in search rules

pub loop-next-smaller : goal.loop-next-smaller
loop-next-smaller c = let g = c.in-Some.ensures.1 in let l = c.in-Some.ensures.2 in omega arith

pub loop-next-preserved : goal.loop-next-preserved
loop-next-preserved c = ((let l = c.loop-next.invariant.0 in search rules), lines_next _ _ _ _ _ _ _ _ _ _ (c.loop-next.invariant.1) c.loop-next-test.true c.min-from.ensures _ c.in-Some.ensures)

pub shape_of-out : goal.shape_of-out
shape_of-out c = c.loop-next.invariant.0

pub returns : goal.returns
returns c = lines_end _ _ _ _ _ _ _ _ _ _ (c.loop-next.invariant.1) c.loop-next-test.false
