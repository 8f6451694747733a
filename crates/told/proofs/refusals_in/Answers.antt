use borrow.Author.Rules.{rules}
use native.Mathlib.Omega.{arith}
use Rattle.told.proofs.Rows.{refusals_start, refusals_next, refusals_done}
use Rattle.told.proofs.refusals_in.Goals as goal

pub loop-i-init : goal.loop-i-init
loop-i-init c = (omega arith, refusals_start _ _)

pub overflow_add-n : goal.overflow_add-n
overflow_add-n c = let k = c.loop-i.invariant.0 in let m = c.refusal-n.ensures.1 in search rules

pub loop-i-preserved : goal.loop-i-preserved
loop-i-preserved c = let k = c.loop-i.invariant.0 in let m = c.refusal-n.ensures.1 in (omega arith, refusals_next _ _ _ _ _ c.loop-i-test.true (c.refusal-n.ensures.0) (c.loop-i.invariant.1))

pub returns : goal.returns
returns c = refusals_done _ _ _ _ c.loop-i-test.false c.loop-i.invariant.1
