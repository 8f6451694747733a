use borrow.Author.Rules.{rules}
use native.Mathlib.Omega.{arith}
use Rattle.prefixes.proofs.Fitting.{fitting_none, fitting_on}
use Rattle.prefixes.proofs.fitting_blocks.Goals as goal

pub loop-i-init : goal.loop-i-init
loop-i-init c = fitting_none _ _ (search rules)

pub overflow_sub-s : goal.overflow_sub-s
overflow_sub-s c = omega (arith, c.loop-i.invariant.within)

pub loop-i-preserved : goal.loop-i-preserved
loop-i-preserved c = fitting_on _ _ c.loop-i.i _ c.loop-i.invariant (c.is_fitting_block.ensures c.if-is_fitting_block.true) (omega arith) (search rules)
