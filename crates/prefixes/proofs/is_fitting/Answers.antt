use borrow.Author.Tests.{eqb-true}
use native.Mathlib.Omega.{arith}
use Rattle.prefixes.proofs.Fitting.{all_none, all_more}
use Rattle.prefixes.proofs.is_fitting.Goals as goal

pub loop-i-init : goal.loop-i-init
loop-i-init c = λ e. let a = c.args in all_none a.s.now a.from a.from (omega arith)

pub loop-i-preserved : goal.loop-i-preserved
loop-i-preserved c =
    λ e. let a = c.args in
    let g = c.max-most.ensures in
    all_more a.s.now a.from c.loop-i.i (omega (arith, c.loop-i-test.true)) (c.loop-i.invariant (omega arith)) (c.misfit.ensures (omega arith))

pub returns : goal.returns
returns c = λ t k h l. c.loop-i.invariant (eqb-true _ _ t) k h (omega (arith, c.loop-i-test.false))
