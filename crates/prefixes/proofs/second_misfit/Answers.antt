use borrow.Author.Tests.{eq-eqb, ltb-false, leb-false}
use native.Mathlib.Omega.{arith}
use Rattle.prefixes.proofs.Fitting.{not_both}
use Rattle.prefixes.proofs.second_misfit.Goals as goal

pub returns : goal.returns
returns c =
    λ e. let last = c.max.ensures in
    let high = c.max-high.ensures in
    let low = c.max-low.ensures in
    record {
      e0 = not_both _ _ (eq-eqb _ _) (ltb-false _ _) (c.both.ensures (omega arith));
      f0 = not_both _ _ (eq-eqb _ _) (ltb-false _ _) (c.both-2.ensures (omega arith));
      ed = not_both _ _ (eq-eqb _ _) (leb-false _ _) (c.both-3.ensures (omega arith));
      f4 = not_both _ _ (eq-eqb _ _) (leb-false _ _) (c.both-4.ensures (omega arith));
    }
