use borrow.Author.Tests.{le-leb, ltb-false, leb-false}
use native.Mathlib.Omega.{arith}
use mathlib.Core.Path.{sym, ◌∙◌}
use Rattle.prefixes.proofs.Fitting.{not_both}
use Rattle.prefixes.proofs.misfit.Goals as goal

pub returns : goal.returns
returns c =
    λ e. let last = c.max-2.ensures in
    let first = c.max.ensures in
    let never = c.max-never.ensures in
    record {
      goes_on = sym c.is_due.ensures ∙ (c.differ-open.ensures (omega arith) ∙ c.is_trail.ensures);
      not_c0 = not_both _ _ (le-leb _ _) (ltb-false _ _) (c.both.ensures (omega arith));
      small = not_both _ _ (le-leb _ _) (leb-false _ _) (c.both-2.ensures (omega arith));
      second = c.second_misfit.ensures (omega arith);
    }
