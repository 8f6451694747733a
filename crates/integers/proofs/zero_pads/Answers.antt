use mathlib.Core.Path.{◌∙◌}
use mathlib.Core.Logic.{inl, inr}
use borrow.Author.Tests.{ne_eqb}
use Rattle.integers.proofs.Joined.{pads_align, pads_size, pads_byte}
use Rattle.integers.proofs.zero_pads.Goals as goal
use Rattle.integers.proofs.zero_pads.Goals.{then-align-eq61, else-align-eq61}

pub returns-then-fill-eq1 : goal.returns-then-fill-eq1
returns-then-fill-eq1 c = pads_byte _ c.args.align c.if-fill-eq1.true.0 c.if-fill-eq1.true.1

pub returns-else-fill-eq1 : goal.returns-else-fill-eq1
returns-else-fill-eq1 c =
    elim c.if-fill-eq1.either [
      | inl h ↦ elim c.if-align-eq61.branch [ then-align-eq61 w ↦ w.t-4-is ∙ ne_eqb _ 1 h.1 ∙ pads_size _ c.args.align h.1 | else-align-eq61 w ↦ absurd (w.if-align-eq61.false h.0) ]
      | inr z ↦ elim c.if-align-eq61.branch [ then-align-eq61 w ↦ absurd (z w.if-align-eq61.true) | else-align-eq61 w ↦ w.t-4-is ∙ ne_eqb _ 61 z ∙ pads_align _ c.args.align z ]
    ]
