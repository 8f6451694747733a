use mathlib.Core.Path.{◌∙◌, ap}
use mathlib.Core.Bool.{not}
use mathlib.Core.Logic.{inl, inr}
use borrow.Author.Tests.{eq-eqb, lt-leb}
use Rattle.integers.proofs.Fitting.{no_base, too_wide, by_fill}
use Rattle.integers.proofs.is_fitting.Goals as goal
use Rattle.integers.proofs.is_fitting.Goals.{then-base_of-ne0, else-base_of-ne0}

pub returns-then-shape-le64 : goal.returns-then-shape-le64
returns-then-shape-le64 c = by_fill _ _ c.base_of.ensures c.if-shape-le64.true.0 c.if-shape-le64.true.1

pub returns-else-shape-le64 : goal.returns-else-shape-le64
returns-else-shape-le64 c =
    elim c.if-shape-le64.either [
      | inl h ↦ elim c.if-base_of-ne0.branch [ then-base_of-ne0 w ↦ w.t-4-is ∙ lt-leb _ 64 h.1 ∙ too_wide _ _ c.base_of.ensures h.0 h.1 | else-base_of-ne0 w ↦ absurd (h.0 w.if-base_of-ne0.false) ]
      | inr z ↦ elim c.if-base_of-ne0.branch [ then-base_of-ne0 w ↦ absurd (w.if-base_of-ne0.true z) | else-base_of-ne0 w ↦ w.t-4-is ∙ ap not (eq-eqb _ 0 z) ∙ no_base _ _ c.base_of.ensures z ]
    ]
