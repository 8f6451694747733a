use borrow.Author.Tests.{lt-leb}
use mathlib.Core.Path.{sym, ◌∙◌}
use Rattle.definition.proofs.Moves.CharLaws.{no}
use Rattle.cuts.proofs.Walking.{long_alone, ill_alone, told_alone}
use Rattle.cuts.proofs.reads.Goals as goal
use Rattle.cuts.proofs.reads.Goals.{then-s-le-LARGEST_BODY, else-s-le-LARGEST_BODY}

pub returns-then-is_formed : goal.returns-then-is_formed
returns-then-is_formed c =
    elim c.if-s-le-LARGEST_BODY.branch [
      | then-s-le-LARGEST_BODY w ↦ c.is_some.ensures ∙ told_alone _ w.if-s-le-LARGEST_BODY.true (sym w.is_formed.ensures ∙ sym w.value-is ∙ c.if-is_formed.true) _ c.check_cuts.ensures
      | else-s-le-LARGEST_BODY w ↦ let h = w.value-is in no (sym (sym c.if-is_formed.true ∙ h ∙ lt-leb _ _ w.if-s-le-LARGEST_BODY.false))
    ]

pub returns-else-is_formed : goal.returns-else-is_formed
returns-else-is_formed c =
    elim c.if-s-le-LARGEST_BODY.branch [
      | then-s-le-LARGEST_BODY w ↦ c.if-is_formed.false ∙ ill_alone _ (sym c.if-is_formed.false ∙ w.value-is ∙ w.is_formed.ensures)
      | else-s-le-LARGEST_BODY w ↦ c.if-is_formed.false ∙ long_alone _ w.if-s-le-LARGEST_BODY.false
    ]
