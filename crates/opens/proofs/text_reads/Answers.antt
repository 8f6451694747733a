use borrow.Author.Tests.{eq-eqb}
use mathlib.Core.Path.{◌∙◌}
use mathlib.Core.Logic.{⊎_elim}
use Rattle.opens.proofs.OpenLaws.{reads_top, reads_late, reads_early}
use Rattle.opens.proofs.text_reads.Goals as goal
use Rattle.opens.proofs.text_reads.Goals.{then-depth-eq0, else-depth-eq0}

pub returns-then-late : goal.returns-then-late
returns-then-late c =
    let a = c.args in
    elim c.if-depth-eq0.branch [
      | then-depth-eq0 w ↦ w.t-5-is ∙ eq-eqb _ 0 w.if-depth-eq0.true ∙ reads_top a.depth a.late a.text.now w.if-depth-eq0.true
      | else-depth-eq0 w ↦ ⊎_elim (λ e. absurd (w.if-depth-eq0.false e)) (λ e. w.t-5-is ∙ e.1 ∙ reads_late a.depth a.late a.text.now e.0 e.1) c.if-late.either
    ]

pub returns-else-late : goal.returns-else-late
returns-else-late c = let a = c.args in reads_early a.depth a.late a.text.now _ c.if-late.false.0 c.if-late.false.1 c.is_braceless.ensures
