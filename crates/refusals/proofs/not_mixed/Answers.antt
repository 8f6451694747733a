use mathlib.Core.Path.{sym, ◌∙◌}
use Rattle.definition.specs.Entry.{not_mixed}
use Rattle.definition.specs.Reading.{outcome_of}
use Rattle.entry.specs.Answers.{described}
use Rattle.entry.proofs.Literals.{first_start_lem}
use Rattle.refusals.proofs.not_mixed.Goals as goal
use Rattle.refusals.proofs.not_mixed.Goals.{then-not-any_of-via-then-not-any_of, then-not-any_of-via-else-not-any_of+then-not-any_of-2}

pub returns-then-not-any_of : goal.returns-then-not-any_of
unfolding not_mixed outcome_of described
returns-then-not-any_of c =
    elim c.then-not-any_of.branch [
      | then-not-any_of-via-then-not-any_of w ↦ rw (sym c.any_of.ensures ∙ w.if-not-any_of.true)
      | then-not-any_of-via-else-not-any_of+then-not-any_of-2 w ↦ rw (sym c.any_of.ensures ∙ w.if-not-any_of.false, sym w.any_of-else-not-any_of.ensures ∙ w.if-not-any_of-2.true)
    ]

pub returns : goal.returns
unfolding not_mixed outcome_of described
returns c = let b = sym c.any_of.ensures ∙ c.if-not-any_of.false in rw (c.refuse.ensures, b, sym c.any_of-else-not-any_of.ensures ∙ c.if-not-any_of-2.false, first_start_lem _ _ _ b, ← c.literal_at.ensures)
