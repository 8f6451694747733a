use Rattle.std.proofs.Common.{sym, ◌∙◌}
use Rattle.definition_names.specs.Names.{name_of}
use Rattle.definition_names.proofs.NameSearch.{entry_out, entry_found, entry_missed}
use Rattle.ordering.proofs.entry_of.Goals as goal
use Rattle.ordering.proofs.entry_of.Goals.{else-k-index-via-then-k-index+else-at_most, else-k-index-via-else-k-index}

pub returns-then-at_most-clause-entry : goal.returns-then-at_most-clause-entry
unfolding name_of
returns-then-at_most-clause-entry c =
    let b = c.bound-k.ensures in
    b ∙ sym (entry_found _ _ _ (rw b at c.if-k-index.true) (rw (← b, ← c.name_at.ensures) (sym c.at_most.ensures ∙ c.if-at_most.true)))

pub returns-else-k-index-clause-entry : goal.returns-else-k-index-clause-entry
unfolding name_of
returns-else-k-index-clause-entry c =
    let b = c.bound-k.ensures in
    elim c.else-k-index.branch [
      | else-k-index-via-then-k-index+else-at_most w ↦ sym (entry_missed _ _ _ (rw b at w.if-k-index.true) (rw (← b, ← w.name_at.ensures) (sym w.at_most.ensures ∙ w.if-at_most.false)))
      | else-k-index-via-else-k-index w ↦ sym (entry_out _ _ _ (rw b at w.if-k-index.false))
    ]
