use Rattle.std.proofs.Common.{sym, ◌∙◌}
use Rattle.definition_names.specs.Names.{name_at}
use Rattle.ordering.proofs.name_at.Goals as goal

pub returns-then-is_mark : goal.returns-then-is_mark
unfolding name_at
returns-then-is_mark c = rw (sym c.is_mark.ensures ∙ c.if-is_mark.true)

pub returns-then-is_mark-2 : goal.returns-then-is_mark-2
unfolding name_at
returns-then-is_mark-2 c = rw (sym c.is_mark.ensures ∙ c.if-is_mark.false, sym c.is_mark-else-is_mark.ensures ∙ c.if-is_mark-2.true)

pub returns-else-is_mark-2 : goal.returns-else-is_mark-2
unfolding name_at
returns-else-is_mark-2 c = rw (sym c.is_mark.ensures ∙ c.if-is_mark.false, sym c.is_mark-else-is_mark.ensures ∙ c.if-is_mark-2.false)
