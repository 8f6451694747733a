use Rattle.std.proofs.Common.{sym, ◌∙◌}
use Rattle.wholes.proofs.kind_of.Goals as goal

pub returns-then-is_of : goal.returns-then-is_of
returns-then-is_of c = rw (sym c.is_of.ensures ∙ c.if-is_of.true)

pub returns-else-is_of : goal.returns-else-is_of
returns-else-is_of c = rw (sym c.is_of.ensures ∙ c.if-is_of.false)
