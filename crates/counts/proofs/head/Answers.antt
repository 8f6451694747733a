use mathlib.Core.Path.{sym, ◌∙◌}
use Rattle.counts.specs.Heads.{head_of}
use Rattle.counts.proofs.head.Goals as goal

pub returns-then-is_trail : goal.returns-then-is_trail
unfolding head_of
returns-then-is_trail c = rw (sym c.is_trail.ensures ∙ c.if-is_trail.true)

pub returns-else-is_trail : goal.returns-else-is_trail
unfolding head_of
returns-else-is_trail c = rw (sym c.is_trail.ensures ∙ c.if-is_trail.false)
