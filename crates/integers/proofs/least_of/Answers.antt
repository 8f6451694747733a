use mathlib.Core.Path.{◌∙◌}
use Rattle.integers.proofs.Joined.{least_none, least_some}
use Rattle.integers.proofs.least_of.Goals as goal

pub returns-then-zero_pads : goal.returns-then-zero_pads
returns-then-zero_pads c = c.saturating_sub.ensures ∙ least_some _ _ _ _ c.zero_pads.ensures c.if-zero_pads.true

pub returns-else-zero_pads : goal.returns-else-zero_pads
returns-else-zero_pads c = least_none _ _ _ _ c.zero_pads.ensures c.if-zero_pads.false
