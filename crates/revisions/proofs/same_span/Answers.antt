use mathlib.Core.Path.{◌∙◌, ap₂}
use Rattle.definition.specs.Chars.{same}
use Rattle.formed.proofs.Parts.{part_within}
use Rattle.revisions.proofs.Walking.{same_pointwise}
use Rattle.revisions.proofs.same_span.Goals as goal

pub returns : goal.returns
returns c = c.eq.ensures ∙ same_pointwise _ _ ∙ ap₂ same (part_within _ _ _ _ _ c.min-start.ensures c.min-end.ensures) (part_within _ _ _ _ _ c.min-low.ensures c.min-high.ensures)
