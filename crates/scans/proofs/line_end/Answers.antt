use mathlib.Core.Path.{◌∙◌}
use Rattle.searches.proofs.Threes.{of_one}
use Rattle.scans.proofs.line_end.Goals as goal

pub returns : goal.returns
returns c = c.first_of.ensures ∙ of_one _ _ _
