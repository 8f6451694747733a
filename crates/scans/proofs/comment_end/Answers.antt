use mathlib.Core.Path.{◌∙◌}
use Rattle.searches.proofs.Threes.{of_two}
use Rattle.scans.proofs.comment_end.Goals as goal

pub returns : goal.returns
returns c = c.first_of.ensures ∙ of_two _ _ _ _
