use borrow.Author.Rules.{rules}
use mathlib.Core.Path.{◌∙◌, ap}
use mathlib.Core.List.{[], ◌∷◌}
use Rattle.answers.specs.Twelve.{twelve}
use Rattle.stumpgarret.proofs.stumpgarret_cuts_check.Goals as goal

pub returns : goal.returns
returns c = c.of_check.ensures ∙ ap (λ n. twelve (n ∷ [])) c.check.ensures
