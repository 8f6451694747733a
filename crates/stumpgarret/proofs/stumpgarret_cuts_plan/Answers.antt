use borrow.Author.Rules.{rules}
use mathlib.Core.Path.{◌∙◌, ap}
use Rattle.answers.specs.Twelve.{twelve}
use Rattle.stumpgarret.proofs.stumpgarret_cuts_plan.Goals as goal

pub returns : goal.returns
returns c = let p = c.plan.ensures in record { numbered = c.of_plan.ensures ∙ ap twelve p.0; list_left = p.1 }
