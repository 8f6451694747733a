use borrow.Author.Rules.{rules}
use mathlib.Core.Path.{◌∙◌, ap}
use Rattle.answers.specs.Twelve.{twelve}
use Rattle.stumpgarret.proofs.stumpgarret_literals.Goals as goal

pub returns : goal.returns
returns c = let l = c.list_literals.ensures in record { numbered = c.of_literals.ensures ∙ ap twelve l.answer; list_left = l.left }
