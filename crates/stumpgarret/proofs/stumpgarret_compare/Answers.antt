use borrow.Author.Rules.{rules}
use mathlib.Core.Path.{◌∙◌, ap}
use Rattle.definition_revisions.specs.Revisions.{compare_numbers}
use Rattle.answers.specs.Twelve.{twelve}
use Rattle.stumpgarret.proofs.stumpgarret_compare.Goals as goal

pub returns : goal.returns
returns c = let l = c.compare.ensures in record { numbered = c.of_comparison.ensures ∙ ap (λ o. twelve (compare_numbers o)) l.answer; list_left = l.left }
