use borrow.Author.Rules.{rules}
use mathlib.Core.Path.{◌∙◌, ap}
use Rattle.answers.specs.Twelve.{twelve}
use Rattle.stumpgarret.proofs.stumpgarret_fields_named.Goals as goal

pub returns : goal.returns
returns c = let l = c.list_named.ensures in record { numbered = c.of_fields.ensures ∙ ap twelve l.answer; rows_left_lem = l.rows }
