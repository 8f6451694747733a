use borrow.Author.Rules.{rules}
use mathlib.Core.Path.{◌∙◌, ap}
use Rattle.answers.specs.Twelve.{twelve}
use Rattle.stumpgarret.proofs.stumpgarret_signs.Goals as goal

pub returns : goal.returns
returns c = record { numbered = c.of_reading.ensures ∙ ap twelve c.parse_signs.ensures.answer; rows_left_lem = c.parse_signs.ensures.rows }
