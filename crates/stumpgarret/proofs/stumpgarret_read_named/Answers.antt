use borrow.Author.Rules.{rules}
use mathlib.Core.Path.{◌∙◌, ap}
use Rattle.answers.specs.Twelve.{twelve}
use Rattle.stumpgarret.proofs.stumpgarret_read_named.Goals as goal

pub returns : goal.returns
returns c = record { numbered = c.of_reading.ensures ∙ ap twelve c.parse_named.ensures.answer; words_left = c.parse_named.ensures.words; text_left = c.parse_named.ensures.text }
