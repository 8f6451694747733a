use borrow.Author.Rules.{rules}
use mathlib.Core.Path.{◌∙◌, ap}
use Rattle.answers.specs.Twelve.{twelve}
use Rattle.stumpgarret.proofs.stumpgarret_read.Goals as goal

pub returns : goal.returns
returns c = record { numbered = c.of_reading.ensures ∙ ap twelve c.parse_strings.ensures.answer; words_left = c.parse_strings.ensures.words; text_left = c.parse_strings.ensures.text }
