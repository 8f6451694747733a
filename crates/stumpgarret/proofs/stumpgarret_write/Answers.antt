use borrow.Author.Rules.{rules}
use mathlib.Core.Path.{◌∙◌, ap}
use Rattle.answers.specs.Twelve.{twelve}
use Rattle.stumpgarret.proofs.stumpgarret_write.Goals as goal

pub returns : goal.returns
returns c = let r = c.write.ensures in record { numbered = c.of_writing.ensures ∙ ap twelve r.answer; body_left = r.body }
