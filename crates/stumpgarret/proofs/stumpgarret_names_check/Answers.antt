use borrow.Author.Rules.{rules}
use mathlib.Core.Path.{◌∙◌, ap}
use Rattle.answers.specs.Twelve.{twelve}
use Rattle.stumpgarret.proofs.Indexes.{index_says_lem}
use Rattle.stumpgarret.proofs.stumpgarret_names_check.Goals as goal

pub returns : goal.returns
returns c = c.of_index.ensures ∙ ap twelve (index_says_lem _ _ c.check.ensures)
