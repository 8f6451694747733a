use borrow.Author.Rules.{rules}
use mathlib.Core.Path.{◌∙◌, ap}
use Rattle.answers.specs.Twelve.{twelve}
use Rattle.stumpgarret.proofs.Indexes.{index_says_lem}
use Rattle.stumpgarret.proofs.stumpgarret_names_build.Goals as goal

pub returns : goal.returns
returns c = let l = c.build.ensures in record { numbered = c.of_index.ensures ∙ ap twelve (index_says_lem _ _ l.0); index_left = l.1 }
