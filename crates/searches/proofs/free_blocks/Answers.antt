use borrow.Author.Rules.{rules}
use mathlib.Core.Path.{◌∙◌}
use Rattle.searches.proofs.free_blocks.Goals as goal

pub loop-i-preserved : goal.loop-i-preserved
loop-i-preserved c = (search rules, c.loop-i.invariant.1 ∙ c.is_free.ensures c.if-is_free.true)
