use borrow.Author.Rules.{rules}
use native.Mathlib.Omega.{arith}
use mathlib.Core.Path.{sym, ◌∙◌}
use Rattle.ascii.proofs.Runs.{ascii_on, all_part}
use Rattle.ascii.proofs.ascii_blocks.Goals as goal

pub loop-i-preserved : goal.loop-i-preserved
loop-i-preserved c =
    let i = c.loop-i.i in
    ascii_on _ _ i _ c.loop-i.invariant (all_part _ i (sym c.is_ascii.ensures ∙ c.if-is_ascii.true) (omega arith) (search rules)) (omega arith) (search rules)
