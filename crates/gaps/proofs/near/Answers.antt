use borrow.Author.Rules.{rules}
use mathlib.Core.Path.{sym, ◌∙◌}
use Rattle.gaps.proofs.Gaps.{near_goes, near_ends}
use Rattle.gaps.proofs.near.Goals as goal

pub prefix_from-i-requires : goal.prefix_from-i-requires
prefix_from-i-requires c = c.mark_from-to.ensures

pub loop-i-init : goal.loop-i-init
loop-i-init c = c.prefix_from-i.ensures

pub returns-then-begins : goal.returns-then-begins
returns-then-begins c = record { skips = c.loop-i.invariant.1; stands = λ l f. sym c.begins.ensures ∙ c.if-begins.true }

pub loop-i-preserved : goal.loop-i-preserved
loop-i-preserved c = (search rules, near_goes _ _ _ c.mark_from-to.ensures _ c.loop-i-test.true (sym c.begins.ensures ∙ c.if-begins.false) c.loop-i.invariant.1)

pub returns : goal.returns
returns c = let v = c.loop-i.invariant in near_ends _ _ _ c.mark_from-to.ensures _ v.0 c.loop-i-test.false v.1
