use borrow.Author.Rules.{rules}
use native.Mathlib.Omega.{arith}
use native.Mathlib.Nat.{sub-zero}
use mathlib.Core.Path.{refl, sym, ◌∙◌}
use Prim.Native.Nat.{◌-◌}
use Rattle.revisions.proofs.Running.{items_none, skip_more, skip_over, skip_all}
use Rattle.revisions.proofs.skip.Goals as goal

pub loop-passed-init : goal.loop-passed-init
loop-passed-init c = (search rules, λ text. rw sub-zero refl)

pub returns-then-count-i : goal.returns-then-count-i
returns-then-count-i c = record { within = c.loop-passed.invariant.0; skips = λ text. sym (c.loop-passed.invariant.1 text ∙ skip_over (c.args.items - c.loop-passed._passed) (items_none _ text _ c.loop-passed.i c.if-count-i.true)) }

pub item_end-i-requires : goal.item_end-i-requires
item_end-i-requires c = omega (arith, c.if-count-i.false)

pub loop-passed-preserved : goal.loop-passed-preserved
loop-passed-preserved c = let p = c.item_end-i.ensures in (p.within, λ text. c.loop-passed.invariant.1 text ∙ skip_more _ c.loop-passed._passed c.loop-passed-test.true (p.first text))

pub returns : goal.returns
returns c = record { within = c.loop-passed.invariant.0; skips = λ text. sym (c.loop-passed.invariant.1 text ∙ skip_all _ _ c.loop-passed._passed c.loop-passed-test.false) }
