use native.Mathlib.Omega.{arith}
use mathlib.Core.Path.{sym, ◌∙◌}
use Rattle.revisions.proofs.Running.{passed_none, first_over, second_over, passed_more, passed_stops, front_done, items_none}
use Rattle.revisions.proofs.front_of.Goals as goal

pub loop-i-init : goal.loop-i-init
loop-i-init c = (omega arith, omega arith, omega arith, omega arith, passed_none _ _)

pub returns-after-loop-i : goal.returns-after-loop-i
returns-after-loop-i c = front_done _ c.loop-i.invariant (first_over c.loop-i.invariant.4 (items_none _ _ _ _ c.loop-i-test.false))

pub returns-else-j-total : goal.returns-else-j-total
returns-else-j-total c = front_done _ c.loop-i.invariant (second_over c.loop-i.invariant.4 (items_none _ _ _ _ c.if-j-total.false))

pub item_end-to-requires : goal.item_end-to-requires
item_end-to-requires c = omega (arith, c.loop-i-test.true)

pub item_end-end-requires : goal.item_end-end-requires
item_end-end-requires c = omega (arith, c.if-j-total.true)

pub same_items-requires : goal.same_items-requires
same_items-requires c = let p = c.item_end-to.ensures in let q = c.item_end-end.ensures in (omega (arith, p.ahead), omega (arith, q.ahead))

pub returns-then-not-same_items : goal.returns-then-not-same_items
returns-then-not-same_items c = front_done _ c.loop-i.invariant (passed_stops c.loop-i.invariant.4 (c.item_end-to.ensures.first _) (c.item_end-end.ensures.first _) (sym c.same_items.ensures ∙ c.if-not-same_items.true))

pub loop-i-preserved : goal.loop-i-preserved
loop-i-preserved c =
    let p = c.item_end-to.ensures in
    let q = c.item_end-end.ensures in
    let t = c.same_items.ensures in
    (omega (arith, c.loop-i.invariant.0, p.ahead), omega (arith, c.loop-i.invariant.1, q.ahead), p.within, q.within, passed_more c.loop-i.invariant.4 (p.first _) (q.first _) (sym t ∙ c.if-not-same_items.false))
