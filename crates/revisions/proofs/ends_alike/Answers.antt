use borrow.Author.Rules.{rules}
use native.Mathlib.Omega.{arith}
use mathlib.Core.Path.{refl, sym, ◌∙◌}
use Rattle.definition_revisions.proofs.Laws.Forward.{forward}
use Rattle.revisions.proofs.Running.{items_none, last_first, last_second, last_same, last_differs}
use Rattle.revisions.proofs.ends_alike.Goals as goal

pub loop-i-init : goal.loop-i-init
loop-i-init c = (omega arith, search rules, search rules, refl)

pub returns-after-loop-i : goal.returns-after-loop-i
returns-after-loop-i c = sym (forward _ _ c.requires.2 ∙ c.loop-i.invariant.3 ∙ last_first c.loop-i.items _ _ (items_none _ _ _ c.loop-i.i c.loop-i-test.false))

pub returns-else-j-total : goal.returns-else-j-total
returns-else-j-total c = sym (forward _ _ c.requires.2 ∙ c.loop-i.invariant.3 ∙ last_second c.loop-i.items _ _ (items_none _ _ _ c.loop-i.j c.if-j-total.false))

pub item_end-to-requires : goal.item_end-to-requires
item_end-to-requires c = omega (arith, c.loop-i-test.true)

pub item_end-end-requires : goal.item_end-end-requires
item_end-end-requires c = omega (arith, c.if-j-total.true)

pub same_items-requires : goal.same_items-requires
same_items-requires c = let p = c.item_end-to.ensures in let q = c.item_end-end.ensures in (omega (arith, p.ahead), omega (arith, q.ahead))

pub loop-i-preserved-then-same_items : goal.loop-i-preserved-then-same_items
loop-i-preserved-then-same_items c =
    let p = c.item_end-to.ensures in
    let q = c.item_end-end.ensures in
    (omega (arith, c.loop-i.invariant.0, p.ahead), p.within, q.within, c.loop-i.invariant.3 ∙ last_same c.loop-i.items _ _ (p.first _) (q.first _) (sym c.same_items.ensures ∙ c.if-same_items.true))

pub loop-i-preserved : goal.loop-i-preserved
loop-i-preserved c =
    let p = c.item_end-to.ensures in
    let q = c.item_end-end.ensures in
    (omega (arith, c.loop-i.invariant.0, p.ahead), p.within, q.within, c.loop-i.invariant.3 ∙ last_differs c.loop-i.items _ _ (p.first _) (q.first _) (sym c.same_items.ensures ∙ c.if-same_items.false))
