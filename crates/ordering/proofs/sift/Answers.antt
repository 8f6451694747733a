use native.Mathlib.Omega.{arith}
use mathlib.Core.Path.{sym, ◌∙◌}
use Rattle.definition_names.proofs.NameOrder.{order_total, order_trans, order_refl}
use Rattle.std.proofs.lemmas.List.Edits.{swap_is}
use Rattle.ordering.specs.Sorting.{swapped}
use Rattle.ordering.proofs.Heap.{sinking, sinks, stop, leaf}
use Rattle.ordering.proofs.sift.Goals as goal

pub loop-at-init : goal.loop-at-init
loop-at-init c = sinking _ (order_trans _) (order_refl _) _ _ _ (c.requires.0) (c.requires.1)

pub returns-then-in_order : goal.returns-then-in_order
returns-then-in_order c = c.loop-at.invariant.back _ (stop _ (order_trans _) (order_refl _) _ _ _ c.child-c.ensures (sym c.in_order.ensures ∙ c.if-in_order.true))

pub loop-at-preserved : goal.loop-at-preserved
unfolding swapped
loop-at-preserved c =
    let e = sym (swap_is c.loop-at.list c.loop-at.at c.child-c.result 0 (omega (arith, c.loop-at.invariant.size)) (omega (arith, c.loop-at.invariant.size, c.child-c.ensures.inside))) in
    sinks _ (order_trans _) (order_refl _) _ _ _ _ _ _ _ c.loop-at.invariant c.child-c.ensures (order_total _ _ _ (sym c.in_order.ensures ∙ c.if-in_order.false)) (c.swap.ensures.after ∙ e)

pub shape_of-list : goal.shape_of-list
shape_of-list c = c.loop-at.invariant.size

pub returns : goal.returns
returns c = c.loop-at.invariant.back _ (leaf _ (order_trans _) (order_refl _) _ _ _ (omega arith))
