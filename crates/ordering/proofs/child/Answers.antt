use Rattle.std.proofs.Common.{sym, ◌∙◌}
use Rattle.definition_names.proofs.NameOrder.{order_total, order_trans, order_refl}
use Rattle.ordering.proofs.Heap.{only, left, right}
use Rattle.ordering.proofs.child.Goals as goal
use Rattle.ordering.proofs.child.Goals.{else-right-n-via-then-right-n+else-in_order, else-right-n-via-else-right-n}

pub returns-then-in_order : goal.returns-then-in_order
returns-then-in_order c = right _ (order_trans _) (order_refl _) _ _ _ c.if-right-n.true (sym c.in_order.ensures ∙ c.if-in_order.true)

pub returns-else-right-n : goal.returns-else-right-n
returns-else-right-n c =
    elim c.else-right-n.branch [
      | else-right-n-via-then-right-n+else-in_order w ↦ left _ (order_trans _) (order_refl _) _ _ _ w.if-right-n.true (order_total _ _ _ (sym w.in_order.ensures ∙ w.if-in_order.false))
      | else-right-n-via-else-right-n w ↦ only _ (order_trans _) (order_refl _) _ _ _ c.requires.0 w.if-right-n.false
    ]
