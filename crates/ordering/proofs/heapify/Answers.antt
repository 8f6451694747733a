use native.Mathlib.Omega.{arith}
use Rattle.definition_names.proofs.NameOrder.{order_trans, order_refl}
use Rattle.ordering.proofs.Heap.{heaping, heaps, heaped}
use Rattle.ordering.proofs.heapify.Goals as goal

pub loop-k-init : goal.loop-k-init
loop-k-init c = heaping _ (order_trans _) (order_refl _) _

pub loop-k-preserved : goal.loop-k-preserved
loop-k-preserved c = heaps _ (order_trans _) (order_refl _) _ _ _ _ _ c.loop-k.invariant (omega arith) c.sift.ensures

pub shape_of-list : goal.shape_of-list
shape_of-list c = c.loop-k.invariant.size

pub returns : goal.returns
returns c = heaped _ (order_trans _) (order_refl _) _ _ _ c.loop-k.invariant (omega arith)
