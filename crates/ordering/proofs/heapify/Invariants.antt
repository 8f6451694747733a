use Rattle.definition_names.specs.IsIndex.{in_order}
use Rattle.definition_names.proofs.NameOrder.{order_trans, order_refl}
use Rattle.ordering.proofs.Heap.{Heaping}
use Rattle.ordering.proofs.heapify.Given as goal

abbrev pub invariant-loop-k : goal.invariant-loop-k
invariant-loop-k l = Heaping (in_order l.file) (order_trans l.file) (order_refl l.file) l.initial.list l.list l.k

abbrev pub decreases-loop-k : goal.decreases-loop-k
decreases-loop-k l = l.k
