use Rattle.definition_names.specs.IsIndex.{in_order}
use Rattle.definition_names.proofs.NameOrder.{order_trans, order_refl}
use Rattle.ordering.proofs.Heap.{Sorting}
use Rattle.ordering.proofs.sort.Given as goal

abbrev pub invariant-loop-m : goal.invariant-loop-m
invariant-loop-m l = Sorting (in_order l.file) (order_trans l.file) (order_refl l.file) l.initial.list l.list l.m

abbrev pub decreases-loop-m : goal.decreases-loop-m
decreases-loop-m l = l.m
