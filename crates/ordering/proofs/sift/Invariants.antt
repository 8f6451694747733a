use Prim.Native.Nat.{◌-◌}
use Rattle.definition_names.specs.IsIndex.{in_order}
use Rattle.definition_names.proofs.NameOrder.{order_trans, order_refl}
use Rattle.ordering.proofs.Heap.{Sinking}
use Rattle.ordering.proofs.sift.Given as goal

abbrev pub invariant-loop-at : goal.invariant-loop-at
invariant-loop-at l = Sinking (in_order l.file) (order_trans l.file) (order_refl l.file) l.initial.list l.i l.n l.list l.at

abbrev pub decreases-loop-at : goal.decreases-loop-at
decreases-loop-at l = l.n - l.at
