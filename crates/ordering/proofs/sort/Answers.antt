use native.Mathlib.Omega.{arith}
use mathlib.Core.Path.{◌∙◌}
use Rattle.definition_names.specs.IsIndex.{in_order}
use Rattle.definition_names.proofs.NameOrder.{order_trans, order_refl}
use Rattle.std.proofs.Common.{◌-◌}
use Rattle.std.proofs.lemmas.List.Edits.{swap_is}
use Rattle.ordering.specs.Sorting.{swapped}
use Rattle.ordering.proofs.Heap.{sorting, sorts, sorted}
use Rattle.ordering.proofs.sort.Goals as goal

pub loop-m-init : goal.loop-m-init
loop-m-init c = sorting (in_order _) (order_trans _) (order_refl _) _ _ c.heapify.ensures

pub loop-m-preserved : goal.loop-m-preserved
unfolding swapped
loop-m-preserved c = sorts (in_order _) (order_trans _) (order_refl _) _ _ _ _ c.loop-m.invariant (omega arith) (omega arith) _ (rw (c.swap.ensures.after, ← swap_is c.loop-m.list 0 (c.loop-m.m - 1) 0 (omega (arith, c.loop-m.invariant.size)) (omega (arith, c.loop-m.invariant.size))) at c.sift.ensures)

pub shape_of-list : goal.shape_of-list
shape_of-list c = c.loop-m.invariant.size ∙ c.heapify.ensures.size

pub returns : goal.returns
returns c = sorted (in_order _) (order_trans _) (order_refl _) _ _ _ _ c.heapify.ensures c.loop-m.invariant (omega arith)
