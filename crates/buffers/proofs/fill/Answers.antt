use native.Mathlib.Omega.{arith}
use mathlib.Core.Path.{◌∙◌, sym}
use Rattle.buffers.proofs.Over.{over_nil, over_all, over_same_more}
use Rattle.buffers.proofs.fill.Goals as goal

pub loop-place-init : goal.loop-place-init
loop-place-init g c = sym (over_nil _ _)

pub loop-place-preserved : goal.loop-place-preserved
loop-place-preserved g c = rw c.loop-place.invariant (over_same_more _ _ _)

pub returns : goal.returns
returns g c = c.loop-place.invariant ∙ over_all _ _ _ (omega arith)
