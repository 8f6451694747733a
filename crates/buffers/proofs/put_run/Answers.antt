use native.Mathlib.Omega.{arith}
use mathlib.Core.Path.{◌∙◌, ap, sym}
use lib.ListN.{set}
use Rattle.buffers.proofs.Over.{over_nil, over_take, over_more}
use Rattle.buffers.proofs.put_run.Goals as goal

pub loop-i-init : goal.loop-i-init
loop-i-init g c = sym (over_nil _ _)

pub loop-i-preserved : goal.loop-i-preserved
loop-i-preserved g c =
    let i = c.loop-i.i in
    ap (set c.loop-i.buffer i) c.index-run-i.is ∙ rw c.loop-i.invariant (over_more _ 0 i i c.args.run.now _ (omega arith) (omega arith))

pub returns : goal.returns
returns g c = c.loop-i.invariant ∙ over_take _ 0 _ _ (omega arith)
