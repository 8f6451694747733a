use native.Mathlib.Omega.{arith}
use mathlib.Core.Path.{◌∙◌, sym}
use Rattle.buffers.proofs.Over.{over_nil}
use Rattle.buffers.proofs.Copies.{again_more, again_all}
use Rattle.buffers.proofs.add_again.Goals as goal

pub loop-i-init : goal.loop-i-init
loop-i-init c = sym (over_nil _ _)

pub loop-i-preserved : goal.loop-i-preserved
loop-i-preserved c =
    let end = c.min-end.result in
    let i = c.loop-i.i in
    rw c.loop-i.invariant (again_more _ _ c.args.from end i (omega arith) (omega arith) (omega arith))

pub returns : goal.returns
returns c =
    let end = c.min-end.result in
    c.loop-i.invariant ∙ again_all _ _ c.args.from end _ (omega arith) ∙ rw c.min-end.ensures
