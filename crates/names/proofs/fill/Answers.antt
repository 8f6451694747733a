use Rattle.std.proofs.Common.{arith, refl, length-set}
use Rattle.names.proofs.Filling.{filling, fill_add}
use Rattle.names.proofs.fill.Goals as goal

pub loop-at-init : goal.loop-at-init
loop-at-init c = (refl, filling _ _ _)

pub loop-at-preserved-then-line : goal.loop-at-preserved-then-line
loop-at-preserved-then-line c =
    let r = c.loop-at.invariant.1.room in
    (rw length-set c.loop-at.invariant.0, fill_add _ _ _ _ _ c.loop-at.invariant.1 _ (omega arith) (rw c.if-line.true at c.in-Some.ensures))
