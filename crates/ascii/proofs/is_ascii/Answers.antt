use native.Mathlib.Omega.{arith}
use Prim.Native.Nat.{◌+◌}
use borrow.Author.Tests.{ltb-true, ltb-false, leb-true, leb-false}
use lib.Dec.{leb}
use Rattle.definition.proofs.Moves.CharLaws.{cases, byte_is}
use Rattle.ascii.proofs.Runs.{below_one, below_append, told_all, not_all}
use Rattle.ascii.proofs.is_ascii.Goals as goal

pub loop-b-preserved : goal.loop-b-preserved
loop-b-preserved c =
    let s = c.args.s.now in
    let i = c.loop-b.b-index in
    let most = c.max-most.result in
    let t = c.loop-b-test.true in
    let b = byte_is s i t in
    let e = c.max-most.ensures in (
      below_append s (c.loop-b.most + 1) (most + 1) 0 i (i + 1) (omega (arith, e)) c.loop-b.invariant.0 (below_one s (most + 1) i (rw (← b) (omega (arith, e)))),
      λ h. cases (leb 0x80 c.loop-b.most) (λ u. c.loop-b.invariant.1 (leb-true _ _ u)) (λ u. let v = leb-false 0x80 c.loop-b.most u in not_all s i t (rw (← b) (omega (arith, e)))),
    )

pub returns : goal.returns
returns c =
    let s = c.args.s.now in
    told_all s _ (λ t k a b. let h = ltb-true c.loop-b.most _ t in let d = c.loop-b.invariant.0 k a (omega (arith, c.loop-b-test.false)) in omega arith)
    (λ t. let h = ltb-false c.loop-b.most _ t in c.loop-b.invariant.1 (omega arith))
