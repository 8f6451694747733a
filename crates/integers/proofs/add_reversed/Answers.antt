use native.Mathlib.Omega.{arith}
use mathlib.Core.Path.{◌≡◌, ◌∙◌}
use Prim.Native.Nat.{◌+◌, ◌-◌, ◌<◌}
use Rattle.integers.proofs.Placed.{reversed_next, reversed_none}
use Rattle.integers.proofs.add_reversed.Goals as goal

pub loop-i-preserved : goal.loop-i-preserved
loop-i-preserved c =
    let i = c.loop-i.i in let left = c.args.count - i in
    let h : 0 < left = omega arith in
    let e : c.args.count - 1 - i ≡ c.args.count - (i + 1) = omega arith in
    reversed_next c.loop-i.out (c.args.used + i) c.args.units.now left (c.args.count - (i + 1)) (c.args.used + (i + 1)) 0 h (omega arith) (omega arith) (omega arith) (rw e at c.put.ensures) ∙ c.loop-i.invariant

pub returns : goal.returns
returns c =
    (omega arith, reversed_none c.loop-i.out (c.args.used + c.loop-i.i) c.args.units.now (c.args.count - c.loop-i.i) (omega arith) ∙ c.loop-i.invariant)
