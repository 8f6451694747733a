use native.Mathlib.Omega.{arith}
use mathlib.Core.Path.{◌∙◌}
use mathlib.Core.List.{[], ◌∷◌}
use Prim.Native.Nat.{◌+◌, ◌-◌, ◌<◌}
use Rattle.integers.proofs.Placed.{copies_next, copies_none}
use Rattle.integers.proofs.Plain.{copies_one}
use Rattle.integers.proofs.add_bytes.Goals as goal

pub overflow_add-used : goal.overflow_add-used
overflow_add-used c = let e = copies_one c.args.count c.args.byte in omega arith

pub loop-i-preserved : goal.loop-i-preserved
loop-i-preserved c =
    let i = c.loop-i.i in let left = c.args.count - i in
    let h : 0 < left = omega arith in
    copies_next c.loop-i.out (c.args.used + i) (c.args.byte ∷ []) left (c.args.count - (i + 1)) (c.args.used + (i + 1)) h (omega arith) (omega arith) c.put.ensures ∙ c.loop-i.invariant

pub overflow_add-result : goal.overflow_add-result
overflow_add-result c = let e = copies_one c.args.count c.args.byte in omega arith

pub returns : goal.returns
returns c =
    let e = copies_one c.args.count c.args.byte in
    let n = copies_none c.loop-i.out (c.args.used + c.loop-i.i) (c.args.byte ∷ []) (c.args.count - c.loop-i.i) (omega arith) in
    (omega arith, n.1 ∙ c.loop-i.invariant)
