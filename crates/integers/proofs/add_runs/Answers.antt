use native.Mathlib.Omega.{arith}
use mathlib.Core.Path.{◌∙◌}
use Prim.Native.Nat.{◌+◌, ◌-◌, ◌<◌}
use lib.ListN.{length}
use Rattle.integers.proofs.Placed.{copies_next, copies_count, copies_none}
use Rattle.integers.proofs.add_runs.Goals as goal

pub overflow_add-at : goal.overflow_add-at
overflow_add-at c =
    let fill = c.args.fill.now in let at = c.loop.at in let left = c.args.count - c.loop.counter in
    let h : 0 < left = omega arith in
    let e = copies_count c.loop.out at fill left (left - 1) (at + length fill) h (omega arith) (omega arith) in
    let v = c.loop.invariant.1 in
    omega arith

pub loop-preserved : goal.loop-preserved
loop-preserved c =
    let fill = c.args.fill.now in let at = c.loop.at in let left = c.args.count - c.loop.counter in let less = c.args.count - (c.loop.counter + 1) in
    let h : 0 < left = omega arith in
    (copies_next c.loop.out at fill left less (at + length fill) h (omega arith) (omega arith) c.add_run.ensures ∙ c.loop.invariant.0, copies_count c.loop.out at fill left less (at + length fill) h (omega arith) (omega arith) ∙ c.loop.invariant.1)

pub returns : goal.returns
returns c =
    let e = copies_none c.loop.out c.loop.at c.args.fill.now (c.args.count - c.loop.counter) (omega arith) in
    (e.0 ∙ c.loop.invariant.1, e.1 ∙ c.loop.invariant.0)
