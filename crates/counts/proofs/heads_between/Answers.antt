use native.Mathlib.Omega.{arith}
use mathlib.Core.Path.{sym}
use Prim.Native.Nat.{◌+◌, ◌-◌}
use Rattle.counts.proofs.HeadLaws.{heads_none, heads_on, heads_most}
use Rattle.counts.proofs.heads_between.Goals as goal

pub loop-i-init : goal.loop-i-init
loop-i-init c = let a = c.args in (omega arith, c.requires.0, sym (heads_none a.s.now a.from))

pub overflow_sub-to : goal.overflow_sub-to
overflow_sub-to c = omega (arith, c.loop-i.invariant.1)

pub overflow_add-i : goal.overflow_add-i
overflow_add-i c = omega (arith, c.loop-i.invariant.1)

pub heads_near-requires : goal.heads_near-requires
heads_near-requires c = (omega arith, omega (arith, c.loop-i.invariant.1, c.requires), omega arith)

pub overflow_add-n : goal.overflow_add-n
overflow_add-n c =
    let a = c.args in
    omega (arith, c.loop-i.invariant, heads_most a.s.now (c.loop-i.i - a.from) a.from, c.heads_near.ensures, heads_most a.s.now (c.loop-i.i + 128 - c.loop-i.i) c.loop-i.i)

pub loop-i-smaller : goal.loop-i-smaller
loop-i-smaller c = omega (arith, c.loop-i.invariant.1)

pub loop-i-preserved : goal.loop-i-preserved
loop-i-preserved c =
    let a = c.args in
    (omega (arith, c.loop-i.invariant.0), omega (arith, c.loop-i.invariant.1), omega (arith, c.loop-i.invariant.2, c.heads_near.ensures, heads_on a.s.now a.from c.loop-i.i (c.loop-i.i + 128) c.loop-i.invariant.0 (omega arith)))

pub heads_near-requires-2 : goal.heads_near-requires-2
heads_near-requires-2 c = (c.loop-i.invariant.1, c.requires.1, omega (arith, c.loop-i-test.false))

pub overflow_add-result : goal.overflow_add-result
overflow_add-result c =
    let a = c.args in
    omega (arith, c.loop-i.invariant, heads_most a.s.now (c.loop-i.i - a.from) a.from, c.heads_near-2.ensures, heads_most a.s.now (a.to - c.loop-i.i) c.loop-i.i)

pub returns : goal.returns
returns c =
    let a = c.args in
    omega (arith, c.loop-i.invariant.2, c.heads_near-2.ensures, heads_on a.s.now a.from c.loop-i.i a.to c.loop-i.invariant.0 c.loop-i.invariant.1)
