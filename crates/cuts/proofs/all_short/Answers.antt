use native.Mathlib.Omega.{arith}
use Rattle.cuts.proofs.Walking.{walk, next_cut, last_short, not_short, short_on}
use Rattle.cuts.proofs.all_short.Goals as goal

pub loop-cut-init : goal.loop-cut-init
loop-cut-init c = walk _ _ _ c.requires

pub overflow_sub-c : goal.overflow_sub-c
overflow_sub-c c = let z = next_cut _ _ _ _ _ c.loop-cut.invariant c.loop-cut-test.true in omega (arith, z.0)

pub returns-then-most-c : goal.returns-then-most-c
returns-then-most-c c = not_short _ _ _ _ _ c.loop-cut.invariant c.loop-cut-test.true c.if-most-c.true

pub loop-cut-preserved : goal.loop-cut-preserved
loop-cut-preserved c = short_on _ _ _ _ _ c.loop-cut.invariant c.loop-cut-test.true c.if-most-c.false

pub returns : goal.returns
returns c = last_short _ _ _ _ _ c.loop-cut.invariant c.loop-cut-test.false
