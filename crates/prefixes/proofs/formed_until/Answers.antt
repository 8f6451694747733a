use borrow.Author.Rules.{rules}
use native.Mathlib.Omega.{arith}
use mathlib.Core.Path.{sym, ◌∙◌}
use Prim.Native.Nat.{◌+◌, ◌-◌}
use lib.ListN.{length}
use Rattle.definition.proofs.Moves.CharLaws.{byte_is, width_in, width_ascii}
use Rattle.ascii.specs.Runs.{Ascii}
use Rattle.ascii.proofs.Runs.{ascii_part}
use Rattle.prefixes.proofs.Formed.{more, past}
use Rattle.prefixes.proofs.formed_until.Goals as goal
use Rattle.prefixes.proofs.formed_until.Goals.{After-ascii_end}

-- the run of ASCII behind the first byte
run : (c : After-ascii_end) → Ascii c.args.s.now (c.loop-at.at + 1) (c.loop-at.at + 1 + c.ascii_end.result)
run c =
    let s = c.args.s.now in
    let from = c.loop-at.at + 1 in
    ascii_part s from (length s - from) _ (search rules) c.ascii_end.ensures.upto

pub loop-at-init : goal.loop-at-init
loop-at-init c = c.requires.0

pub overflow_add-at : goal.overflow_add-at
overflow_add-at c = let w = (run (goal.at.overflow_add-at c).After-ascii_end).within in search rules

pub loop-at-smaller-then-s-at-lt128 : goal.loop-at-smaller-then-s-at-lt128
loop-at-smaller-then-s-at-lt128 c = let w = (run (goal.at.loop-at-smaller-then-s-at-lt128 c).After-ascii_end).within in search rules

pub loop-at-preserved-then-s-at-lt128 : goal.loop-at-preserved-then-s-at-lt128
loop-at-preserved-then-s-at-lt128 c =
    let s = c.args.s.now in
    let h = c.loop-at-test.true in
    past _ _ _ (run (goal.at.loop-at-preserved-then-s-at-lt128 c).After-ascii_end) (more _ _ 1 c.loop-at.invariant (search rules) (width_ascii _ _ (rw (byte_is s c.loop-at.at (search rules)) at c.if-s-at-lt128.true)) (λ e. omega arith))

pub overflow_add-at-then-common-ne0 : goal.overflow_add-at-then-common-ne0
overflow_add-at-then-common-ne0 c = omega (arith, rw (c.common_len-common.ensures c.if-common-ne0.true) at (width_in c.args.s.now c.loop-at.at c.loop-at.invariant.within))

pub loop-at-smaller-then-common-ne0 : goal.loop-at-smaller-then-common-ne0
loop-at-smaller-then-common-ne0 c = omega (arith, rw (c.common_len-common.ensures c.if-common-ne0.true) at (width_in c.args.s.now c.loop-at.at c.loop-at.invariant.within))

pub loop-at-preserved-then-common-ne0 : goal.loop-at-preserved-then-common-ne0
loop-at-preserved-then-common-ne0 c = more _ _ _ c.loop-at.invariant (search rules) (c.common_len-common.ensures c.if-common-ne0.true) c.if-common-ne0.true

pub overflow_add-at-then-long-ne0 : goal.overflow_add-at-then-long-ne0
overflow_add-at-then-long-ne0 c = omega (arith, rw (c.long_len-long.ensures c.if-long-ne0.true) at (width_in c.args.s.now c.loop-at.at c.loop-at.invariant.within))

pub loop-at-smaller-then-long-ne0 : goal.loop-at-smaller-then-long-ne0
loop-at-smaller-then-long-ne0 c = omega (arith, rw (c.long_len-long.ensures c.if-long-ne0.true) at (width_in c.args.s.now c.loop-at.at c.loop-at.invariant.within))

pub loop-at-preserved-then-long-ne0 : goal.loop-at-preserved-then-long-ne0
loop-at-preserved-then-long-ne0 c = more _ _ _ c.loop-at.invariant (search rules) (c.long_len-long.ensures c.if-long-ne0.true) c.if-long-ne0.true

pub returns-then-len-eq0 : goal.returns-then-len-eq0
returns-then-len-eq0 c = (c.loop-at.invariant, λ h. sym c.char_len-len.ensures ∙ c.if-len-eq0.true)

pub overflow_add-at-in-loop-at : goal.overflow_add-at-in-loop-at
overflow_add-at-in-loop-at c = omega (arith, rw (← c.char_len-len.ensures) at (width_in c.args.s.now c.loop-at.at c.loop-at.invariant.within))

pub loop-at-smaller : goal.loop-at-smaller
loop-at-smaller c = omega (arith, rw (← c.char_len-len.ensures) at (width_in c.args.s.now c.loop-at.at c.loop-at.invariant.within))

pub loop-at-preserved : goal.loop-at-preserved
loop-at-preserved c = more _ _ _ c.loop-at.invariant (search rules) (sym c.char_len-len.ensures) c.if-len-eq0.false

pub returns : goal.returns
returns c = (c.loop-at.invariant, λ h. absurd (omega (arith, c.loop-at-test.false)))
