use native.Mathlib.Omega.{arith}
use Prim.Native.Nat.{◌+◌}
use borrow.Author.Tests.{le-leb, lt-leb}
use Rattle.definition.proofs.Moves.CharLaws.{byte_is}
use Rattle.prefixes.specs.Fits.{last_start}
use Rattle.prefixes.proofs.last_start.Goals as goal

pub returns-then-s-i-ge194 : goal.returns-then-s-i-ge194
unfolding last_start
returns-then-s-i-ge194 c =
    let a = c.args in
    rw (← byte_is a.s.now (a.i + 2) (omega arith), le-leb _ _ c.if-s-i-ge194.true)

pub returns-then-s-i-ge224 : goal.returns-then-s-i-ge224
unfolding last_start
returns-then-s-i-ge224 c =
    let a = c.args in
    rw (← byte_is a.s.now (a.i + 2) (omega arith), lt-leb _ _ c.if-s-i-ge194.false, ← byte_is a.s.now (a.i + 1) (omega arith), le-leb _ _ c.if-s-i-ge224.true)

pub returns-then-s-i-ge240 : goal.returns-then-s-i-ge240
unfolding last_start
returns-then-s-i-ge240 c =
    let a = c.args in
    rw (← byte_is a.s.now (a.i + 2) (omega arith), lt-leb _ _ c.if-s-i-ge194.false, ← byte_is a.s.now (a.i + 1) (omega arith), lt-leb _ _ c.if-s-i-ge224.false, ← byte_is a.s.now a.i (omega arith), le-leb _ _ c.if-s-i-ge240.true)

pub returns-else-s-i-ge240 : goal.returns-else-s-i-ge240
unfolding last_start
returns-else-s-i-ge240 c =
    let a = c.args in
    rw (← byte_is a.s.now (a.i + 2) (omega arith), lt-leb _ _ c.if-s-i-ge194.false, ← byte_is a.s.now (a.i + 1) (omega arith), lt-leb _ _ c.if-s-i-ge224.false, ← byte_is a.s.now a.i (omega arith), lt-leb _ _ c.if-s-i-ge240.false)
