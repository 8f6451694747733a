use mathlib.Core.Path.{◌≡◌}
use native.Mathlib.Omega.{arith}
use Rattle.digits.proofs.Digits.{valued_starts, valued_not, valued_end, valued_more}
use Rattle.digits.proofs.read_digits.Goals as goal

pub loop-i-init : goal.loop-i-init
loop-i-init c = record { valued = valued_starts _ _; within = omega arith }

pub returns-then-not-is_ascii_digit : goal.returns-then-not-is_ascii_digit
returns-then-not-is_ascii_digit c = valued_not _ _ _ _ c.loop-i.invariant.valued c.tell.ensures c.loop-i-test.true c.if-not-is_ascii_digit.ensures.cases

pub loop-i-preserved : goal.loop-i-preserved
loop-i-preserved c =
    let d = c.if-not-is_ascii_digit.ensures.cases in
    record { valued = valued_more _ _ _ _ c.loop-i.invariant.valued c.more_value-value.ensures c.loop-i-test.true d.0 d.1; within = omega arith }

pub returns : goal.returns
returns c =
    let h = c.loop-i.invariant.within in
    let e : c.max.result ≡ c.loop-i.i = omega arith in
    valued_end _ _ _ _ c.loop-i.invariant.valued (rw e at c.tell-2.ensures) c.loop-i-test.false
