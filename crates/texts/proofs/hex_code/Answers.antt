use native.Mathlib.Omega.{arith}
use native.Mathlib.Nat.{sub_self, pow-le-pow_right, lt_of_lt_of_le}
use Prim.Native.Nat.{suc, ◌+◌, ◌-◌, ◌≤◌, ◌<◌}
use mathlib.Core.Path.{◌≡◌, refl, ◌∙◌, ap}
use lib.Dec.{lit<}
use lib.ListN.{length}
use Rattle.definition.specs.Escapes.{got, stands}
use Rattle.definition.proofs.Moves.CharLaws.{byte_is}
use Rattle.escapes.proofs.Digits.{digits_below, digits_fit, hex_done}
use Rattle.texts.proofs.Codes.{digit_more}
use Rattle.texts.proofs.hex_code.Goals as goal

pub loop-i-init : goal.loop-i-init
loop-i-init c =
    let a = c.args in
    let e : a.from + a.digits - a.from ≡ a.digits = omega arith in
    (omega arith, omega arith, rw sub_self (lit< tt), λ letter. rw e refl)

pub overflow_mul-p : goal.overflow_mul-p
overflow_mul-p c = let h = digits_fit 16 (c.loop-i.i - c.args.from) 4 c.loop-i.p _ (lit< tt) (omega (arith, c.loop-i.invariant.0, c.loop-i-test.true, c.requires.1)) c.loop-i.invariant.2 c.in_ok-d.ensures.digit in omega arith

pub overflow_add-p : goal.overflow_add-p
overflow_add-p c = let h = digits_fit 16 (c.loop-i.i - c.args.from) 4 c.loop-i.p _ (lit< tt) (omega (arith, c.loop-i.invariant.0, c.loop-i-test.true, c.requires.1)) c.loop-i.invariant.2 c.in_ok-d.ensures.digit in omega arith

pub loop-i-preserved : goal.loop-i-preserved
loop-i-preserved c =
    let a = c.args in
    let to = a.from + a.digits in
    let t = c.loop-i-test.true in
    let v = c.loop-i.invariant in
    let h : c.loop-i.i < length a.s.now = omega (arith, t, c.if-s-from.false, c.requires.0) in
    let n : suc (c.loop-i.i - a.from) ≡ c.loop-i.i + 1 - a.from = omega (arith, v.0) in
    let m : to - c.loop-i.i - 1 ≡ to - (c.loop-i.i + 1) = omega arith in (
      omega (arith, v.0),
      omega (arith, t),
      rw n at (digits_below 16 _ _ _ v.2 c.in_ok-d.ensures.digit),
      λ letter. v.3 letter ∙ digit_more (to - c.loop-i.i) c.loop-i.p a.s.now c.loop-i.i _ letter (omega (arith, t)) h (rw (← byte_is a.s.now c.loop-i.i h, ← c.from.ensures) c.in_ok-d.ensures.value) c.in_ok-d.ensures.digit ∙ rw m refl,
    )

pub scalar_of-requires : goal.scalar_of-requires
scalar_of-requires c = let k : c.loop-i.i - c.args.from ≤ 4 = omega (arith, c.loop-i.invariant.1, c.requires.1) in lt_of_lt_of_le c.loop-i.invariant.2 (pow-le-pow_right (lit< tt) k)

pub returns : goal.returns
returns c =
    λ letter. let a = c.args in
    let e : c.loop-i.i ≡ a.from + a.digits = omega (arith, c.loop-i.invariant.1, c.loop-i-test.false) in
    c.loop-i.invariant.3 letter ∙ hex_done _ _ _ _ letter (omega (arith, c.loop-i-test.false)) ∙ c.scalar_of.ensures c.loop-i.i letter ∙ ap (got (stands c.scalar_of.result)) e
