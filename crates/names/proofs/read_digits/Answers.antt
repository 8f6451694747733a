use Rattle.std.proofs.Common.{arith, refl, sym, ◌≡◌}
use Rattle.names.proofs.Scans.{digits_end, digits_mark, digits_none, digits_great, digits_more}
use Rattle.names.proofs.read_digits.Goals as goal

pub loop-i-init : goal.loop-i-init
loop-i-init c = (record { value = refl; ends = refl }, omega arith, omega arith)

pub returns-then-b-eq59 : goal.returns-then-b-eq59
returns-then-b-eq59 c = (digits_mark _ _ _ _ c.loop-i.invariant.0 c.loop-i-test.true c.if-b-eq59.true, c.loop-i.invariant.1)

pub returns-in_err-d : goal.returns-in_err-d
returns-in_err-d c = rw c.from_residual.ensures (sym (digits_none _ _ _ _ c.loop-i.invariant.0 c.loop-i-test.true c.if-b-eq59.false 16 c.in_err-d.ensures.value (omega arith)).is)

pub returns-then-v-ge1048576 : goal.returns-then-v-ge1048576
returns-then-v-ge1048576 c = sym (digits_great _ _ _ _ c.loop-i.invariant.0 c.loop-i-test.true c.if-b-eq59.false _ c.in_ok-d.ensures.value c.in_ok-d.ensures.digit c.if-v-ge1048576.true).is

pub loop-i-preserved : goal.loop-i-preserved
loop-i-preserved c = (
  digits_more _ _ _ _ c.loop-i.invariant.0 c.loop-i-test.true c.if-b-eq59.false _ c.in_ok-d.ensures.value c.in_ok-d.ensures.digit c.if-v-ge1048576.false,
  omega (arith, c.in_ok-d.ensures.digit),
  omega arith,
)

pub returns : goal.returns
returns c =
    let e : c.loop-i.i ≡ c.max.result = omega (arith, c.max.ensures) in
    (rw e at (digits_end _ _ _ _ c.loop-i.invariant.0 c.loop-i-test.false), c.loop-i.invariant.1)
