use native.Mathlib.Omega.{arith}
use mathlib.Core.Path.{refl, sym, ◌∙◌}
use Rattle.expressions.proofs.ScanLaws.{scan_from, scan_over, scan_pair, scan_sign, scan_off, scan_on}
use Rattle.expressions.proofs.is_clean.Goals as goal

pub loop-i-init : goal.loop-i-init
loop-i-init c = (scan_from c.args.s.now _, omega arith, refl)

pub is_pair-requires : goal.is_pair-requires
is_pair-requires c = c.loop-i-test.true

pub loop-i-smaller-then-is_pair : goal.loop-i-smaller-then-is_pair
loop-i-smaller-then-is_pair c = omega (arith, c.loop-i-test.true)

pub loop-i-preserved-then-is_pair : goal.loop-i-preserved-then-is_pair
loop-i-preserved-then-is_pair c = let v = c.loop-i.invariant in (v.0 ∙ scan_pair c.args.s.now c.loop-i.stack c.loop-i.quote c.loop-i.depth c.loop-i.i c.loop-i-test.true (sym c.is_pair.ensures ∙ c.if-is_pair.true), v.1, v.2)

pub returns-then-is_ending : goal.returns-then-is_ending
returns-then-is_ending c = let v = c.loop-i.invariant in scan_sign c.args.s.now c.loop-i.stack c.loop-i.quote c.loop-i.depth c.loop-i.i c.loop-i-test.true (sym c.is_pair.ensures ∙ c.if-is_pair.false) (sym c.is_ending.ensures ∙ c.if-is_ending.true) ∙ sym v.0

pub see_byte-requires : goal.see_byte-requires
see_byte-requires c = (c.loop-i.invariant.1, c.loop-i.invariant.2)

pub returns-in_default : goal.returns-in_default
returns-in_default c = let v = c.loop-i.invariant in scan_off c.args.s.now c.loop-i.stack c.loop-i.quote c.loop-i.depth c.loop-i.i c.loop-i-test.true (sym c.is_pair.ensures ∙ c.if-is_pair.false) (sym c.is_ending.ensures ∙ c.if-is_ending.false) c.in_default.ensures.is ∙ sym v.0

pub loop-i-smaller : goal.loop-i-smaller
loop-i-smaller c = omega (arith, c.loop-i-test.true)

pub loop-i-preserved : goal.loop-i-preserved
loop-i-preserved c = let v = c.loop-i.invariant in let k = c.in-Some.ensures in (v.0 ∙ scan_on c.args.s.now c.loop-i.stack c.loop-i.quote c.loop-i.depth c.loop-i.i c.loop-i-test.true (sym c.is_pair.ensures ∙ c.if-is_pair.false) (sym c.is_ending.ensures ∙ c.if-is_ending.false) _ _ _ k.is.0 k.is.1, k.is.0, k.full)

pub returns : goal.returns
returns c = c.is_settled.ensures ∙ scan_over c.args.s.now c.loop-i.stack c.loop-i.quote c.loop-i.depth c.loop-i.i (omega (arith, c.loop-i-test.false)) ∙ sym c.loop-i.invariant.0
