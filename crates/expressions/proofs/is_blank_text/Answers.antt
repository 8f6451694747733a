use native.Mathlib.Omega.{arith}
use mathlib.Core.Path.{refl, sym, ◌∙◌}
use Rattle.definition.proofs.Moves.CharLaws.{next_past}
use Rattle.utf8.proofs.Steps.{step_char, step_end}
use Rattle.expressions.proofs.BlankLaws.{blank_over, blank_on, blank_not}
use Rattle.expressions.proofs.is_blank_text.Goals as goal

pub loop-at-init : goal.loop-at-init
loop-at-init c = refl

pub returns-in_default : goal.returns-in_default
returns-in_default c = sym (c.loop-at.invariant ∙ blank_over _ _ (step_end _ _ (sym c.next_char.ensures ∙ c.in_default.is)))

pub loop-at-smaller : goal.loop-at-smaller
loop-at-smaller c = let S = step_char _ _ _ _ (sym c.next_char.ensures ∙ c.in-Char.is) in omega (arith, S.next_is, next_past c.args.s.now c.loop-at.at S.there, S.there)

pub loop-at-preserved : goal.loop-at-preserved
loop-at-preserved c = let S = step_char _ _ _ _ (sym c.next_char.ensures ∙ c.in-Char.is) in c.loop-at.invariant ∙ blank_on _ _ _ _ S.there S.code_is S.next_is (sym c.is_blank.ensures ∙ c.if-not-is_blank.false)

pub returns-then-not-is_blank : goal.returns-then-not-is_blank
returns-then-not-is_blank c = let S = step_char _ _ _ _ (sym c.next_char.ensures ∙ c.in-Char.is) in blank_not _ _ _ S.there S.code_is (sym c.is_blank.ensures ∙ c.if-not-is_blank.true) ∙ sym c.loop-at.invariant

pub returns : goal.returns
returns c = sym (c.loop-at.invariant ∙ blank_over c.args.s.now c.loop-at.at (omega (arith, c.loop-at-test.false)))
