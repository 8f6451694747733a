use borrow.Author.Rules.{rules}
use native.Mathlib.Omega.{arith}
use mathlib.Core.Path.{◌≡◌, refl, sym, ◌∙◌, ap}
use Rattle.definition.specs.Chars.{byte}
use Rattle.definition.proofs.Moves.CharLaws.{byte_is}
use Rattle.marks.specs.Marks.{special}
use Rattle.plain.specs.Plain.{plain_end}
use Rattle.plain.proofs.Runs.{end_special, end_plain}
use Rattle.plain.proofs.plain_to.Goals as goal
use Rattle.plain.proofs.plain_to.Goals.{After-is_special}

-- the byte's test
told : (c : After-is_special) → let a = c.args in c.is_special.result ≡ special a.kind (byte a.s.now c.loop-i.i)
told c = c.is_special.ensures ∙ rw (byte_is c.args.s.now c.loop-i.i (omega (arith, c.loop-i-test.true, c.requires.1)))

pub loop-i-init : goal.loop-i-init
loop-i-init c = (omega arith, c.requires.0, refl)

pub returns-then-is_special : goal.returns-then-is_special
returns-then-is_special c =
    let a = c.args in
    record { on = c.loop-i.invariant.0; within = c.loop-i.invariant.1; same = c.loop-i.invariant.2; ends = λ h. end_special a.kind a.s.now _ (search rules) (sym (told (goal.at.returns-then-is_special c).After-is_special) ∙ c.if-is_special.true) }

pub loop-i-preserved : goal.loop-i-preserved
loop-i-preserved c = let a = c.args in (omega (arith, c.loop-i.invariant.0), search rules, c.loop-i.invariant.2 ∙ end_plain a.kind a.s.now _ (search rules) (sym (told (goal.at.loop-i-preserved c).After-is_special) ∙ c.if-is_special.false))

pub returns : goal.returns
returns c =
    let a = c.args in
    let e : c.loop-i.i ≡ a.to = omega (arith, c.loop-i.invariant.1, c.loop-i-test.false) in
    record { on = c.requires.0; within = omega arith; same = c.loop-i.invariant.2 ∙ ap (plain_end a.kind a.s.now) e; ends = λ h. absurd (omega (arith, h)) }
