use native.Mathlib.Nat.{sub-zero}
use mathlib.Core.Path.{◌≡◌, refl, sym, ◌∙◌, ap}
use mathlib.Core.Bool.{Bool}
use native.Mathlib.Numerals.{add-one}
use Rattle.definition.specs.Entry.{bad, all_good}
use Rattle.definition.specs.Reading.{outcome_of}
use Rattle.entry.specs.Answers.{described}
use Rattle.entry.specs.Literals.{literal_at}
use Rattle.entry.proofs.Literals.{end_before, bad_turn, bad_found, bad_none}
use Rattle.entry.proofs.Passed.{why}
use Rattle.refusals.proofs.all_good.Goals as goal
use Rattle.refusals.proofs.all_good.Goals.{After-is_bad}

-- what the test says of the literal
told : (c : After-is_bad) (b : Bool) → c.is_bad.result ≡ b → let a = c.args in let i = c.loop-i.i in bad a.script.now (end_before a.numbers.now i) (literal_at a.numbers.now i) ≡ b
told c b t = rw (← c.loop-i.invariant.0, ← c.literal_at-l.ensures) (sym c.is_bad.ensures ∙ t)

pub loop-i-init : goal.loop-i-init
unfolding all_good outcome_of end_before described
loop-i-init c = (refl, rw sub-zero)

pub returns-then-is_bad : goal.returns-then-is_bad
unfolding all_good outcome_of end_before described
returns-then-is_bad c = rw (c.refuse.ensures, c.loop-i.invariant.1, bad_found _ _ _ why c.loop-i.i c.loop-i-test.true (told (goal.at.returns-then-is_bad c).After-is_bad _ c.if-is_bad.true))

pub loop-i-preserved : goal.loop-i-preserved
unfolding all_good outcome_of end_before described
loop-i-preserved c = (rw (add-one c.loop-i.i) (ap (λ l. l.end) c.literal_at-l.ensures), c.loop-i.invariant.1 ∙ bad_turn _ _ _ _ c.loop-i.i c.loop-i-test.true (told (goal.at.loop-i-preserved c).After-is_bad _ c.if-is_bad.false))

pub returns : goal.returns
unfolding all_good outcome_of end_before described
returns c = rw (c.loop-i.invariant.1, bad_none _ _ (bad _) why c.loop-i.i c.loop-i-test.false)
