use native.Mathlib.Nat.{sub-zero}
use mathlib.Core.Path.{◌≡◌, sym, ◌∙◌}
use mathlib.Core.Bool.{Bool}
use Rattle.entry.specs.Answers.{described, is_of}
use Rattle.entry.specs.Literals.{literal_at}
use Rattle.entry.proofs.Literals.{any_turn, any_found, any_none}
use Rattle.entry.proofs.any_of.Goals as goal
use Rattle.entry.proofs.any_of.Goals.{After-is_of}

-- what the test says of the literal
told : (c : After-is_of) (b : Bool) → c.is_of.result ≡ b → let a = c.args in is_of a.class (literal_at a.numbers.now c.loop-i.i).kind ≡ b
unfolding described
told c b t = rw (← c.literal_at.ensures) (sym c.is_of.ensures ∙ t)

pub loop-i-init : goal.loop-i-init
loop-i-init c = rw sub-zero

pub returns-then-is_of : goal.returns-then-is_of
returns-then-is_of c = sym (c.loop-i.invariant ∙ any_found _ _ _ c.loop-i.i c.loop-i-test.true (told (goal.at.returns-then-is_of c).After-is_of _ c.if-is_of.true))

pub loop-i-preserved : goal.loop-i-preserved
loop-i-preserved c = c.loop-i.invariant ∙ any_turn _ _ _ c.loop-i.i c.loop-i-test.true (told (goal.at.loop-i-preserved c).After-is_of _ c.if-is_of.false)

pub returns : goal.returns
returns c = sym (c.loop-i.invariant ∙ any_none _ _ _ c.loop-i.i c.loop-i-test.false)
