use borrow.Author.Rules.{rules}
use native.Mathlib.Omega.{arith}
use mathlib.Core.Path.{sym, ◌∙◌}
use mathlib.Core.Bool.{not}
use Rattle.definition.proofs.Moves.CharLaws.{before_end, before_here, before_next}
use Rattle.marks.specs.Marks.{passing}
use Rattle.marks.proofs.passing_end.Goals as goal

pub returns-then-not-is_passing : goal.returns-then-not-is_passing
returns-then-not-is_passing c = sym (c.loop-i.invariant ∙ before_here _ _ _ 0 c.loop-i-test.true (rw (← c.is_passing.ensures) (search rules)))

pub loop-i-preserved : goal.loop-i-preserved
loop-i-preserved c = c.loop-i.invariant ∙ before_next _ _ _ 0 c.loop-i-test.true (rw (← c.is_passing.ensures) (search rules))

pub returns : goal.returns
returns c =
    grind (arith, before_end (λ b. not (passing b)) c.args.s.now c.args.at 0, before_end (λ b. not (passing b)) c.args.s.now c.loop-i.i 0)
