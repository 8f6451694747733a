use mathlib.Core.Path.{◌≡◌, sym, ◌∙◌}
use native.Mathlib.Omega.{arith}
use Rattle.definition.proofs.Moves.CharLaws.{before_end, before_here, before_next}
use Rattle.searches.proofs.Threes.{is_first, is_second, is_third, is_none}
use Rattle.searches.proofs.first_of.Goals as goal
use Rattle.searches.proofs.first_of.Goals.{then-x-a-via-then-x-a, then-x-a-via-else-x-a+then-x-b, then-x-a-via-else-x-a+else-x-b+then-x-c}

pub returns-then-x-a : goal.returns-then-x-a
returns-then-x-a c =
    let here = c.loop-i-test.true in
    sym (c.loop-i.invariant.1 ∙ before_here _ _ _ 0 here (elim c.then-x-a.branch [
      | then-x-a-via-then-x-a w ↦ is_first _ _ _ _ w.if-x-a.true
      | then-x-a-via-else-x-a+then-x-b w ↦ is_second _ _ _ _ w.if-x-b.true
      | then-x-a-via-else-x-a+else-x-b+then-x-c w ↦ is_third _ _ _ _ w.if-x-c.true
    ]))

pub loop-i-preserved : goal.loop-i-preserved
loop-i-preserved c = (omega (arith, c.loop-i-test.true), c.loop-i.invariant.1 ∙ before_next _ _ _ 0 c.loop-i-test.true (is_none _ _ _ _ c.if-x-a.false c.if-x-b.false c.if-x-c.false))

pub returns : goal.returns
returns c =
    let at_end : c.max.result ≡ c.loop-i.i = omega arith in
    at_end ∙ sym (c.loop-i.invariant.1 ∙ before_end _ _ _ 0 c.loop-i-test.false)
