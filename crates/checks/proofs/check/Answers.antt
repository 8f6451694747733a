use native.Mathlib.Omega.{arith}
use mathlib.Core.Path.{refl, sym, ◌∙◌}
use Rattle.entry.proofs.Checks.{checked_not_sixes, checked_none, checked_many, checked_few}
use Rattle.checks.proofs.check.Goals as goal

pub returns-then-n-eq0 : goal.returns-then-n-eq0
returns-then-n-eq0 c = c.refuse.ensures ∙ sym (checked_none _ _ 0 (omega (arith, c.if-n-eq0.true)) refl)

pub returns-then-n-ne0 : goal.returns-then-n-ne0
returns-then-n-ne0 c = c.refuse-then-n-ne0.ensures ∙ sym (checked_not_sixes _ _ c.if-n-ne0.true)

pub returns-then-count-gt1024 : goal.returns-then-count-gt1024
returns-then-count-gt1024 c = c.refuse-then-count-gt1024.ensures ∙ sym (checked_many _ _ _ (omega arith) c.if-count-gt1024.true)

pub returns : goal.returns
returns c = c.check_literals.ensures ∙ sym (checked_few _ _ _ (omega arith) (omega arith) c.if-count-gt1024.false)
