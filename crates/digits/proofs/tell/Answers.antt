use mathlib.Core.Path.{refl}
use Rattle.digits.proofs.Digits.{told_none, told_some}
use Rattle.digits.proofs.tell.Goals as goal

pub returns-then-next-at : goal.returns-then-next-at
returns-then-next-at c = (told_none _ _ _ c.if-next-at.true, refl)

pub returns-else-next-at : goal.returns-else-next-at
returns-else-next-at c = (told_some _ _ _ c.if-next-at.false, refl)
