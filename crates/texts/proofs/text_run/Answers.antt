use native.Mathlib.Omega.{arith}
use borrow.Author.Tests.{le-ltb}
use mathlib.Core.Path.{refl}
use Rattle.texts.proofs.Laws.{text_deep, too_large_is}
use Rattle.texts.proofs.text_run.Goals as goal

pub returns-then-s-gt-LARGEST_BODY : goal.returns-then-s-gt-LARGEST_BODY
returns-then-s-gt-LARGEST_BODY c = rw (too_large_is _ _ c.then-s-gt-LARGEST_BODY.either) (rw c.refused_at.ensures, refl)

pub returns-then-nested-ge2 : goal.returns-then-nested-ge2
returns-then-nested-ge2 c = rw (le-ltb _ _ c.if-s-gt-LARGEST_BODY.false, le-ltb _ _ c.if-used-gt-LARGEST_TEXT.false) (rw c.refused_at-then-nested-ge2.ensures (text_deep _ _ _ _ _ _ _ (omega (arith, c.if-nested-ge2.true))))

pub returns : goal.returns
returns c = rw (le-ltb _ _ c.if-s-gt-LARGEST_BODY.false, le-ltb _ _ c.if-used-gt-LARGEST_TEXT.false) c.fstring_text.ensures
