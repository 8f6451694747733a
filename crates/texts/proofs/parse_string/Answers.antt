use borrow.Author.Tests.{le-ltb}
use mathlib.Core.Path.{refl}
use Rattle.texts.proofs.Laws.{too_large_is}
use Rattle.texts.proofs.parse_string.Goals as goal

pub returns-then-s-gt-LARGEST_BODY : goal.returns-then-s-gt-LARGEST_BODY
returns-then-s-gt-LARGEST_BODY c = rw (too_large_is _ _ c.then-s-gt-LARGEST_BODY.either) (rw c.refused_at.ensures, refl)

pub returns : goal.returns
returns c = rw (le-ltb _ _ c.if-s-gt-LARGEST_BODY.false, le-ltb _ _ c.if-used-gt-LARGEST_TEXT.false) c.string_text.ensures
