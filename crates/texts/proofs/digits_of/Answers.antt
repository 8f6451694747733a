use borrow.Author.Tests.{lt-leb}
use lib.Dec.{lit≤}
use Rattle.definition.specs.Escapes.{escape_case}
use Rattle.texts.proofs.digits_of.Goals as goal

pub returns-in-120 : goal.returns-in-120
unfolding escape_case
returns-in-120 c = (lit≤ tt, λ s i h e. rw (lt-leb _ _ h, e, c.in-120.is, escape_case))

pub returns-in-117 : goal.returns-in-117
unfolding escape_case
returns-in-117 c = (lit≤ tt, λ s i h e. rw (lt-leb _ _ h, e, c.in-117.is, ← c.is_any_bytes.ensures, c.if-not-is_any_bytes.true, escape_case))
