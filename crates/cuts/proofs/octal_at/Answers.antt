use borrow.Author.Tests.{ne_eqb}
use mathlib.Core.Path.{sym, ◌∙◌}
use Rattle.cuts.proofs.Octals.{no_backslash, by_second}
use Rattle.cuts.proofs.octal_at.Goals as goal

pub returns-then-s-at-eq92 : goal.returns-then-s-at-eq92
returns-then-s-at-eq92 c = c.is_octal_at.ensures ∙ sym (by_second _ _ c.requires c.if-s-at-eq92.true)

pub returns-else-s-at-eq92 : goal.returns-else-s-at-eq92
returns-else-s-at-eq92 c = rw (ne_eqb _ _ c.if-s-at-eq92.false) (no_backslash _ _ c.requires c.if-s-at-eq92.false)
