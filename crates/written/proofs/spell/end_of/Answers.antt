use mathlib.Core.Path.{refl}
use borrow.Author.Tests.{eq-eqb, ne_eqb}
use Rattle.written.proofs.spell.end_of.Goals as goal

pub returns-then-parts-eq0 : goal.returns-then-parts-eq0
returns-then-parts-eq0 c = rw (eq-eqb _ 0 c.if-parts-eq0.true) refl

pub returns-else-parts-eq0 : goal.returns-else-parts-eq0
returns-else-parts-eq0 c = rw (ne_eqb _ 0 c.if-parts-eq0.false) refl
