use native.Mathlib.Omega.{arith}
use mathlib.Core.Path.{refl, ◌∙◌}
use borrow.Author.Tests.{ne_eqb}
use Rattle.sources.proofs.Odds.{not_triple, is_triple}
use Rattle.sources.proofs.quoted_inside.Goals as goal

pub returns-else-l-eq1 : goal.returns-else-l-eq1
returns-else-l-eq1 c = ne_eqb _ 1 c.if-l-eq1.false ∙ not_triple _ _ c.requires c.if-l-eq1.false

pub overflow_sub-l : goal.overflow_sub-l
overflow_sub-l c = omega (arith, c.requires.ahead)

pub bounds-s-l : goal.bounds-s-l
bounds-s-l c = omega (arith, c.requires.ahead, c.requires.end_in)

pub byte_in-requires : goal.byte_in-requires
byte_in-requires c = (omega arith, c.requires.body_in)

pub returns-then-l-eq1 : goal.returns-then-l-eq1
returns-then-l-eq1 c = is_triple _ _ c.requires _ _ c.if-l-eq1.true refl c.byte_in.ensures
