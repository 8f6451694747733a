use native.Mathlib.Omega.{arith}
use mathlib.Core.Path.{refl}
use borrow.Author.Tests.{eq-eqb, ne_eqb}
use Rattle.integers.specs.Written.{group_of}
use Rattle.integers.proofs.group_size.Goals as goal

pub returns-then-base-eq10 : goal.returns-then-base-eq10
unfolding group_of
returns-then-base-eq10 c = rw (eq-eqb c.args.base 10 c.if-base-eq10.true) (refl, omega arith)

pub returns-else-base-eq10 : goal.returns-else-base-eq10
unfolding group_of
returns-else-base-eq10 c = rw (ne_eqb c.args.base 10 c.if-base-eq10.false) (refl, omega arith)
