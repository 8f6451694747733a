use borrow.Author.Tests.{eq-eqb, ne_eqb}
use Rattle.definition.specs.Counts.{more}
use Rattle.counts.proofs.Count.more.Goals as goal

pub returns-then-c : goal.returns-then-c
unfolding more
returns-then-c c = rw (eq-eqb _ _ c.if-c.true)

pub returns-else-c : goal.returns-else-c
unfolding more
returns-else-c c = rw (ne_eqb _ _ c.if-c.false)
