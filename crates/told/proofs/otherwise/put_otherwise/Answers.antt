use borrow.Author.Rules.{rules}
use borrow.Author.Tests.{lt-ltb, le-ltb}
use Rattle.told.specs.Rows.{told_otherwise}
use Rattle.told.proofs.Rows.{wrote_none, wrote_one, otherwise_short}
use Rattle.told.proofs.otherwise.put_otherwise.Goals as goal

pub returns-then-s-place : goal.returns-then-s-place
unfolding told_otherwise
returns-then-s-place c = rw (← c.otherwise-place.ensures, le-ltb _ _ c.if-s-place.true) (wrote_none _ _)

pub overflow_cast-told : goal.overflow_cast-told
unfolding told_otherwise
overflow_cast-told c = let a = c.args in let e = c.otherwise-place.ensures in let k = otherwise_short a.s.now a.f (rw e at c.if-s-place.false) in search rules

pub returns : goal.returns
unfolding told_otherwise
returns c = rw (← c.otherwise-place.ensures, lt-ltb _ _ c.if-s-place.false) (wrote_one _ _ _ _ c.put_refusal.ensures)
