use mathlib.Core.Path.{sym, ◌∙◌}
use borrow.Author.Tests.{eq-eqb, ne_eqb}
use Rattle.definition.proofs.Moves.CharLaws.{before_end, before_here, before_next}
use Rattle.marks.proofs.run_end.Goals as goal

pub run-preserved : goal.run-preserved
run-preserved c = c.run.invariant ∙ before_next _ _ _ 0 c.if-s-i.false (rw c.from.ensures at (ne_eqb _ _ c.if-from-quote.false))

pub returns-then-s-i : goal.returns-then-s-i
returns-then-s-i c = sym (c.run.invariant ∙ before_end _ _ _ 0 c.if-s-i.true)

pub returns-then-from-quote : goal.returns-then-from-quote
returns-then-from-quote c = sym (c.run.invariant ∙ before_here _ _ _ 0 c.if-s-i.false (rw c.from.ensures at (eq-eqb _ _ c.if-from-quote.true)))
