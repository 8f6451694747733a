use borrow.Author.Tests.{le-leb, lt-leb}
use mathlib.Core.Path.{sym, ◌∙◌}
use Rattle.utf8.proofs.Steps.{step_char, step_end}
use Rattle.edges.proofs.end_field.Goals as goal

pub returns-in_default : goal.returns-in_default
returns-in_default c = let h = step_end _ _ (sym c.next_char.ensures ∙ c.in_default.is) in rw (le-leb _ _ h, c.unclosed_brace.ensures)

pub returns-then-blank : goal.returns-then-blank
returns-then-blank c = let t = step_char _ _ _ _ (sym c.next_char.ensures ∙ c.in-Char.is) in rw (lt-leb _ _ t.there, c.if-blank.true, t.next_is, c.refused_at.ensures)

pub returns : goal.returns
returns c = let t = step_char _ _ _ _ (sym c.next_char.ensures ∙ c.in-Char.is) in rw (lt-leb _ _ t.there, c.if-blank.false, t.next_is)
