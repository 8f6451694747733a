use borrow.Author.Tests.{le-leb}
use mathlib.Core.Path.{sym, ◌∙◌}
use Rattle.definition.specs.Chars.{code}
use Rattle.definition.proofs.Moves.CharLaws.{code_ascii}
use Rattle.utf8.proofs.Steps.{step_char, step_end}
use Rattle.utf8.proofs.Cursor.peek.Goals as goal

pub returns-then-s-at : goal.returns-then-s-at
unfolding code
returns-then-s-at c = rw (le-leb _ _ c.if-s-at.true)

pub returns-then-b-lt128 : goal.returns-then-b-lt128
unfolding code
returns-then-b-lt128 c = let a = c.args in c.byte_at-b.ensures ∙ sym (code_ascii a.s.now a.self.at (rw c.byte_at-b.ensures at c.if-b-lt128.true))

pub returns-in_default : goal.returns-in_default
unfolding code
returns-in_default c = rw (le-leb _ _ (step_end _ _ (sym c.next_wide.ensures ∙ c.in_default.is)))

pub returns : goal.returns
unfolding code
returns c = sym (step_char _ _ _ _ (sym c.next_wide.ensures ∙ c.in-Char.is)).code_is
