use borrow.Author.Rules.{rules}
use mathlib.Core.Path.{sym, ◌∙◌}
use Rattle.utf8.proofs.Steps.{step_char, step_end}
use Rattle.tokens.proofs.TokenLaws.{past_end, not_backslash, past_brace, not_brace}
use Rattle.tokens.proofs.past_staying.Goals as goal

pub returns-in-123 : goal.returns-in-123
returns-in-123 c = past_brace _ _ _ _ (step_char _ _ _ _ (sym c.next_char.ensures ∙ c.in-Char-eq92-default.is)) c.in-Char-eq92-default.field-0-test _ c.peek.ensures c.in-123.is

pub returns-in_default-peek : goal.returns-in_default-peek
returns-in_default-peek c = sym (not_brace _ _ _ _ (step_char _ _ _ _ (sym c.next_char.ensures ∙ c.in-Char-eq92-default.is)) _ c.peek.ensures (search rules))

pub returns-in_default : goal.returns-in_default
returns-in_default c = sym (not_backslash _ _ _ _ (step_char _ _ _ _ (sym c.next_char.ensures ∙ c.in_default.is)) (search rules))

pub returns-in_default-2 : goal.returns-in_default-2
returns-in_default-2 c = sym (past_end _ _ (step_end _ _ (sym c.next_char.ensures ∙ c.in_default.is)))
