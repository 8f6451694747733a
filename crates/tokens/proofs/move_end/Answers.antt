use borrow.Author.Rules.{rules}
use mathlib.Core.Path.{sym, ◌∙◌}
use Rattle.utf8.proofs.Steps.{step_char, step_end}
use Rattle.tokens.proofs.TokenLaws.{past_none, plain_end_lem}
use Rattle.tokens.proofs.move_end.Goals as goal

pub returns-in_default : goal.returns-in_default
returns-in_default c = past_none _ _ (step_end _ _ (sym c.next_char.ensures ∙ c.in_default.is))

pub left_end-requires : goal.left_end-requires
left_end-requires c = (rw c.in-123.is at (step_char _ _ _ _ (sym c.next_char.ensures ∙ c.in-Char.is)), search rules)

pub right_end-requires : goal.right_end-requires
right_end-requires c = rw c.in-125.is at (step_char _ _ _ _ (sym c.next_char.ensures ∙ c.in-Char.is))

pub backslash_end-requires : goal.backslash_end-requires
backslash_end-requires c = (rw c.in-92.is at (step_char _ _ _ _ (sym c.next_char.ensures ∙ c.in-Char.is)), search rules)

pub returns-in-123 : goal.returns-in-123
returns-in-123 c = c.left_end.ensures

pub returns-in-125 : goal.returns-in-125
returns-in-125 c = c.right_end.ensures

pub returns-in-92 : goal.returns-in-92
returns-in-92 c = c.backslash_end.ensures

pub returns-in_default-c : goal.returns-in_default-c
returns-in_default-c c = plain_end_lem _ _ _ _ (step_char _ _ _ _ (sym c.next_char.ensures ∙ c.in-Char.is)) (search rules) (search rules) (search rules)
