use mathlib.Core.Path.{sym, ◌∙◌}
use Rattle.utf8.proofs.Steps.{step_char, step_end}
use Rattle.edges.proofs.OpenLaws.{past_end, no_brace, last_brace_lem, brace_told}
use Rattle.edges.proofs.opens_field.Goals as goal

pub returns-in_default : goal.returns-in_default
returns-in_default c = past_end _ _ (step_end _ _ (sym c.next_char.ensures ∙ c.in_default.is))

pub returns-then-c : goal.returns-then-c
returns-then-c c = no_brace _ _ _ _ (step_char _ _ _ _ (sym c.next_char.ensures ∙ c.in-Char.is)) c.if-c.true

pub returns-in_default-next_char : goal.returns-in_default-next_char
returns-in_default-next_char c = last_brace_lem _ _ _ (rw c.if-c.false at (step_char _ _ _ _ (sym c.next_char.ensures ∙ c.in-Char.is))) (step_end _ _ (sym c.next_char-2.ensures ∙ c.in_default-next_char.is))

pub returns : goal.returns
returns c = brace_told _ _ _ (rw c.if-c.false at (step_char _ _ _ _ (sym c.next_char.ensures ∙ c.in-Char.is))) _ _ (step_char _ _ _ _ (sym c.next_char-2.ensures ∙ c.in-Char-next_char.is))
