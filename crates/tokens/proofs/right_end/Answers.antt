use mathlib.Core.Path.{sym, ◌∙◌}
use Rattle.utf8.proofs.Steps.{step_char, step_end}
use Rattle.tokens.proofs.TokenLaws.{right_last, right_doubled, right_lone}
use Rattle.tokens.proofs.right_end.Goals as goal

pub returns-in_default : goal.returns-in_default
returns-in_default c = right_last _ _ _ c.requires (step_end _ _ (sym c.next_char.ensures ∙ c.in_default.is))

pub returns-then-c-eq125 : goal.returns-then-c-eq125
returns-then-c-eq125 c = right_doubled _ _ _ c.requires _ _ (step_char _ _ _ _ (sym c.next_char.ensures ∙ c.in-Char.is)) c.if-c-eq125.true

pub returns-else-c-eq125 : goal.returns-else-c-eq125
returns-else-c-eq125 c = right_lone _ _ _ c.requires _ _ (step_char _ _ _ _ (sym c.next_char.ensures ∙ c.in-Char.is)) c.if-c-eq125.false
