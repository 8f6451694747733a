use mathlib.Core.Path.{sym, ◌∙◌}
use Rattle.std.proofs.lemmas.Result.{err_from_is_err_and}
use Rattle.utf8.proofs.Steps.{step_char, step_end}
use Rattle.tokens.proofs.TokenLaws.{left_last, left_doubled, left_opens, field_ends, no_field}
use Rattle.tokens.proofs.left_end.Goals as goal

pub returns-in_default : goal.returns-in_default
returns-in_default c = left_last _ _ _ c.requires.0 (step_end _ _ (sym c.next_char.ensures ∙ c.in_default.is))

pub returns-then-c-eq123 : goal.returns-then-c-eq123
returns-then-c-eq123 c = left_doubled _ _ _ c.requires.0 _ _ (step_char _ _ _ _ (sym c.next_char.ensures ∙ c.in-Char.is)) c.if-c-eq123.true

pub returns-in_err-field_end : goal.returns-in_err-field_end
returns-in_err-field_end c =
    let p = err_from_is_err_and c.from_residual.result c.from_residual.ensures.1 in
    rw (p.1, p.2) (no_field _ _ (left_opens _ _ _ c.requires.0 _ _ (step_char _ _ _ _ (sym c.next_char.ensures ∙ c.in-Char.is)) c.if-c-eq123.false) c.requires.1 _ c.in_err-field_end.ensures)

pub returns : goal.returns
returns c = field_ends _ _ (left_opens _ _ _ c.requires.0 _ _ (step_char _ _ _ _ (sym c.next_char.ensures ∙ c.in-Char.is)) c.if-c-eq123.false) _ c.in_ok-field_end.ensures
