use borrow.Author.Rules.{rules}
use borrow.Author.Tests.{lt-leb, ne_eqb}
use mathlib.Core.Path.{refl, sym, ◌∙◌}
use Rattle.definition.specs.Chars.{char}
use Rattle.definition.specs.Body.{text_case, text_move}
use Rattle.utf8.proofs.Steps.{step_char, step_end}
use Rattle.texts.proofs.Laws.{within, code_end}
use Rattle.texts.proofs.right_brace.Goals as goal

pub returns-then-nested-ne0 : goal.returns-then-nested-ne0
unfolding text_move text_case char
returns-then-nested-ne0 c = λ look kind. let p = c.requires in rw (lt-leb _ _ p.2, lt-leb _ _ p.0.0, p.1, ne_eqb _ _ c.if-nested-ne0.true, text_move, text_case) (refl, refl)

pub returns-in_default : goal.returns-in_default
unfolding text_move text_case char
returns-in_default c = λ look kind. let p = c.requires in let h = step_end _ _ (sym c.next_char.ensures ∙ c.in_default.is) in rw (lt-leb _ _ p.2, lt-leb _ _ p.0.0, p.1, c.if-nested-ne0.false, ← p.0.1, code_end _ _ h, text_move, text_case) (rw (← p.0.1, c.refused_at.ensures) refl, refl)

pub returns-then-c-ne-RIGHT_BRACE : goal.returns-then-c-ne-RIGHT_BRACE
unfolding text_move text_case char
returns-then-c-ne-RIGHT_BRACE c = λ look kind. let p = c.requires in let t = step_char _ _ _ _ (sym c.next_char.ensures ∙ c.in-Char.is) in rw (lt-leb _ _ p.2, lt-leb _ _ p.0.0, p.1, c.if-nested-ne0.false, ← p.0.1, t.code_is, ne_eqb _ _ c.if-c-ne-RIGHT_BRACE.true, text_move, text_case) (rw (← p.0.1, c.refused_at-then-c-ne-RIGHT_BRACE.ensures) refl, refl)

pub take-requires : goal.take-requires
unfolding text_move text_case char
take-requires c = let p = c.requires in let w = within _ _ _ p.0 in search rules

pub returns : goal.returns
unfolding text_move text_case char
returns c = λ look kind. let p = c.requires in let t = step_char _ _ _ _ (sym c.next_char.ensures ∙ c.in-Char.is) in rw (lt-leb _ _ p.2, lt-leb _ _ p.0.0, p.1, c.if-nested-ne0.false, ← p.0.1, t.code_is, c.if-c-ne-RIGHT_BRACE.false, text_move, text_case, ← p.0.1, t.next_is, char) c.take.ensures
