use borrow.Author.Rules.{rules}
use borrow.Author.Tests.{le-leb, lt-leb, ne_eqb}
use mathlib.Core.Path.{refl, sym, ◌∙◌}
use Rattle.definition.specs.Chars.{char}
use Rattle.definition.specs.Body.{text_case, text_move}
use Rattle.utf8.proofs.Steps.{Stepped, step_char, step_end}
use Rattle.texts.proofs.Laws.{within}
use Rattle.texts.proofs.text_piece.Goals as goal
use Rattle.texts.proofs.text_piece.Goals.{In-Char}

-- the character
step : (c : In-Char) → let a = c.args in Stepped a.s.now a.from.at c.in-Char.c c.in-Char.after
step c = step_char _ _ _ _ (sym c.next_char.ensures ∙ c.in-Char.is)

pub returns-in_default : goal.returns-in_default
unfolding text_move text_case char
returns-in_default c = rw (lt-leb _ _ c.requires.0, le-leb _ _ (step_end _ _ (sym c.next_char.ensures ∙ c.in_default.is)), text_move, text_case) (refl, refl)

pub left_brace-requires : goal.left_brace-requires
unfolding text_move text_case char
left_brace-requires c = let t = step (goal.at.left_brace-requires c).In-Char in ((t.there, sym t.next_is), t.code_is ∙ c.if-c-eq-LEFT_BRACE.true, search rules, search rules)

pub returns-then-c-eq-LEFT_BRACE : goal.returns-then-c-eq-LEFT_BRACE
unfolding text_move text_case char
returns-then-c-eq-LEFT_BRACE c = c.left_brace.ensures _ c.args.kind

pub right_brace-requires : goal.right_brace-requires
unfolding text_move text_case char
right_brace-requires c = let t = step (goal.at.right_brace-requires c).In-Char in ((t.there, sym t.next_is), t.code_is ∙ c.if-c-eq-RIGHT_BRACE.true, search rules, search rules)

pub returns-then-c-eq-RIGHT_BRACE : goal.returns-then-c-eq-RIGHT_BRACE
unfolding text_move text_case char
returns-then-c-eq-RIGHT_BRACE c = c.right_brace.ensures _ c.args.kind

pub escape_text-requires : goal.escape_text-requires
unfolding text_move text_case char
escape_text-requires c = let t = step (goal.at.escape_text-requires c).In-Char in ((t.there, sym t.next_is), search rules)

pub returns-then-begins_escape : goal.returns-then-begins_escape
unfolding text_move text_case char
returns-then-begins_escape c = let t = step (goal.at.returns-then-begins_escape c).In-Char in rw (lt-leb _ _ c.requires.0, lt-leb _ _ t.there, t.code_is, ne_eqb _ _ c.if-c-eq-LEFT_BRACE.false, ne_eqb _ _ c.if-c-eq-RIGHT_BRACE.false, t.next_is, ← c.begins_escape.ensures, c.if-begins_escape.true, text_move, text_case, t.next_is) c.escape_text.ensures

pub take-requires : goal.take-requires
unfolding text_move text_case char
take-requires c = let t = step (goal.at.take-requires c).In-Char in let w = within _ _ _ (t.there, sym t.next_is) in search rules

pub returns : goal.returns
unfolding text_move text_case char
returns c = let t = step (goal.at.returns c).In-Char in rw (lt-leb _ _ c.requires.0, lt-leb _ _ t.there, t.code_is, ne_eqb _ _ c.if-c-eq-LEFT_BRACE.false, ne_eqb _ _ c.if-c-eq-RIGHT_BRACE.false, t.next_is, ← c.begins_escape.ensures, c.if-begins_escape.false, text_move, text_case, char, t.next_is) c.take.ensures
