use borrow.Author.Rules.{rules}
use borrow.Author.Tests.{le-leb, lt-leb}
use mathlib.Core.Path.{refl, sym, ◌∙◌}
use Rattle.definition.specs.Chars.{char}
use Rattle.definition.specs.Body.{string_case, string_move}
use Rattle.utf8.proofs.Steps.{Stepped, step_char, step_end}
use Rattle.texts.proofs.Laws.{within}
use Rattle.texts.proofs.string_piece.Goals as goal
use Rattle.texts.proofs.string_piece.Goals.{After-is_escape}

-- the character
step : (c : After-is_escape) → let a = c.args in Stepped a.s.now a.from.at c.in-Char.c c.in-Char.after
step c = step_char _ _ _ _ (sym c.next_char.ensures ∙ c.in-Char.is)

pub returns-in_default : goal.returns-in_default
unfolding string_move string_case char
returns-in_default c = rw (le-leb _ _ (step_end _ _ (sym c.next_char.ensures ∙ c.in_default.is)), string_move, string_case) (refl, refl)

pub escape_text-requires : goal.escape_text-requires
unfolding string_move string_case char
escape_text-requires c = let t = step (goal.at.escape_text-requires c).After-is_escape in ((t.there, sym t.next_is), search rules)

pub returns-then-is_escape : goal.returns-then-is_escape
unfolding string_move string_case char
returns-then-is_escape c = let t = step (goal.at.returns-then-is_escape c).After-is_escape in rw (lt-leb _ _ t.there, t.code_is, ← c.is_escape.ensures, c.if-is_escape.true, string_move, string_case, t.next_is) c.escape_text.ensures

pub returns-then-is_foreign : goal.returns-then-is_foreign
unfolding string_move string_case char
returns-then-is_foreign c = let t = step (goal.at.returns-then-is_foreign c).After-is_escape in rw (lt-leb _ _ t.there, t.code_is, ← c.is_escape.ensures, c.if-is_escape.false, ← c.is_foreign.ensures, c.if-is_foreign.true, string_move, string_case, t.next_is) (rw c.refused_at.ensures refl, refl)

pub take-requires : goal.take-requires
unfolding string_move string_case char
take-requires c = let t = step (goal.at.take-requires c).After-is_escape in let w = within _ _ _ (t.there, sym t.next_is) in search rules

pub returns : goal.returns
unfolding string_move string_case char
returns c = let t = step (goal.at.returns c).After-is_escape in rw (lt-leb _ _ t.there, t.code_is, ← c.is_escape.ensures, c.if-is_escape.false, ← c.is_foreign.ensures, c.if-is_foreign.false, string_move, string_case, char, t.next_is) c.take.ensures
