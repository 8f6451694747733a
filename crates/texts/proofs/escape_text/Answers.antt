use borrow.Author.Rules.{rules}
use native.Mathlib.Nat.{add-zero}
use mathlib.Core.Path.{refl, sym, ◌∙◌, ap}
use Rattle.definition.specs.Escapes.{meant}
use Rattle.definition.specs.Body.{with_escape}
use Rattle.definition_laws.proofs.Moves.Moves.{escape_sound}
use Rattle.buffers.proofs.Over.{over_nil}
use Rattle.escapes.specs.Answers.{says}
use Rattle.escapes.specs.Answers.{names_by}
use Rattle.texts.proofs.Laws.{within}
use Rattle.texts.proofs.escape_text.Goals as goal

pub take-requires : goal.take-requires
unfolding with_escape meant
take-requires c =
    let p = c.requires in
    let w = within _ _ _ p.0 in
    let e = sym c.parse_escaped_char-escaped.ensures ∙ ap says c.in-Kept.is in
    let a = c.args in
    let h = rw e at (escape_sound (names_by a.names.now.file.now a.names.now.index.now) a.kind a.s.now a.after.at w.1) in
    search rules

pub returns-in-Code : goal.returns-in-Code
unfolding with_escape meant
returns-in-Code c = rw (sym c.parse_escaped_char-escaped.ensures ∙ ap says c.in-Code.is) (search rules)

pub returns-in-Kept : goal.returns-in-Kept
unfolding with_escape meant
returns-in-Kept c = rw (sym c.parse_escaped_char-escaped.ensures ∙ ap says c.in-Kept.is) (search rules)

pub returns-in-Gone : goal.returns-in-Gone
unfolding with_escape meant
returns-in-Gone c = rw (sym c.parse_escaped_char-escaped.ensures ∙ ap says c.in-Gone.is) (rw add-zero, sym (over_nil _ _))

pub returns-in-Refused : goal.returns-in-Refused
unfolding with_escape meant
returns-in-Refused c = rw (sym c.parse_escaped_char-escaped.ensures ∙ ap says c.in-Refused.is) (rw c.refused_at.ensures refl, refl)
