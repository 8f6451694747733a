use borrow.Author.Rules.{rules}
use mathlib.Core.Path.{refl, sym, ◌∙◌}
use mathlib.Core.List.{[]}
use Rattle.escapes.proofs.Lent.{names_none}
use Rattle.utf8.proofs.Steps.{step_char, step_end}
use Rattle.texts.proofs.EscapeEndLaws.{escape_tells, refused_tells}
use Rattle.texts.proofs.escape_end.Goals as goal

pub returns-in_default : goal.returns-in_default
returns-in_default c = (search rules, step_end _ _ (sym c.next_char.ensures ∙ c.in_default.is))

pub escape_text-requires : goal.escape_text-requires
escape_text-requires c = let t = step_char _ _ _ _ (sym c.next_char.ensures ∙ c.in-Char.is) in ((t.there, sym t.next_is), search rules)

pub returns-in-On : goal.returns-in-On
returns-in-On c = let t = step_char _ _ _ _ (sym c.next_char.ensures ∙ c.in-Char.is) in (search rules, t.there, rw t.next_is (escape_tells _ _ _ _ _ _ _ _ c.in-On.is (rw (names_none [] [] refl) at c.escape_text.ensures)))

pub returns-in-Field : goal.returns-in-Field
returns-in-Field c = let t = step_char _ _ _ _ (sym c.next_char.ensures ∙ c.in-Char.is) in (search rules, t.there, rw t.next_is (refused_tells _ _ _ _ _ _ _ c.in-Field.is (rw (names_none [] [] refl) at c.escape_text.ensures)))
