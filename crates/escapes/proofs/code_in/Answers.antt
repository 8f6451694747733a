use Rattle.std.proofs.Common.{sym, ◌∙◌, eqb-true}
use Rattle.std.proofs.lemmas.Bool.{eqb-false}
use Rattle.escapes.proofs.Lent.{none_lent, some_lent}
use Rattle.escapes.proofs.code_in.Goals as goal

pub returns-then-is_empty-clause-code : goal.returns-then-is_empty-clause-code
returns-then-is_empty-clause-code c = c.code_of.ensures.code ∙ sym (none_lent _ _ _ (eqb-true _ _ (sym c.if-is_empty.ensures)))

pub returns-else-is_empty-clause-code : goal.returns-else-is_empty-clause-code
returns-else-is_empty-clause-code c = c.look_up.ensures.code ∙ sym (some_lent _ _ _ (eqb-false _ _ (sym c.if-is_empty.ensures)))
