use borrow.Author.Rules.{rules}
use borrow.Author.Tests.{leb-true}
use mathlib.Core.Path.{sym, ◌∙◌}
use Rattle.cuts.proofs.Walking.{ill_formed_lem, refused_once, passed_once}
use Rattle.cuts.proofs.check_short.Goals as goal

pub check_cuts-requires : goal.check_cuts-requires
check_cuts-requires c = (search rules, leb-true _ _ (sym c.is_formed.ensures ∙ c.if-not-is_formed.false))

pub returns-then-not-is_formed : goal.returns-then-not-is_formed
returns-then-not-is_formed c = ill_formed_lem _ _ _ (sym c.requires.1) (sym c.requires.2) (sym c.if-not-is_formed.true ∙ c.is_formed.ensures)

pub returns-in-None : goal.returns-in-None
returns-in-None c = refused_once _ _ _ (sym c.requires.1) (sym c.requires.2) (rw c.in-None.is at c.check_cuts.ensures)

pub returns-in-Some-true : goal.returns-in-Some-true
returns-in-Some-true c = passed_once _ _ _ (sym c.requires.1) (sym c.requires.2) c.requires.0 (sym c.if-not-is_formed.false ∙ c.is_formed.ensures) _ (rw c.in-Some-true.field-0-test at c.in-Some-true.ensures)

pub returns-in-Some-false : goal.returns-in-Some-false
returns-in-Some-false c = passed_once _ _ _ (sym c.requires.1) (sym c.requires.2) c.requires.0 (sym c.if-not-is_formed.false ∙ c.is_formed.ensures) _ (rw c.in-Some-false.field-0-test at c.in-Some-false.ensures)
