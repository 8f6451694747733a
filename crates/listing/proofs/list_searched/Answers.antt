use borrow.Author.Tests.{eqb-true, eqb-false}
use mathlib.Core.Path.{sym}
use Rattle.escapes.proofs.Lent.{names_lent, names_marked}
use Rattle.listing.proofs.list_searched.Goals as goal

pub returns-then-is_empty : goal.returns-then-is_empty
returns-then-is_empty c = let a = c.args in rw (names_marked a.file.now a.index.now (eqb-true _ _ (sym c.if-is_empty.ensures))) at c.list_by.ensures

pub returns : goal.returns
returns c = let a = c.args in rw (names_lent a.file.now a.index.now (eqb-false _ _ (sym c.if-is_empty.ensures))) at c.list_by-2.ensures
