use borrow.Author.Tests.{eqb-true, eqb-false}
use mathlib.Core.Path.{sym}
use Rattle.escapes.proofs.Lent.{names_lent, names_marked}
use Rattle.strings.proofs.NamedCalls.{by_names}
use Rattle.strings.proofs.parse_searched.Goals as goal

pub returns-then-is_empty : goal.returns-then-is_empty
returns-then-is_empty c = let a = c.args in by_names _ _ a.script.now a.numbers.now a.words.now a.text.now _ _ _ (names_marked a.file.now a.index.now (eqb-true _ _ (sym c.if-is_empty.ensures))) c.parse_by.ensures

pub returns : goal.returns
returns c = let a = c.args in by_names _ _ a.script.now a.numbers.now a.words.now a.text.now _ _ _ (names_lent a.file.now a.index.now (eqb-false _ _ (sym c.if-is_empty.ensures))) c.parse_by-2.ensures
