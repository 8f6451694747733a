use borrow.Author.Rules.{rules}
use native.Mathlib.Omega.{arith}
use Rattle.escapes.specs.Answers.{names_by}
use Rattle.texts.proofs.Laws.{long, string_done}
use Rattle.texts.proofs.Runs.{string_first}
use Rattle.texts.proofs.string_text.Goals as goal

pub plain_text-first-requires : goal.plain_text-first-requires
plain_text-first-requires c = (omega arith, search rules)

pub shape_of-text-then-s-first : goal.shape_of-text-then-s-first
shape_of-text-then-s-first c = let a = c.args in let u = string_first (names_by a.names.now.file.now a.names.now.index.now) a.kind a.s.now a.used a.text.now _ c.plain_text-first.result c.plain_text-first.ensures in let l = long _ _ _ _ _ _ _ u in search rules

pub returns-then-s-first : goal.returns-then-s-first
returns-then-s-first c = let a = c.args in let u = string_first (names_by a.names.now.file.now a.names.now.index.now) a.kind a.s.now a.used a.text.now _ c.plain_text-first.result c.plain_text-first.ensures in string_done _ _ _ _ _ _ _ _ u c.if-s-first.true

pub string_from-requires : goal.string_from-requires
string_from-requires c = let a = c.args in let u = string_first (names_by a.names.now.file.now a.names.now.index.now) a.kind a.s.now a.used a.text.now _ c.plain_text-first.result c.plain_text-first.ensures in let p = c.requires in (p.0, record { used = a.used; lent = a.text.now; few = p.1; upto = u })

pub shape_of-text : goal.shape_of-text
shape_of-text c = let a = c.args in let u = string_first (names_by a.names.now.file.now a.names.now.index.now) a.kind a.s.now a.used a.text.now _ c.plain_text-first.result c.plain_text-first.ensures in let l = long _ _ _ _ _ _ _ u in search rules

pub returns : goal.returns
returns c = let a = c.args in let u = string_first (names_by a.names.now.file.now a.names.now.index.now) a.kind a.s.now a.used a.text.now _ c.plain_text-first.result c.plain_text-first.ensures in c.string_from.ensures _ _ u
