use borrow.Author.Rules.{rules}
use borrow.Author.Tests.{lt-ltb, le-ltb}
use native.Mathlib.Omega.{arith}
use mathlib.Core.Path.{refl}
use Rattle.definition.specs.Escapes.{held_names}
use Rattle.escapes.specs.Answers.{names_by}
use Rattle.texts.proofs.Laws.{long, string_done}
use Rattle.texts.proofs.Runs.{string_first}
use Rattle.texts.proofs.parse_alone.Goals as goal

pub returns-then-s-gt-LARGEST_BODY : goal.returns-then-s-gt-LARGEST_BODY
unfolding names_by
returns-then-s-gt-LARGEST_BODY c = rw (lt-ltb _ _ c.if-s-gt-LARGEST_BODY.true) (rw c.refused_at.ensures, refl)

pub plain_text-first-requires : goal.plain_text-first-requires
unfolding names_by
plain_text-first-requires c = (omega arith, search rules)

pub shape_of-text-then-s-first : goal.shape_of-text-then-s-first
unfolding names_by
shape_of-text-then-s-first c = let a = c.args in let u = string_first held_names a.kind a.s.now 0 a.text.now _ c.plain_text-first.result c.plain_text-first.ensures in let l = long _ _ _ _ _ _ _ u in search rules

pub returns-then-s-first : goal.returns-then-s-first
unfolding names_by
returns-then-s-first c = let a = c.args in let u = string_first held_names a.kind a.s.now 0 a.text.now _ c.plain_text-first.result c.plain_text-first.ensures in rw (le-ltb _ _ c.if-s-gt-LARGEST_BODY.false) (string_done _ _ _ _ _ _ _ _ u c.if-s-first.true)

pub string_from-requires : goal.string_from-requires
unfolding names_by
string_from-requires c = let a = c.args in let u = string_first held_names a.kind a.s.now 0 a.text.now _ c.plain_text-first.result c.plain_text-first.ensures in (c.if-s-gt-LARGEST_BODY.false, record { used = 0; lent = a.text.now; few = omega arith; upto = u })

pub shape_of-text : goal.shape_of-text
unfolding names_by
shape_of-text c = let a = c.args in let u = string_first held_names a.kind a.s.now 0 a.text.now _ c.plain_text-first.result c.plain_text-first.ensures in let l = long _ _ _ _ _ _ _ u in search rules

pub returns : goal.returns
unfolding names_by
returns c = let a = c.args in let u = string_first held_names a.kind a.s.now 0 a.text.now _ c.plain_text-first.result c.plain_text-first.ensures in rw (le-ltb _ _ c.if-s-gt-LARGEST_BODY.false) (c.string_from.ensures _ _ u)
