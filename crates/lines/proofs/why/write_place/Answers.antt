use borrow.Author.Rules.{rules}
use native.Mathlib.Omega.{arith}
use borrow.Author.Tests.{eq-eqb, ne_eqb}
use mathlib.Core.Path.{refl}
use Prim.Native.Nat.{◌+◌, ◌*◌}
use Rattle.objects.proofs.Texts.{nothing}
use Rattle.lines.proofs.WhyLaws.{why_put, why_not_lem}
use Rattle.lines.proofs.why.write_place.Goals as goal

pub overflow_mul-at : goal.overflow_mul-at
overflow_mul-at c = let p = c.requires.0.place in search rules

pub offset_bounds-words-at : goal.offset_bounds-words-at
offset_bounds-words-at c = let p = c.requires.0.place in search rules

pub bounds-words-at : goal.bounds-words-at
bounds-words-at c = let p = c.requires.0.place in search rules

pub returns-then-words-at-ne-FIELD : goal.returns-then-words-at-ne-FIELD
returns-then-words-at-ne-FIELD c = (rw (why_not_lem c.args.words.now c.args.text.now c.args.rows.now c.args.i c.args.so.fields c.if-words-at-ne-FIELD.true) (nothing _ _), rw (ne_eqb _ _ c.if-words-at-ne-FIELD.true) refl)

pub overflow_mul-row : goal.overflow_mul-row
overflow_mul-row c = let r = rw (eq-eqb _ _ c.if-words-at-ne-FIELD.false) at c.requires.0.row in search rules

pub overflow_add-from : goal.overflow_add-from
overflow_add-from c = let p = c.requires.0.place in search rules

pub offset_bounds-words-at-2 : goal.offset_bounds-words-at-2
offset_bounds-words-at-2 c = let p = c.requires.0.place in search rules

pub bounds-words-at-2 : goal.bounds-words-at-2
bounds-words-at-2 c = let p = c.requires.0.place in search rules

pub overflow_cast-from : goal.overflow_cast-from
overflow_cast-from c = omega (arith, c.type_inv.words (c.args.i * 8 + 1))

pub overflow_add-to : goal.overflow_add-to
overflow_add-to c = let p = c.requires.0.place in search rules

pub offset_bounds-words-at-3 : goal.offset_bounds-words-at-3
offset_bounds-words-at-3 c = let p = c.requires.0.place in search rules

pub bounds-words-at-3 : goal.bounds-words-at-3
bounds-words-at-3 c = let p = c.requires.0.place in search rules

pub overflow_cast-to : goal.overflow_cast-to
overflow_cast-to c = omega (arith, c.type_inv.words (c.args.i * 8 + 2))

pub overflow_add-to-2 : goal.overflow_add-to-2
overflow_add-to-2 c = let q = c.requires.0.inside in omega arith

pub slice_bounds-put_why-start-2 : goal.slice_bounds-put_why-start-2
slice_bounds-put_why-start-2 c = let q = c.requires.0.inside in omega arith

pub slice_bounds-put_why-end-2 : goal.slice_bounds-put_why-end-2
slice_bounds-put_why-end-2 c = let q = c.requires.0.inside in omega arith

pub overflow_add-row : goal.overflow_add-row
overflow_add-row c = let r = rw (eq-eqb _ _ c.if-words-at-ne-FIELD.false) at c.requires.0.row in search rules

pub offset_bounds-rows-row : goal.offset_bounds-rows-row
offset_bounds-rows-row c = let r = rw (eq-eqb _ _ c.if-words-at-ne-FIELD.false) at c.requires.0.row in search rules

pub bounds-rows-row : goal.bounds-rows-row
bounds-rows-row c = let r = rw (eq-eqb _ _ c.if-words-at-ne-FIELD.false) at c.requires.0.row in search rules

pub offset_bounds-rows-row-2 : goal.offset_bounds-rows-row-2
offset_bounds-rows-row-2 c = let r = rw (eq-eqb _ _ c.if-words-at-ne-FIELD.false) at c.requires.0.row in search rules

pub bounds-rows-row-2 : goal.bounds-rows-row-2
bounds-rows-row-2 c = let r = rw (eq-eqb _ _ c.if-words-at-ne-FIELD.false) at c.requires.0.row in search rules

pub overflow_add-row-2 : goal.overflow_add-row-2
overflow_add-row-2 c = let r = rw (eq-eqb _ _ c.if-words-at-ne-FIELD.false) at c.requires.0.row in search rules

pub offset_bounds-rows-row-3 : goal.offset_bounds-rows-row-3
offset_bounds-rows-row-3 c = let r = rw (eq-eqb _ _ c.if-words-at-ne-FIELD.false) at c.requires.0.row in search rules

pub bounds-rows-row-3 : goal.bounds-rows-row-3
bounds-rows-row-3 c = let r = rw (eq-eqb _ _ c.if-words-at-ne-FIELD.false) at c.requires.0.row in search rules

pub overflow_add-result : goal.overflow_add-result
overflow_add-result c = let w = c.type_inv.words (c.args.i * 8 + 2) in omega (arith, (why_put c.args.words.now c.args.text.now c.args.rows.now c.args.i c.args.so.fields c.args.out.now c.args.so.used c.min-lent.result c.if-words-at-ne-FIELD.false (omega arith) (search rules) c.put_why-size.ensures).up, c.requires.3)

pub returns : goal.returns
returns c = (why_put c.args.words.now c.args.text.now c.args.rows.now c.args.i c.args.so.fields _ c.args.so.used c.min-lent.result c.if-words-at-ne-FIELD.false (let w = c.type_inv.words (c.args.i * 8 + 2) in omega arith) (search rules) c.put_why-size.ensures, rw (eq-eqb _ _ c.if-words-at-ne-FIELD.false) refl)
