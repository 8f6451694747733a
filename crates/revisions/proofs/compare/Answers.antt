use Rattle.std.proofs.Common.{length-take}
use Rattle.std.proofs.Common.{refl}
use Rattle.definition_revisions.specs.Revisions.{compare_called, middles_after}
use native.Mathlib.Omega.{arith}
use mathlib.Core.Path.{sym, ◌∙◌}
use Rattle.definition_formed.specs.Formed.{lent}
use Rattle.formed.proofs.Goods.{formed_lies}
use Rattle.revisions.proofs.Calls.{items_read, into_first, into_second, into_both}
use Rattle.revisions.proofs.compare.Goals as goal

pub returns-then-not-is_formed : goal.returns-then-not-is_formed
unfolding compare_called middles_after
returns-then-not-is_formed c = let a = c.args in rw (into_first (lent a.numbers.now a.words.now a.text.now) (lent a.figures.now a.others.now a.other.now) a.list.now (sym c.is_formed.ensures ∙ c.if-not-is_formed.true)) (rw c.refuse.ensures.answer (record { answer = refl; left = c.refuse.ensures.left }))

pub returns-then-not-is_formed-2 : goal.returns-then-not-is_formed-2
unfolding compare_called middles_after
returns-then-not-is_formed-2 c = let a = c.args in rw (into_second (lent a.numbers.now a.words.now a.text.now) (lent a.figures.now a.others.now a.other.now) a.list.now (sym c.is_formed.ensures ∙ c.if-not-is_formed.false) (sym c.is_formed-2.ensures ∙ c.if-not-is_formed-2.true)) (rw c.refuse-then-not-is_formed-2.ensures.answer (record { answer = refl; left = c.refuse-then-not-is_formed-2.ensures.left }))

pub slice_bounds-compare_items-end : goal.slice_bounds-compare_items-end
slice_bounds-compare_items-end c = let a = c.args in omega (arith, (formed_lies a.numbers.now a.words.now a.text.now (sym c.is_formed.ensures ∙ c.if-not-is_formed.false)).1, c.number_at-size.ensures, length-take c.number_at-size.result a.text.now)

pub slice_bounds-compare_items-end-2 : goal.slice_bounds-compare_items-end-2
slice_bounds-compare_items-end-2 c = let a = c.args in omega (arith, (formed_lies a.figures.now a.others.now a.other.now (sym c.is_formed-2.ensures ∙ c.if-not-is_formed-2.false)).1, c.number_at-length.ensures, length-take c.number_at-length.result a.other.now)

pub returns : goal.returns
returns c =
    let a = c.args in
    rw (into_both (lent a.numbers.now a.words.now a.text.now) (lent a.figures.now a.others.now a.other.now) a.list.now (sym c.is_formed.ensures ∙ c.if-not-is_formed.false) (sym c.is_formed-2.ensures ∙ c.if-not-is_formed-2.false), ← items_read a.numbers.now a.words.now a.text.now c.number_at-size.result c.number_at-count.result c.number_at-size.ensures c.number_at-count.ensures, ← items_read a.figures.now a.others.now a.other.now c.number_at-length.result c.number_at-total.result c.number_at-length.ensures c.number_at-total.ensures)
    c.compare_items.ensures
