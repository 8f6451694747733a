use Rattle.std.proofs.Common.{rules, refl, sym, ap, ◌∙◌, ◌+◌, ne_eqb}
use Rattle.formed.proofs.Goods.{good_stops, good_next, good_owes, good_ends}
use Rattle.formed.proofs.are_good.Goals as goal

pub loop-i-init : goal.loop-i-init
loop-i-init c = (search rules, search rules, search rules, refl)

pub returns-then-not-is_good : goal.returns-then-not-is_good
returns-then-not-is_good c = sym (c.loop-i.invariant.3 ∙ good_stops _ _ _ c.loop-i.i c.loop-i.owed c.loop-i.at c.loop-i.due c.loop-i-test.true _ c.record_at-h.ensures c.is_good.ensures c.if-not-is_good.true)

pub loop-i-preserved : goal.loop-i-preserved
loop-i-preserved c = (
  search rules,
  search rules,
  search rules,
  c.loop-i.invariant.3 ∙ good_next _ _ _ c.loop-i.i c.loop-i.owed c.loop-i.at c.loop-i.due c.loop-i-test.true _ c.record_at-h.ensures c.is_good.ensures c.if-not-is_good.false c.has_spec-due.ensures (ap (λ n. n + c.record_at-h.result.parts) c.saturating_sub.ensures),
)

pub returns-then-owed-eq0 : goal.returns-then-owed-eq0
returns-then-owed-eq0 c = sym (c.loop-i.invariant.3 ∙ good_ends _ _ _ c.loop-i.i c.loop-i.owed c.loop-i.at c.loop-i.due c.loop-i-test.false c.if-owed-eq0.true)

pub returns-else-owed-eq0 : goal.returns-else-owed-eq0
returns-else-owed-eq0 c = ne_eqb c.loop-i.owed 0 c.if-owed-eq0.false ∙ sym (c.loop-i.invariant.3 ∙ good_owes _ _ _ c.loop-i.i c.loop-i.owed c.loop-i.at c.loop-i.due c.loop-i-test.false c.if-owed-eq0.false)
