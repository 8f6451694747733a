use Rattle.std.proofs.Common.{arith, sym, ◌∙◌}
use Rattle.definition.specs.Numbers.{is_bytes}
use Rattle.entry.specs.Answers.{described}
use Rattle.checks.proofs.OnePass.{at_first, at_next, at_end_lem}
use Rattle.checks.proofs.pass_all.Goals as goal

pub loop-i-init : goal.loop-i-init
loop-i-init c = at_first _ _ _ _

pub overflow_add-chars : goal.overflow_add-chars
overflow_add-chars c = let p = c.in_ok-chars.ensures in omega (arith, p.few, p.short, c.loop-i.invariant.few)

pub overflow_sub-left : goal.overflow_sub-left
unfolding described
overflow_sub-left c = (c.in_ok-chars.ensures).short

pub loop-i-preserved : goal.loop-i-preserved
loop-i-preserved c = at_next _ _ _ _ _ _ _ _ c.loop-i.invariant c.loop-i-test.true c.literal_at-l.result c.literal_at-l.ensures (sym c.is_of.ensures ∙ c.if-is_of.false) _ c.in_ok-chars.ensures

pub returns : goal.returns
returns c = at_end_lem _ _ _ _ _ _ _ _ c.loop-i.invariant (is_bytes c.literal_at-first.result.kind) c.other_class-other.ensures c.loop-i-test.false
