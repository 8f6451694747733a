use borrow.Author.Rules.{rules}
use borrow.Author.Tests.{leb-true}
use native.Mathlib.Omega.{arith}
use mathlib.Core.Path.{sym, ◌∙◌}
use Rattle.plans.proofs.Calls.{plan_long, plan_ill, no_plan, few_cuts, none_made, short_made, cuts_made}
use Rattle.plans.proofs.plan.Goals as goal
use Rattle.plans.proofs.plan.Goals.{then-s-gt-LARGEST_BODY-via-then-s-gt-LARGEST_BODY, then-s-gt-LARGEST_BODY-via-else-s-gt-LARGEST_BODY+then-not-is_formed}

pub returns-then-s-gt-LARGEST_BODY : goal.returns-then-s-gt-LARGEST_BODY
returns-then-s-gt-LARGEST_BODY c =
    elim c.then-s-gt-LARGEST_BODY.branch [
      | then-s-gt-LARGEST_BODY-via-then-s-gt-LARGEST_BODY w ↦ no_plan _ _ _ (plan_long _ _ w.if-s-gt-LARGEST_BODY.true) _ c.fill.ensures
      | then-s-gt-LARGEST_BODY-via-else-s-gt-LARGEST_BODY+then-not-is_formed w ↦ no_plan _ _ _ (plan_ill _ _ (sym w.if-not-is_formed.true ∙ w.is_formed.ensures)) _ c.fill.ensures
    ]

pub plan_into-requires : goal.plan_into-requires
plan_into-requires c = (search rules, leb-true _ _ (sym c.is_formed.ensures ∙ c.if-not-is_formed.false))

pub returns-in-None : goal.returns-in-None
returns-in-None c = none_made _ _ _ c.if-s-gt-LARGEST_BODY.false (sym c.if-not-is_formed.false ∙ c.is_formed.ensures) c.plan_into.new.list (rw c.in-None.is at c.plan_into.ensures) _ c.fill-in-None.ensures

pub overflow_cast-result : goal.overflow_cast-result
overflow_cast-result c = let h = few_cuts c.args.s.now c.args.limit c.args.list.now c.if-s-gt-LARGEST_BODY.false (sym c.if-not-is_formed.false ∙ c.is_formed.ensures) c.plan_into.new.list c.in-Some.n c.in-Some.ensures in omega (arith, h)

pub returns-in-Some : goal.returns-in-Some
returns-in-Some c = short_made _ _ _ c.if-s-gt-LARGEST_BODY.false (sym c.if-not-is_formed.false ∙ c.is_formed.ensures) _ _ c.in-Some.ensures c.if-list-n.true _ c.fill-in-Some.ensures

pub overflow_cast-result-in-Some-2 : goal.overflow_cast-result-in-Some-2
overflow_cast-result-in-Some-2 c = let h = few_cuts c.args.s.now c.args.limit c.args.list.now c.if-s-gt-LARGEST_BODY.false (sym c.if-not-is_formed.false ∙ c.is_formed.ensures) c.plan_into.new.list c.in-Some.n c.in-Some.ensures in omega (arith, h)

pub returns-in-Some-2 : goal.returns-in-Some-2
returns-in-Some-2 c = cuts_made _ _ _ c.if-s-gt-LARGEST_BODY.false (sym c.if-not-is_formed.false ∙ c.is_formed.ensures) _ _ c.in-Some.ensures c.if-list-n.false
