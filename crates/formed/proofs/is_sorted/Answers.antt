use Rattle.std.proofs.Common.{arith, ap, ◌∙◌, ne_eqb}
use Rattle.formed.proofs.Goods.{sorted_joined, sorted_many, sorted_plain, sorted_bytes}
use Rattle.formed.proofs.is_sorted.Goals as goal

pub returns-then-count-eq1 : goal.returns-then-count-eq1
returns-then-count-eq1 c = sorted_plain _ _ _ (λ e. omega arith) c.if-count-eq1.true (ap (λ h. h.kind) c.record_at.ensures) c.in-0.is

pub returns-else-count-eq1 : goal.returns-else-count-eq1
returns-else-count-eq1 c = ne_eqb c.args.count 1 c.if-count-eq1.false ∙ sorted_many _ _ _ (λ e. omega arith) c.if-count-eq1.false

pub returns-in-1 : goal.returns-in-1
returns-in-1 c = c.no_bytes.ensures ∙ sorted_joined _ _ _ c.in-1.is

pub returns-then-count-eq1-2 : goal.returns-then-count-eq1-2
returns-then-count-eq1-2 c = sorted_bytes _ _ _ (λ e. omega arith) c.if-count-eq1-2.true (ap (λ h. h.kind) c.record_at-then-count-eq1-2.ensures) (λ e. omega arith)

pub returns-else-count-eq1-2 : goal.returns-else-count-eq1-2
returns-else-count-eq1-2 c = ne_eqb c.args.count 1 c.if-count-eq1-2.false ∙ sorted_many _ _ _ (λ e. omega arith) c.if-count-eq1-2.false
