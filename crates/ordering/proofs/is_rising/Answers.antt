use Rattle.std.proofs.Common.{arith, sym, ◌∙◌, ◌≡◌, ◌+◌, ◌-◌}
use Rattle.ordering.proofs.Rises.{risen_more, risen_all}
use Rattle.ordering.proofs.is_rising.Goals as goal

pub loop-k-init : goal.loop-k-init
loop-k-init c = λ i h. absurd (omega arith)

pub returns-then-in_order : goal.returns-then-in_order
returns-then-in_order c =
    let e : c.loop-k.k - 1 + 1 ≡ c.loop-k.k = omega (arith, c.loop-k.auto.k) in
    record { at = c.loop-k.k - 1; inside = omega (arith, c.loop-k.auto.k); falls = rw e (sym c.in_order.ensures ∙ c.if-in_order.true) }

pub loop-k-preserved : goal.loop-k-preserved
loop-k-preserved c =
    let e : c.loop-k.k - 1 + 1 ≡ c.loop-k.k = omega (arith, c.loop-k.auto.k) in
    let r = risen_more c.args.file.now c.args.list.now (c.loop-k.k - 1) c.loop-k.invariant (rw e (sym c.in_order.ensures ∙ c.if-in_order.false)) in
    λ i h. r i (omega (arith, c.loop-k.auto.k))

pub returns : goal.returns
returns c = risen_all c.args.file.now c.args.list.now (c.loop-k.k - 1) c.loop-k.invariant (omega (arith, c.loop-k.auto.k))
