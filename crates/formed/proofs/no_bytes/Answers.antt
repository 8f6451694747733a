use Rattle.std.proofs.Common.{refl, ap}
use Rattle.formed.proofs.Goods.{none_here, none_next, none_all}
use Rattle.formed.proofs.no_bytes.Goals as goal

pub loop-i-init : goal.loop-i-init
loop-i-init c = (0, refl)

pub returns-then-record_at-eq4 : goal.returns-then-record_at-eq4
returns-then-record_at-eq4 c = none_here _ _ c.loop-i.i c.loop-i.invariant c.loop-i-test.true (ap (λ h. h.kind) c.record_at.ensures) c.if-record_at-eq4.true

pub loop-i-preserved : goal.loop-i-preserved
loop-i-preserved c = none_next _ _ c.loop-i.i c.loop-i.invariant c.loop-i-test.true (ap (λ h. h.kind) c.record_at.ensures) c.if-record_at-eq4.false

pub returns : goal.returns
returns c = none_all _ _ c.loop-i.i c.loop-i.invariant c.loop-i-test.false
