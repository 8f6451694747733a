use native.Mathlib.Omega.{arith}
use mathlib.Core.Path.{refl}
use Rattle.bodies.proofs.RecordLaws.{closed_written}
use Rattle.bodies.proofs.SinkLaws.{after_closed}
use Rattle.bodies.proofs.written_of.Goals as goal

pub overflow_cast-result : goal.overflow_cast-result
overflow_cast-result c = let a = c.args in let p = c.requires in let h = after_closed a.whole a.sink c.close_held-k.result _ _ (closed_written a.whole a.sink c.close_held-k.result _ _ p.0 c.close_held-k.ensures) in let s = p.0.small in omega (arith, h.count, h.used, s)

pub overflow_cast-result-2 : goal.overflow_cast-result-2
overflow_cast-result-2 c = let a = c.args in let p = c.requires in let h = after_closed a.whole a.sink c.close_held-k.result _ _ (closed_written a.whole a.sink c.close_held-k.result _ _ p.0 c.close_held-k.ensures) in let s = p.0.small in omega (arith, h.count, h.used, s)

pub overflow_cast-result-3 : goal.overflow_cast-result-3
overflow_cast-result-3 c = let p = c.requires in let s = p.0.small in omega (arith, p.1, s)

pub returns : goal.returns
returns c = let a = c.args in record { sink = c.close_held-k.result; out = (closed_written a.whole a.sink c.close_held-k.result _ _ c.requires.0 (c.close_held-k.ensures)).out; is = refl }
