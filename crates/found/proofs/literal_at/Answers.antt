use native.Mathlib.Omega.{arith}
use mathlib.Core.Path.{refl}
use Rattle.definition_scripts.specs.Literals.{closed_at}
use Rattle.found.proofs.Founds.{starts_in, quote_in, body_in, found_is, found_closed, closed_in}
use Rattle.found.proofs.literal_at.Goals as goal

pub overflow_add-from : goal.overflow_add-from
unfolding closed_at
overflow_add-from c = omega (arith, starts_in _ _ _ c.requires, c.requires.not_long_lem)

pub overflow_cast-from-2 : goal.overflow_cast-from-2
unfolding closed_at
overflow_cast-from-2 c = omega (arith, quote_in _ _ _ c.requires _ _ _ c.prefix.ensures refl refl, c.requires.not_long_lem)

pub overflow_add-body : goal.overflow_add-body
unfolding closed_at
overflow_add-body c = let h = body_in _ _ _ c.requires _ _ _ c.prefix.ensures c.tripled-triple.ensures c.quotes-size.ensures in omega (arith, h, c.requires.not_long_lem)

pub bounds-s-from : goal.bounds-s-from
unfolding closed_at
bounds-s-from c = quote_in _ _ _ c.requires _ _ _ c.prefix.ensures c.tripled-triple.ensures c.quotes-size.ensures

pub overflow_cast-result : goal.overflow_cast-result
unfolding closed_at
overflow_cast-result c = let h = body_in _ _ _ c.requires _ _ _ c.prefix.ensures c.tripled-triple.ensures c.quotes-size.ensures in omega (arith, h, c.requires.not_long_lem)

pub overflow_cast-result-in-Ok : goal.overflow_cast-result-in-Ok
unfolding closed_at
overflow_cast-result-in-Ok c = let h = body_in _ _ _ c.requires _ _ _ c.prefix.ensures c.tripled-triple.ensures c.quotes-size.ensures in omega (arith, h, c.requires.not_long_lem)

pub overflow_sub-result : goal.overflow_sub-result
unfolding closed_at
overflow_sub-result c = let l = closed_in _ _ _ c.requires _ _ _ c.prefix.ensures c.tripled-triple.ensures c.quotes-size.ensures _ c.in-Ok.ensures in omega (arith, l.0)

pub overflow_cast-result-in-Ok-2 : goal.overflow_cast-result-in-Ok-2
unfolding closed_at
overflow_cast-result-in-Ok-2 c = let l = closed_in _ _ _ c.requires _ _ _ c.prefix.ensures c.tripled-triple.ensures c.quotes-size.ensures _ c.in-Ok.ensures in omega (arith, l.1, c.requires.not_long_lem)

pub overflow_cast-result-in-Ok-3 : goal.overflow_cast-result-in-Ok-3
unfolding closed_at
overflow_cast-result-in-Ok-3 c = omega (arith, starts_in _ _ _ c.requires, c.requires.not_long_lem)

pub overflow_cast-result-in-Ok-4 : goal.overflow_cast-result-in-Ok-4
unfolding closed_at
overflow_cast-result-in-Ok-4 c = let l = closed_in _ _ _ c.requires _ _ _ c.prefix.ensures c.tripled-triple.ensures c.quotes-size.ensures _ c.in-Ok.ensures in omega (arith, l.1, c.requires.not_long_lem)

pub overflow_add-result : goal.overflow_add-result
unfolding closed_at
overflow_add-result c = let l = closed_in _ _ _ c.requires _ _ _ c.prefix.ensures c.tripled-triple.ensures c.quotes-size.ensures _ c.in-Ok.ensures in omega (arith, l.1, c.requires.not_long_lem)

pub returns-in-Err : goal.returns-in-Err
unfolding closed_at
returns-in-Err c = rw c.from.ensures (found_is _ _ _ c.requires _ _ _ c.prefix.ensures c.tripled-triple.ensures c.quotes-size.ensures _ c.in-Err.ensures)

pub returns-in-Ok : goal.returns-in-Ok
unfolding closed_at
returns-in-Ok c = found_closed _ _ _ c.requires _ _ _ c.prefix.ensures c.tripled-triple.ensures c.quotes-size.ensures _ c.in-Ok.ensures
