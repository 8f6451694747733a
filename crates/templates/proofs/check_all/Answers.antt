use native.Mathlib.Omega.{arith}
use mathlib.Core.Path.{refl}
use Rattle.templates.proofs.Items.{template_start, template_end, template_stop, template_next}
use Rattle.templates.proofs.check_all.Goals as goal

pub loop-i-init : goal.loop-i-init
loop-i-init c = template_start _ _ _

pub place_at-item-requires : goal.place_at-item-requires
place_at-item-requires c = (c.requires, c.loop-i-test.true, c.loop-i.invariant.within)

pub overflow_add-k : goal.overflow_add-k
overflow_add-k c = let f = c.loop-i.invariant.few in let b = c.loop-i.invariant.before_end in let s = c.requires.1 in let e = c.fields_of-k.ensures.1 in omega arith

pub loop-i-smaller : goal.loop-i-smaller
loop-i-smaller c = let l = c.place_at-item.ensures.1 in let m = c.place_at-item.ensures.2 in omega arith

pub returns-in-Err : goal.returns-in-Err
returns-in-Err c = template_stop _ _ _ _ _ _ c.loop-i.invariant c.loop-i-test.true _ c.place_at-item.ensures _ c.in-Err.ensures _ refl

pub loop-i-preserved : goal.loop-i-preserved
loop-i-preserved c = let e = c.fields_of-k.ensures.0 in rw e (template_next _ _ _ _ _ _ c.loop-i.invariant c.loop-i-test.true _ c.place_at-item.ensures _ c.in_default.ensures refl)

pub returns : goal.returns
returns c = template_end _ _ _ _ _ _ c.loop-i.invariant c.loop-i-test.false
