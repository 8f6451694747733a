use native.Mathlib.Omega.{arith}
use mathlib.Core.Path.{refl, ◌∙◌}
use Rattle.definition_scripts.specs.Literals.{flat}
use Rattle.definition_scripts_laws.proofs.Cut.CutListLaws.{cut_long}
use Rattle.literals.proofs.Listings.{cutting_starts, cutting_ended, cutting_broken, cutting_more}
use Rattle.literals.proofs.cut_all.Goals as goal

pub loop-found-init : goal.loop-found-init
unfolding flat
loop-found-init c = (refl, cutting_starts _ _)

pub returns-in-Err-TooLong : goal.returns-in-Err-TooLong
unfolding flat
returns-in-Err-TooLong c = (tt, λ room. cut_long _ room (rw c.in-Err-TooLong.field-0-is at c.in-Err-TooLong.ensures))

pub returns-in-Err-Literal : goal.returns-in-Err-Literal
unfolding flat
returns-in-Err-Literal c = let h = rw c.in-Err-Literal.field-0-is at c.in-Err-Literal.ensures in cutting_broken _ _ _ _ _ c.loop-found.invariant.1 h.0 _ _ h.1

pub overflow_cast-result : goal.overflow_cast-result
unfolding flat
overflow_cast-result c = let h = rw c.in-Ok-None.field-0-is at c.in-Ok-None.ensures in omega (arith, h.0)

pub returns-in-Ok-None : goal.returns-in-Ok-None
unfolding flat
returns-in-Ok-None c = let h = rw c.in-Ok-None.field-0-is at c.in-Ok-None.ensures in cutting_ended _ _ _ _ _ c.loop-found.invariant.1 h.0 h.1

pub overflow_add-count : goal.overflow_add-count
unfolding flat
overflow_add-count c = let h = rw c.in-Ok-Some.field-0-is at c.in-Ok-Some.ensures in omega (arith, h.0, c.loop-found.invariant.1.puts.few, c.loop-found.invariant.1.puts.within)

pub loop-found-smaller : goal.loop-found-smaller
unfolding flat
loop-found-smaller c = let h = rw c.in-Ok-Some.field-0-is at c.in-Ok-Some.ensures in let m = cutting_more _ _ _ _ _ c.loop-found.invariant.1 h.0 _ _ h.1 c.put_literal.ensures in omega (arith, m.0, m.1.puts.within)

pub loop-found-preserved : goal.loop-found-preserved
unfolding flat
loop-found-preserved c = let h = rw c.in-Ok-Some.field-0-is at c.in-Ok-Some.ensures in (c.put_literal.auto.numbers ∙ c.loop-found.invariant.0, (cutting_more _ _ _ _ _ c.loop-found.invariant.1 h.0 _ _ h.1 c.put_literal.ensures).1)
