use borrow.Author.Rules.{rules}
use native.Mathlib.Omega.{arith}
use lib.ListN.{length-take}
use Rattle.listing.proofs.Cutting.{cutting_start, cutting_over, cutting_breaks, cutting_few, short_part, cutting_less, cutting_next}
use Rattle.listing.proofs.rows.cut_rows.Goals as goal

pub loop-l-init : goal.loop-l-init
loop-l-init c = cutting_start _ _ _ _ _ _ _ c.requires

pub slice_bounds-next_literal-end : goal.slice_bounds-next_literal-end
slice_bounds-next_literal-end c = rw length-take (omega (arith, c.requires.within))

pub overflow_cast-result : goal.overflow_cast-result
overflow_cast-result c = let p = c.requires in search rules

pub returns-in-Err-TooLong : goal.returns-in-Err-TooLong
returns-in-Err-TooLong c = let n = rw c.in-Err-TooLong.field-0-is at c.in-Err-TooLong.ensures in absurd (short_part _ _ _ _ c.requires n)

pub overflow_cast-result-in-Err-TooLong : goal.overflow_cast-result-in-Err-TooLong
overflow_cast-result-in-Err-TooLong c = let p = c.requires in search rules

pub returns-in-Ok-None : goal.returns-in-Ok-None
returns-in-Ok-None c = let n = rw c.in-Ok-None.field-0-is at c.in-Ok-None.ensures in cutting_over _ _ _ _ _ _ _ c.requires _ _ _ _ c.loop-l.invariant n.1

pub overflow_add-result : goal.overflow_add-result
overflow_add-result c = let f = cutting_few _ _ _ _ _ _ _ c.requires _ _ _ _ c.loop-l.invariant in search rules

pub returns-in-Err-Literal : goal.returns-in-Err-Literal
returns-in-Err-Literal c = let n = rw c.in-Err-Literal.field-0-is at c.in-Err-Literal.ensures in cutting_breaks _ _ _ _ _ _ _ c.requires _ _ _ _ c.loop-l.invariant _ _ n.1 _ c.put_refusal.ensures

pub overflow_cast-done : goal.overflow_cast-done
overflow_cast-done c = let f = cutting_few _ _ _ _ _ _ _ c.requires _ _ _ _ c.loop-l.invariant in omega (arith, f.0)

pub overflow_add-literals : goal.overflow_add-literals
overflow_add-literals c = let f = cutting_few _ _ _ _ _ _ _ c.requires _ _ _ _ c.loop-l.invariant in omega (arith, f.1)

pub loop-l-smaller : goal.loop-l-smaller
loop-l-smaller c = let n = rw c.in-Ok-Some.field-0-is at c.in-Ok-Some.ensures in cutting_less _ _ _ _ _ _ _ c.requires _ _ _ _ c.loop-l.invariant _ n.1

pub loop-l-preserved : goal.loop-l-preserved
loop-l-preserved c = let n = rw c.in-Ok-Some.field-0-is at c.in-Ok-Some.ensures in cutting_next _ _ _ _ _ _ _ c.requires _ _ _ _ c.loop-l.invariant _ n.1 _ _ c.literal_rows-done.ensures.0
