use native.Mathlib.Omega.{arith}
use mathlib.Core.Path.{refl, sym, ◌∙◌}
use lib.ListN.{length-take}
use Rattle.sources.proofs.Odds.{long_not, odd_end, broken_in, odd_broken, literal_in, odd_sign, odd_quote, odd_goes}
use Rattle.sources.proofs.odd_in.Goals as goal

pub loop-l-init : goal.loop-l-init
loop-l-init c = record { within = c.requires.0; same = refl }

pub slice_bounds-next_literal-end : goal.slice_bounds-next_literal-end
slice_bounds-next_literal-end c = rw length-take (omega (arith, c.requires.1))

pub returns-in-Err-TooLong : goal.returns-in-Err-TooLong
returns-in-Err-TooLong c = let n = rw c.in-Err-TooLong.field-0-is at c.in-Err-TooLong.ensures in absurd (long_not _ _ _ _ c.requires.1 c.loop-l.invariant c.requires.2 n)

pub byte_in-requires : goal.byte_in-requires
byte_in-requires c = (c.loop-l.invariant.within, c.requires.1)

pub returns-in-Ok-None : goal.returns-in-Ok-None
returns-in-Ok-None c = let n = rw c.in-Ok-None.field-0-is at c.in-Ok-None.ensures in odd_end _ _ _ _ c.requires.1 c.loop-l.invariant n.1 _ _ c.byte_in.ensures c.found_in.ensures

pub byte_in-requires-in-Err-Literal : goal.byte_in-requires-in-Err-Literal
byte_in-requires-in-Err-Literal c = let n = rw c.in-Err-Literal.field-0-is at c.in-Err-Literal.ensures in broken_in _ _ _ _ c.requires.1 c.loop-l.invariant _ _ n.1

pub returns-in-Err-Literal : goal.returns-in-Err-Literal
returns-in-Err-Literal c = let n = rw c.in-Err-Literal.field-0-is at c.in-Err-Literal.ensures in odd_broken _ _ _ _ c.requires.1 c.loop-l.invariant _ _ n.1 _ _ c.byte_in-in-Err-Literal.ensures c.found_in-in-Err-Literal.ensures

pub byte_in-sign-requires : goal.byte_in-sign-requires
byte_in-sign-requires c = let n = rw c.in-Ok-Some.field-0-is at c.in-Ok-Some.ensures in let q = literal_in _ _ _ _ c.requires.1 c.loop-l.invariant _ n.1 in (q.0, omega (arith, q.1, q.2, c.requires.1))

pub returns-then-sign-start : goal.returns-then-sign-start
returns-then-sign-start c = let n = rw c.in-Ok-Some.field-0-is at c.in-Ok-Some.ensures in odd_sign _ _ _ _ c.requires.1 c.loop-l.invariant _ n.1 _ c.byte_in-sign.ensures c.if-sign-start.true

pub quoted_inside-requires : goal.quoted_inside-requires
quoted_inside-requires c = let n = rw c.in-Ok-Some.field-0-is at c.in-Ok-Some.ensures in (literal_in _ _ _ _ c.requires.1 c.loop-l.invariant _ n.1).3

pub returns-then-quoted_inside : goal.returns-then-quoted_inside
returns-then-quoted_inside c = let n = rw c.in-Ok-Some.field-0-is at c.in-Ok-Some.ensures in odd_quote _ _ _ _ c.requires.1 c.loop-l.invariant _ n.1 _ c.byte_in-sign.ensures c.if-sign-start.false (sym c.if-quoted_inside.true ∙ c.quoted_inside.ensures)

pub loop-l-smaller : goal.loop-l-smaller
loop-l-smaller c = let n = rw c.in-Ok-Some.field-0-is at c.in-Ok-Some.ensures in let q = literal_in _ _ _ _ c.requires.1 c.loop-l.invariant _ n.1 in omega (arith, q.0, q.1, q.2)

pub loop-l-preserved : goal.loop-l-preserved
loop-l-preserved c = let n = rw c.in-Ok-Some.field-0-is at c.in-Ok-Some.ensures in odd_goes _ _ _ _ c.requires.1 c.loop-l.invariant _ n.1 _ c.byte_in-sign.ensures c.if-sign-start.false (sym c.if-quoted_inside.false ∙ c.quoted_inside.ensures)
