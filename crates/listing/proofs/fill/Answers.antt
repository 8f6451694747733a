use borrow.Author.Rules.{rules}
use native.Mathlib.Omega.{arith}
use Rattle.listing.proofs.Filling.{same_room, filling_start, filling_few, filling_lies, filling_next, filled_short, filled_whole}
use Rattle.listing.proofs.fill.Goals as goal

pub cut_rows-first-requires : goal.cut_rows-first-requires
cut_rows-first-requires c = record { ahead = omega arith; within = omega arith; not_long_lem = c.requires; few = omega arith }

pub loop-i-init : goal.loop-i-init
loop-i-init c = λ b q. filling_start _ _ b c.requires _ _ q

pub returns-then-room-count : goal.returns-then-room-count
returns-then-room-count c = filled_short _ _ _ c.requires _ _ _ (c.loop-i.invariant _ c.cut_rows-first.ensures) _ _ c.cut_rows-first.ensures c.if-room-count.true

pub source_rows-count-requires : goal.source_rows-count-requires
source_rows-count-requires c = filling_lies _ _ _ c.requires _ _ _ (c.loop-i.invariant _ c.cut_rows-first.ensures) c.loop-i-test.true c.if-room-count.false

pub overflow_add-i : goal.overflow_add-i
overflow_add-i c = let f = filling_few _ _ _ c.requires _ _ _ (c.loop-i.invariant _ c.cut_rows-first.ensures) in search rules

pub loop-i-smaller : goal.loop-i-smaller
loop-i-smaller c = let f = filling_few _ _ _ c.requires _ _ _ (c.loop-i.invariant _ c.cut_rows-first.ensures) in omega (arith, c.loop-i-test.true)

pub loop-i-preserved : goal.loop-i-preserved
loop-i-preserved c = λ b q. filling_next _ _ b c.requires _ _ _ (c.loop-i.invariant b q) c.loop-i-test.true (same_room _ _ _ b _ _ _ q c.cut_rows-first.ensures c.if-room-count.false) _ _ c.source_rows-count.ensures

pub returns : goal.returns
returns c = filled_whole _ _ _ c.requires _ _ _ (c.loop-i.invariant _ c.cut_rows-first.ensures) _ _ c.cut_rows-first.ensures c.loop-i-test.false
