use Rattle.sources.proofs.Odds.{min_is}
use borrow.Author.Rules.{rules}
use native.Mathlib.Omega.{arith}
use mathlib.Core.Path.{sym, ◌∙◌}
use lib.ListN.{length-take, length-replicate}
use Rattle.escapes.specs.Answers.{names_by}
use Rattle.listing.proofs.Cutting.{short_part}
use Rattle.listing.proofs.Counting.{counting_start, counting_over, counting_breaks, counting_most, counting_found, counting_less, counting_next, literal_most, not_counted, windows_start, windows_few, windows_most, windows_done, windows_next, window_refused, window_among, window_block, window_less, window_seen, blocks_start, blocks_done, in_block, block_source, block_bounded, block_less, block_most, blocks_next}
use Prim.Native.Nat.{ℕ}
use Rattle.listing.proofs.count.+count_block_count_literal_count_part_count_window.Goals as goal

pub count_block-loop-i-init : goal.count_block-loop-i-init
count_block-loop-i-init t c = blocks_start _ _ _ _ (c.requires)

pub count_block-field_at-f-requires : goal.count_block-field_at-f-requires
count_block-field_at-f-requires t c = in_block _ _ _ _ (c.requires) _ _ c.loop-i.invariant c.loop-i-test.true

pub count_block-own_rows-own-requires : goal.count_block-own_rows-own-requires
count_block-own_rows-own-requires t c = rw c.field_at-f.ensures (block_source _ _ _ _ (c.requires) _ _ c.loop-i.invariant c.loop-i-test.true)

pub count_block-count_part-below-requires : goal.count_block-count_part-below-requires
count_block-count_part-below-requires t c = rw (c.source_end.ensures, c.field_at-f.ensures) (omega (arith, c.decreases, block_less _ _ _ _ (c.requires) _ _ c.loop-i.invariant c.loop-i-test.true), block_bounded _ _ _ _ (c.requires) _ _ c.loop-i.invariant c.loop-i-test.true)

pub count_block-overflow_add-rows : goal.count_block-overflow_add-rows
count_block-overflow_add-rows t c = let m = block_most _ _ _ _ (c.requires) _ _ c.loop-i.invariant c.loop-i-test.true _ _ (rw c.field_at-f.ensures at c.own_rows-own.ensures) (rw (c.source_end.ensures, c.field_at-f.ensures) at c.count_part-below.ensures) in omega (arith, m)

pub count_block-overflow_add-rows-in-loop-i : goal.count_block-overflow_add-rows-in-loop-i
count_block-overflow_add-rows-in-loop-i t c = let m = block_most _ _ _ _ (c.requires) _ _ c.loop-i.invariant c.loop-i-test.true _ _ (rw c.field_at-f.ensures at c.own_rows-own.ensures) (rw (c.source_end.ensures, c.field_at-f.ensures) at c.count_part-below.ensures) in omega (arith, m)

pub count_block-loop-i-preserved : goal.count_block-loop-i-preserved
count_block-loop-i-preserved t c = blocks_next _ _ _ _ (c.requires) _ _ c.loop-i.invariant c.loop-i-test.true _ _ (rw c.field_at-f.ensures at c.own_rows-own.ensures) (rw (c.source_end.ensures, c.field_at-f.ensures) at c.count_part-below.ensures)

pub count_block-returns : goal.count_block-returns
count_block-returns t c = blocks_done _ _ _ _ (c.requires) _ _ c.loop-i.invariant c.loop-i-test.false

pub count_literal-loop-seen-init : goal.count_literal-loop-seen-init
count_literal-loop-seen-init t c = windows_start _ _ _

pub count_literal-count_window-w-requires : goal.count_literal-count_window-w-requires
count_literal-count_window-w-requires t c = let f = windows_few _ _ _ _ _ c.loop-seen.invariant (literal_most (names_by c.args.names.now.file.now c.args.names.now.index.now) _ _ (c.requires)).1 in (omega (arith, c.decreases), (c.requires, sym c.is_fstring.ensures ∙ c.if-is_fstring.true, omega (arith, f), c.loop-seen.invariant.some))

pub count_literal-overflow_add-rows : goal.count_literal-overflow_add-rows
count_literal-overflow_add-rows t c = let f = windows_most _ _ _ _ _ c.loop-seen.invariant _ c.count_window-w.ensures in let m = (literal_most (names_by c.args.names.now.file.now c.args.names.now.index.now) _ _ (c.requires)).0 in omega (arith, f, m)

pub count_literal-overflow_add-seen : goal.count_literal-overflow_add-seen
count_literal-overflow_add-seen t c = let f = windows_few _ _ _ _ _ c.loop-seen.invariant (literal_most (names_by c.args.names.now.file.now c.args.names.now.index.now) _ _ (c.requires)).1 in omega (arith, f)

pub count_literal-returns-then-w-seen : goal.count_literal-returns-then-w-seen
count_literal-returns-then-w-seen t c = windows_done _ _ _ _ _ c.loop-seen.invariant _ c.count_window-w.ensures c.if-w-seen.true

pub count_literal-loop-seen-smaller : goal.count_literal-loop-seen-smaller
count_literal-loop-seen-smaller t c = omega (arith, c.if-w-seen.false, c.count_window-w.ensures.all)

pub count_literal-loop-seen-preserved : goal.count_literal-loop-seen-preserved
count_literal-loop-seen-preserved t c = windows_next _ _ _ _ _ c.loop-seen.invariant _ c.count_window-w.ensures c.if-w-seen.false

pub count_literal-returns : goal.count_literal-returns
count_literal-returns t c = not_counted _ _ _ (c.requires) (sym c.is_fstring.ensures ∙ c.if-is_fstring.false)

pub count_part-loop-l-init : goal.count_part-loop-l-init
count_part-loop-l-init t c = counting_start _ _ _ _ (c.requires)

pub count_part-slice_bounds-next_literal-end : goal.count_part-slice_bounds-next_literal-end
count_part-slice_bounds-next_literal-end t c = rw length-take (omega (arith, c.requires.within))

pub count_part-returns-in-Err-TooLong : goal.count_part-returns-in-Err-TooLong
count_part-returns-in-Err-TooLong t c = let n = rw c.in-Err-TooLong.field-0-is at c.in-Err-TooLong.ensures in absurd (short_part _ _ _ _ (c.requires) n)

pub count_part-returns-in-Ok-None : goal.count_part-returns-in-Ok-None
count_part-returns-in-Ok-None t c = let n = rw c.in-Ok-None.field-0-is at c.in-Ok-None.ensures in counting_over _ _ _ _ (c.requires) _ _ c.loop-l.invariant n.1

pub count_part-overflow_add-result : goal.count_part-overflow_add-result
count_part-overflow_add-result t c = let m = counting_most _ _ _ _ (c.requires) _ _ c.loop-l.invariant in omega (arith, m)

pub count_part-returns-in-Err-Literal : goal.count_part-returns-in-Err-Literal
count_part-returns-in-Err-Literal t c = let n = rw c.in-Err-Literal.field-0-is at c.in-Err-Literal.ensures in counting_breaks _ _ _ _ (c.requires) _ _ c.loop-l.invariant _ _ n.1

pub count_part-count_literal-read-requires : goal.count_part-count_literal-read-requires
count_part-count_literal-read-requires t c = let n = rw c.in-Ok-Some.field-0-is at c.in-Ok-Some.ensures in (omega (arith, c.decreases, (counting_less _ _ _ _ (c.requires) _ _ c.loop-l.invariant _ n.1).1), counting_found _ _ _ _ (c.requires) _ _ c.loop-l.invariant _ n.1)

pub count_part-overflow_add-rows : goal.count_part-overflow_add-rows
count_part-overflow_add-rows t c = let n = rw c.in-Ok-Some.field-0-is at c.in-Ok-Some.ensures in let m = counting_most _ _ _ _ (c.requires) _ _ (counting_next _ _ _ _ (c.requires) _ _ c.loop-l.invariant _ n.1 _ _ c.unknown_rows-told.ensures c.count_literal-read.ensures) in omega (arith, m)

pub count_part-overflow_add-rows-in-Ok-Some : goal.count_part-overflow_add-rows-in-Ok-Some
count_part-overflow_add-rows-in-Ok-Some t c = let n = rw c.in-Ok-Some.field-0-is at c.in-Ok-Some.ensures in let m = counting_most _ _ _ _ (c.requires) _ _ (counting_next _ _ _ _ (c.requires) _ _ c.loop-l.invariant _ n.1 _ _ c.unknown_rows-told.ensures c.count_literal-read.ensures) in omega (arith, m)

pub count_part-loop-l-smaller : goal.count_part-loop-l-smaller
count_part-loop-l-smaller t c = let n = rw c.in-Ok-Some.field-0-is at c.in-Ok-Some.ensures in (counting_less _ _ _ _ (c.requires) _ _ c.loop-l.invariant _ n.1).0

pub count_part-loop-l-preserved : goal.count_part-loop-l-preserved
count_part-loop-l-preserved t c = let n = rw c.in-Ok-Some.field-0-is at c.in-Ok-Some.ensures in counting_next _ _ _ _ (c.requires) _ _ c.loop-l.invariant _ n.1 _ _ c.unknown_rows-told.ensures c.count_literal-read.ensures

pub count_window-overflow_cast-seen : goal.count_window-overflow_cast-seen
count_window-overflow_cast-seen t c = let p = c.requires.2 in search rules

pub count_window-overflow_sub-n : goal.count_window-overflow_sub-n
count_window-overflow_sub-n t c = let e = c.in-Ok.ensures in omega (arith, window_among _ _ _ (c.requires.0) _ (c.requires.3) _ e.counted)

pub count_window-count_block-rows-requires : goal.count_window-count_block-rows-requires
count_window-count_block-rows-requires t c = let e = c.in-Ok.ensures in rw (c.min-some.ensures ∙ min_is _ _) (omega (arith, c.decreases, window_less _ _ _ (c.requires.0) _ (c.requires.3) _ _ _ e (length-replicate {A = ℕ} 1280 0)), window_block _ _ _ (c.requires.0) _ (c.requires.3) _ _ _ e (length-replicate {A = ℕ} 1280 0))

pub count_window-returns-in-Err : goal.count_window-returns-in-Err
count_window-returns-in-Err t c = window_refused _ _ _ (c.requires.0) _ (c.requires.3) _ c.in-Err.ensures.0

pub count_window-returns-in-Ok : goal.count_window-returns-in-Ok
count_window-returns-in-Ok t c = let e = c.in-Ok.ensures in window_seen _ _ _ (c.requires.0) _ (c.requires.3) _ _ _ e (length-replicate {A = ℕ} 1280 0) _ (rw (c.min-some.ensures ∙ min_is _ _) at c.count_block-rows.ensures)
