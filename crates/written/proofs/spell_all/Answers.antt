use borrow.Author.Rules.{rules}
use native.Mathlib.Omega.{arith}
use mathlib.Core.Path.{refl}
use Rattle.written.proofs.GoingLaws.{spelling_starts, spelling_kept, spelling_ends, holds, turn_needs, put_needs, spelling_off, spelling_long, spelling_on}
use Rattle.written.proofs.spell_all.Goals as goal

pub loop-i-init : goal.loop-i-init
loop-i-init c = spelling_starts _ _ _ _ _ refl c.requires.1

pub turn-requires : goal.turn-requires
turn-requires c = turn_needs _ _ _ _ _ _ _ _ c.loop-i.invariant c.loop-i-test.true _ c.record_at-h.ensures

pub shape_of-body-in_err-p : goal.shape_of-body-in_err-p
shape_of-body-in_err-p c = spelling_kept _ _ _ _ _ _ _ _ c.loop-i.invariant

pub returns-in_err-p : goal.returns-in_err-p
returns-in_err-p c =
    let h = c.record_at-h.ensures in
    rw c.from_residual.ensures (spelling_off _ _ _ _ _ _ _ _ c.loop-i.invariant c.loop-i-test.true _ h (c.in_err-p.ensures _ (holds _ _ _ _ _ _ _ _ c.loop-i.invariant c.loop-i-test.true _ h)))

pub put_record-used-requires : goal.put_record-used-requires
put_record-used-requires c = put_needs _ _ _ _ _ _ _ _ c.loop-i.invariant c.loop-i-test.true _ c.record_at-h.ensures

pub shape_of-body-then-used-gt-MOST_BYTES : goal.shape_of-body-then-used-gt-MOST_BYTES
shape_of-body-then-used-gt-MOST_BYTES c = let k = spelling_kept _ _ _ _ _ _ _ _ c.loop-i.invariant in search rules

pub returns-then-used-gt-MOST_BYTES : goal.returns-then-used-gt-MOST_BYTES
returns-then-used-gt-MOST_BYTES c = let h = c.record_at-h.ensures in let r = holds _ _ _ _ _ _ _ _ c.loop-i.invariant c.loop-i-test.true _ h in spelling_long _ _ _ _ _ _ _ _ c.loop-i.invariant c.loop-i-test.true _ h _ (c.in_ok-p.ensures _ r) _ _ (c.put_record-used.ensures _ r) (omega (arith, c.if-used-gt-MOST_BYTES.true))

pub loop-i-preserved : goal.loop-i-preserved
loop-i-preserved c = let h = c.record_at-h.ensures in let r = holds _ _ _ _ _ _ _ _ c.loop-i.invariant c.loop-i-test.true _ h in spelling_on _ _ _ _ _ _ _ _ c.loop-i.invariant c.loop-i-test.true _ h _ (c.in_ok-p.ensures _ r) _ _ (c.put_record-used.ensures _ r) (omega (arith, c.if-used-gt-MOST_BYTES.false))

pub put_closers-end-requires : goal.put_closers-end-requires
put_closers-end-requires c = (let s = c.loop-i.invariant.short in omega arith, c.loop-i.invariant.most)

pub shape_of-body-then-end-gt-MOST_BYTES : goal.shape_of-body-then-end-gt-MOST_BYTES
shape_of-body-then-end-gt-MOST_BYTES c = let k = spelling_kept _ _ _ _ _ _ _ _ c.loop-i.invariant in search rules

pub returns-then-end-gt-MOST_BYTES : goal.returns-then-end-gt-MOST_BYTES
returns-then-end-gt-MOST_BYTES c = (spelling_ends _ _ _ _ _ _ _ _ c.loop-i.invariant (omega (arith, c.loop-i-test.false)) _ _ c.put_closers-end.ensures).1 c.if-end-gt-MOST_BYTES.true

pub shape_of-body : goal.shape_of-body
shape_of-body c = let k = spelling_kept _ _ _ _ _ _ _ _ c.loop-i.invariant in search rules

pub returns : goal.returns
returns c = (spelling_ends _ _ _ _ _ _ _ _ c.loop-i.invariant (omega (arith, c.loop-i-test.false)) _ _ c.put_closers-end.ensures).0 c.if-end-gt-MOST_BYTES.false
