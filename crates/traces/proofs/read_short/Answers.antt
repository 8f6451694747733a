use native.Mathlib.Omega.{arith}
use mathlib.Core.Path.{◌≡◌, sym}
use Prim.Native.Nat.{◌-◌}
use lib.ListN.{get_or}
use Rattle.digits.proofs.Digits.{valued_starts, valued_more}
use Rattle.traces.proofs.NineDigits.{short_starts, short_room, short_most, short_more, value_more}
use Rattle.traces.proofs.read_short.Goals as goal

pub loop-i-init : goal.loop-i-init
loop-i-init c = record { valued = valued_starts _ _; few = short_starts c.args.at }

pub returns-then-not-is_ascii_digit : goal.returns-then-not-is_ascii_digit
returns-then-not-is_ascii_digit c =
    let v = c.loop-i.invariant in let e = c.short_end-end.ensures in
    (v.valued, short_most c.args.at c.loop-i.i c.loop-i.value v.few (omega arith), omega arith)

pub overflow_mul-value : goal.overflow_mul-value
overflow_mul-value c = let v = c.loop-i.invariant in let e = c.short_end-end.ensures in let r = short_room c.args.at c.loop-i.i c.loop-i.value v.few (omega arith) in omega arith

pub overflow_add-value : goal.overflow_add-value
overflow_add-value c = let v = c.loop-i.invariant in let e = c.short_end-end.ensures in let r = short_room c.args.at c.loop-i.i c.loop-i.value v.few (omega arith) in let d = c.if-not-is_ascii_digit.ensures.cases in omega arith

pub loop-i-preserved : goal.loop-i-preserved
loop-i-preserved c =
    let v = c.loop-i.invariant in let e = c.short_end-end.ensures in
    let s = c.args.s.now in let at = c.args.at in let i = c.loop-i.i in let value = c.loop-i.value in
    let r = short_room at i value v.few (omega arith) in
    let d = c.if-not-is_ascii_digit.ensures.cases in
    rw c.from.ensures
    (record {
      valued = valued_more s at value i v.valued (value_more value (get_or s i 0) r (omega arith)) (omega arith) d.0 d.1;
      few = short_more at i value v.few (get_or s i 0 - 48) (omega arith) (omega arith);
    })

pub returns : goal.returns
returns c =
    let v = c.loop-i.invariant in let e = c.short_end-end.ensures in
    let m : c.loop-i.i ≡ c.short_end-end.result = omega arith in
    rw (sym m) (v.valued, short_most c.args.at c.loop-i.i c.loop-i.value v.few (omega arith), omega arith)
