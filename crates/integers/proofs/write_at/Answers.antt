use borrow.Author.Rules.{rules}
use native.Mathlib.Omega.{arith}
use mathlib.Core.Path.{refl}
use Prim.Native.Nat.{◌+◌, ◌-◌, ◌≤◌, ◌<◌}
use Rattle.definition_replay_laws.proofs.Integers.WrittenLaws.{fills_in}
use Rattle.integers.proofs.Joined.{head_short, least_short, copies_short, base_most, count_bound, held_long, written_five}
use Rattle.integers.proofs.write_at.Goals as goal

pub numeral-count-requires : goal.numeral-count-requires
numeral-count-requires c = let p = c.requires in let fill = c.args.fill.now in let f = c.args.shape in let small : c.args.size < 0x100000000 = c.ranges.size.fits in let l = least_short fill f.align f.width c.put_head-head.result in let e = c.least_of-least.ensures in let m : c.least_of-least.result ≤ 64 = omega arith in let b = base_most f.kind in (p.0, b, m)

pub overflow_add-head : goal.overflow_add-head
overflow_add-head c = let p = c.requires in let fill = c.args.fill.now in let f = c.args.shape in let small : c.args.size < 0x100000000 = c.ranges.size.fits in let l = least_short fill f.align f.width c.put_head-head.result in let e = c.least_of-least.ensures in let m : c.least_of-least.result ≤ 64 = omega arith in let t = c.put_head-head.ensures.0 in let h = head_short f.sign f.alternate f.kind c.args.negative in let n = count_bound f.kind f.grouping c.least_of-least.result c.args.size c.numeral-count.ensures.0 p.0 m small in search rules

pub add_copies-one-requires : goal.add_copies-one-requires
add_copies-one-requires c = let p = c.requires in let fill = c.args.fill.now in let f = c.args.shape in let small : c.args.size < 0x100000000 = c.ranges.size.fits in let q = c.saturating_sub-pad.ensures in let w : c.saturating_sub-pad.result ≤ 64 = omega arith in let s = fills_in f.align c.saturating_sub-pad.result in let sl = c.left_of-left.ensures in let si = c.inner_of-inner.ensures in let k = copies_short c.left_of-left.result fill p.2 in omega arith

pub put_head-two-requires : goal.put_head-two-requires
put_head-two-requires c = let p = c.requires in let fill = c.args.fill.now in let f = c.args.shape in let small : c.args.size < 0x100000000 = c.ranges.size.fits in let q = c.saturating_sub-pad.ensures in let w : c.saturating_sub-pad.result ≤ 64 = omega arith in let s = fills_in f.align c.saturating_sub-pad.result in let sl = c.left_of-left.ensures in let si = c.inner_of-inner.ensures in let k = copies_short c.left_of-left.result fill p.2 in let r = c.add_copies-one.ensures.0 in omega arith

pub add_copies-three-requires : goal.add_copies-three-requires
add_copies-three-requires c = let p = c.requires in let fill = c.args.fill.now in let f = c.args.shape in let small : c.args.size < 0x100000000 = c.ranges.size.fits in let q = c.saturating_sub-pad.ensures in let w : c.saturating_sub-pad.result ≤ 64 = omega arith in let s = fills_in f.align c.saturating_sub-pad.result in let sl = c.left_of-left.ensures in let si = c.inner_of-inner.ensures in let k = copies_short c.left_of-left.result fill p.2 in let r = c.add_copies-one.ensures.0 in let t = c.put_head-head.ensures.0 in let h = head_short f.sign f.alternate f.kind c.args.negative in let v = copies_short c.inner_of-inner.result fill p.2 in let r2 = c.put_head-two.ensures.0 in omega arith

pub add_reversed-four-requires : goal.add_reversed-four-requires
add_reversed-four-requires c = let p = c.requires in let fill = c.args.fill.now in let f = c.args.shape in let small : c.args.size < 0x100000000 = c.ranges.size.fits in let q = c.saturating_sub-pad.ensures in let w : c.saturating_sub-pad.result ≤ 64 = omega arith in let s = fills_in f.align c.saturating_sub-pad.result in let sl = c.left_of-left.ensures in let si = c.inner_of-inner.ensures in let k = copies_short c.left_of-left.result fill p.2 in let r = c.add_copies-one.ensures.0 in let t = c.put_head-head.ensures.0 in let h = head_short f.sign f.alternate f.kind c.args.negative in let v = copies_short c.inner_of-inner.result fill p.2 in let l = least_short fill f.align f.width c.put_head-head.result in let e = c.least_of-least.ensures in let m : c.least_of-least.result ≤ 64 = omega arith in let n = count_bound f.kind f.grouping c.least_of-least.result c.args.size c.numeral-count.ensures.0 p.0 m small in let r2 = c.put_head-two.ensures.0 in let r3 = c.add_copies-three.ensures.0 in (held_long _ _ c.numeral-count.ensures.1 refl n, omega arith)

pub overflow_add-left : goal.overflow_add-left
overflow_add-left c = let p = c.requires in let fill = c.args.fill.now in let f = c.args.shape in let small : c.args.size < 0x100000000 = c.ranges.size.fits in let q = c.saturating_sub-pad.ensures in let w : c.saturating_sub-pad.result ≤ 64 = omega arith in let s = fills_in f.align c.saturating_sub-pad.result in let sl = c.left_of-left.ensures in let si = c.inner_of-inner.ensures in search rules

pub overflow_sub-pad : goal.overflow_sub-pad
overflow_sub-pad c = let p = c.requires in let fill = c.args.fill.now in let f = c.args.shape in let small : c.args.size < 0x100000000 = c.ranges.size.fits in let q = c.saturating_sub-pad.ensures in let w : c.saturating_sub-pad.result ≤ 64 = omega arith in let s = fills_in f.align c.saturating_sub-pad.result in let sl = c.left_of-left.ensures in let si = c.inner_of-inner.ensures in search rules

pub add_copies-requires : goal.add_copies-requires
add_copies-requires c =
    let p = c.requires in let fill = c.args.fill.now in let f = c.args.shape in let small : c.args.size < 0x100000000 = c.ranges.size.fits in let q = c.saturating_sub-pad.ensures in let w : c.saturating_sub-pad.result ≤ 64 = omega arith in let s = fills_in f.align c.saturating_sub-pad.result in let sl = c.left_of-left.ensures in let si = c.inner_of-inner.ensures in let k = copies_short c.left_of-left.result fill p.2 in let r = c.add_copies-one.ensures.0 in let t = c.put_head-head.ensures.0 in let h = head_short f.sign f.alternate f.kind c.args.negative in let v = copies_short c.inner_of-inner.result fill p.2 in let l = least_short fill f.align f.width c.put_head-head.result in let e = c.least_of-least.ensures in let m : c.least_of-least.result ≤ 64 = omega arith in let n = count_bound f.kind f.grouping c.least_of-least.result c.args.size c.numeral-count.ensures.0 p.0 m small in let r2 = c.put_head-two.ensures.0 in let r3 = c.add_copies-three.ensures.0 in let r4 = c.add_reversed-four.ensures.0 in
    let z = copies_short (c.saturating_sub-pad.result - (c.left_of-left.result + c.inner_of-inner.result)) fill p.2 in omega arith

pub returns : goal.returns
returns c =
    let p = c.requires in let fill = c.args.fill.now in let f = c.args.shape in let small : c.args.size < 0x100000000 = c.ranges.size.fits in written_five fill f c.args.negative c.args.size _ c.put_head-head.ensures.0 c.least_of-least.ensures c.numeral-count.ensures.0 c.numeral-count.ensures.1 refl p.0 p.1 small
    _ c.args.at c.saturating_sub-pad.ensures c.left_of-left.ensures c.inner_of-inner.ensures c.add_copies-one.ensures.0 c.add_copies-one.ensures.1 c.put_head-two.ensures.0 c.put_head-two.ensures.1
    c.add_copies-three.ensures.0 c.add_copies-three.ensures.1 c.add_reversed-four.ensures.0 c.add_reversed-four.ensures.1 c.add_copies.ensures.0 c.add_copies.ensures.1
