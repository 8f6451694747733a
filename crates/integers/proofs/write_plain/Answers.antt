use native.Mathlib.Omega.{arith}
use mathlib.Core.Path.{◌∙◌, ap}
use Prim.Native.Nat.{◌+◌, ◌-◌}
use lib.ListN.{length}
use Rattle.definition_replay.specs.Integers.{digits, base_of}
use Rattle.definition_replay_laws.proofs.Integers.WrittenLaws.{fills_in}
use Rattle.integers.proofs.Bounds.{digits_few}
use Rattle.integers.proofs.Joined.{base_most, head_short}
use Rattle.integers.proofs.Plain.{copies_one, plain_written}
use Rattle.integers.proofs.write_plain.Goals as goal

pub count_figures-count-requires : goal.count_figures-count-requires
count_figures-count-requires c = (rw c.base_of-base.ensures c.requires.1, rw c.base_of-base.ensures (base_most c.args.shape.kind))

pub overflow_add-head : goal.overflow_add-head
overflow_add-head c = let f = c.args.shape in let b = c.base_of-base.ensures in let t = c.put_head-head.ensures.0 in let h = head_short f.sign f.alternate f.kind c.args.negative in let n = c.count_figures-count.ensures ∙ ap (λ x. length (digits x c.args.size)) b in let few = digits_few (base_of f.kind) 32 c.args.size c.requires.1 c.ranges.size.fits in omega arith

pub add_bytes-one-requires : goal.add_bytes-one-requires
add_bytes-one-requires c = let f = c.args.shape in let b = c.base_of-base.ensures in let t = c.put_head-head.ensures.0 in let h = head_short f.sign f.alternate f.kind c.args.negative in let n = c.count_figures-count.ensures ∙ ap (λ x. length (digits x c.args.size)) b in let few = digits_few (base_of f.kind) 32 c.args.size c.requires.1 c.ranges.size.fits in let w = c.requires.2 in let q = c.saturating_sub-pad.ensures in let s = fills_in f.align c.saturating_sub-pad.result in let l = c.left_of-left.ensures in let i = c.inner_of-inner.ensures in let a1 = copies_one c.left_of-left.result c.args.byte in let a2 = copies_one c.inner_of-inner.result c.args.byte in omega arith

pub put_head-two-requires : goal.put_head-two-requires
put_head-two-requires c = let f = c.args.shape in let b = c.base_of-base.ensures in let t = c.put_head-head.ensures.0 in let h = head_short f.sign f.alternate f.kind c.args.negative in let n = c.count_figures-count.ensures ∙ ap (λ x. length (digits x c.args.size)) b in let few = digits_few (base_of f.kind) 32 c.args.size c.requires.1 c.ranges.size.fits in let w = c.requires.2 in let q = c.saturating_sub-pad.ensures in let s = fills_in f.align c.saturating_sub-pad.result in let l = c.left_of-left.ensures in let i = c.inner_of-inner.ensures in let a1 = copies_one c.left_of-left.result c.args.byte in let a2 = copies_one c.inner_of-inner.result c.args.byte in let r1 = c.add_bytes-one.ensures.0 in omega arith

pub add_bytes-three-requires : goal.add_bytes-three-requires
add_bytes-three-requires c = let f = c.args.shape in let b = c.base_of-base.ensures in let t = c.put_head-head.ensures.0 in let h = head_short f.sign f.alternate f.kind c.args.negative in let n = c.count_figures-count.ensures ∙ ap (λ x. length (digits x c.args.size)) b in let few = digits_few (base_of f.kind) 32 c.args.size c.requires.1 c.ranges.size.fits in let w = c.requires.2 in let q = c.saturating_sub-pad.ensures in let s = fills_in f.align c.saturating_sub-pad.result in let l = c.left_of-left.ensures in let i = c.inner_of-inner.ensures in let a1 = copies_one c.left_of-left.result c.args.byte in let a2 = copies_one c.inner_of-inner.result c.args.byte in let r1 = c.add_bytes-one.ensures.0 in let r2 = c.put_head-two.ensures.0 in omega arith

pub put_figures-four-requires : goal.put_figures-four-requires
put_figures-four-requires c = let f = c.args.shape in let b = c.base_of-base.ensures in let t = c.put_head-head.ensures.0 in let h = head_short f.sign f.alternate f.kind c.args.negative in let n = c.count_figures-count.ensures ∙ ap (λ x. length (digits x c.args.size)) b in let few = digits_few (base_of f.kind) 32 c.args.size c.requires.1 c.ranges.size.fits in let w = c.requires.2 in let q = c.saturating_sub-pad.ensures in let s = fills_in f.align c.saturating_sub-pad.result in let l = c.left_of-left.ensures in let i = c.inner_of-inner.ensures in let a1 = copies_one c.left_of-left.result c.args.byte in let a2 = copies_one c.inner_of-inner.result c.args.byte in let r1 = c.add_bytes-one.ensures.0 in let r2 = c.put_head-two.ensures.0 in let r3 = c.add_bytes-three.ensures.0 in (rw b c.requires.1, rw b (base_most f.kind), c.count_figures-count.ensures, omega arith)

pub overflow_add-left : goal.overflow_add-left
overflow_add-left c = let f = c.args.shape in let b = c.base_of-base.ensures in let t = c.put_head-head.ensures.0 in let h = head_short f.sign f.alternate f.kind c.args.negative in let n = c.count_figures-count.ensures ∙ ap (λ x. length (digits x c.args.size)) b in let few = digits_few (base_of f.kind) 32 c.args.size c.requires.1 c.ranges.size.fits in let w = c.requires.2 in let q = c.saturating_sub-pad.ensures in let s = fills_in f.align c.saturating_sub-pad.result in let l = c.left_of-left.ensures in let i = c.inner_of-inner.ensures in let a1 = copies_one c.left_of-left.result c.args.byte in let a2 = copies_one c.inner_of-inner.result c.args.byte in omega arith

pub overflow_sub-pad : goal.overflow_sub-pad
overflow_sub-pad c = let f = c.args.shape in let b = c.base_of-base.ensures in let t = c.put_head-head.ensures.0 in let h = head_short f.sign f.alternate f.kind c.args.negative in let n = c.count_figures-count.ensures ∙ ap (λ x. length (digits x c.args.size)) b in let few = digits_few (base_of f.kind) 32 c.args.size c.requires.1 c.ranges.size.fits in let w = c.requires.2 in let q = c.saturating_sub-pad.ensures in let s = fills_in f.align c.saturating_sub-pad.result in let l = c.left_of-left.ensures in let i = c.inner_of-inner.ensures in let a1 = copies_one c.left_of-left.result c.args.byte in let a2 = copies_one c.inner_of-inner.result c.args.byte in omega arith

pub add_bytes-requires : goal.add_bytes-requires
add_bytes-requires c = let f = c.args.shape in let b = c.base_of-base.ensures in let t = c.put_head-head.ensures.0 in let h = head_short f.sign f.alternate f.kind c.args.negative in let n = c.count_figures-count.ensures ∙ ap (λ x. length (digits x c.args.size)) b in let few = digits_few (base_of f.kind) 32 c.args.size c.requires.1 c.ranges.size.fits in let w = c.requires.2 in let q = c.saturating_sub-pad.ensures in let s = fills_in f.align c.saturating_sub-pad.result in let l = c.left_of-left.ensures in let i = c.inner_of-inner.ensures in let a1 = copies_one c.left_of-left.result c.args.byte in let a2 = copies_one c.inner_of-inner.result c.args.byte in let r1 = c.add_bytes-one.ensures.0 in let r2 = c.put_head-two.ensures.0 in let r3 = c.add_bytes-three.ensures.0 in let r4 = c.put_figures-four.ensures.0 in let a3 = copies_one (c.saturating_sub-pad.result - (c.left_of-left.result + c.inner_of-inner.result)) c.args.byte in omega arith

pub returns : goal.returns
returns c =
    plain_written c.args.byte c.args.shape c.requires.0 c.args.negative c.args.size _ c.base_of-base.ensures c.put_head-head.ensures.0 c.count_figures-count.ensures c.saturating_sub-pad.ensures c.left_of-left.ensures c.inner_of-inner.ensures
    c.add_bytes-one.ensures.0 c.add_bytes-one.ensures.1 c.put_head-two.ensures.0 c.put_head-two.ensures.1 c.add_bytes-three.ensures.0 c.add_bytes-three.ensures.1 c.put_figures-four.ensures.0 c.put_figures-four.ensures.1
    c.add_bytes.ensures.0 c.add_bytes.ensures.1
