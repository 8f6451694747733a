use borrow.Author.Rules.{rules}
use native.Mathlib.Omega.{arith}
use mathlib.Core.Path.{refl, ◌∙◌, ap}
use Prim.Native.Nat.{◌<◌}
use Rattle.definition_replay.specs.Integers.{figure}
use Rattle.integers.proofs.Placed.{more_two, less, digit, loop_step, loop_count, loop_end, come_step, come_end}
use Rattle.integers.proofs.figures.Goals as goal

pub loop-n-init : goal.loop-n-init
loop-n-init c = (omega arith, refl, refl, omega arith, refl)

pub last_digit-parts-requires : goal.last_digit-parts-requires
last_digit-parts-requires c = (c.requires.0, c.requires.1)

pub figure_of-fig-requires : goal.figure_of-fig-requires
figure_of-fig-requires c = rw (c.last_digit-parts.ensures.1) (digit c.loop-n.n c.args.base (c.requires.0) (c.requires.1))

pub loop-n-smaller : goal.loop-n-smaller
loop-n-smaller c = rw (c.last_digit-parts.ensures.0) (less c.args.base c.loop-n.n (c.requires.0) c.loop-n-test.true)

pub loop-n-preserved : goal.loop-n-preserved
loop-n-preserved c =
    let base = c.args.base in let grouping = c.args.grouping in let size = c.args.size in let kind = c.args.kind in
    let n = c.loop-n.n in let at = c.loop-n.at in let come = c.loop-n.come in let out = c.loop-n.out in
    let p = c.requires.0 in
    let h = c.loop-n-test.true in
    let l = less base n p h in
    let put = c.put_figure-at.ensures in
    let b = put.0 in
    let i = c.loop-n.invariant.0 in
    let fig = c.figure_of-fig.ensures ∙ ap (figure kind) (c.last_digit-parts.ensures.1) in
    let two = more_two grouping come c.figure_of-fig.result in
    rw (c.last_digit-parts.ensures.0)
    (omega arith, search rules, loop_step base n p grouping size come kind out at h fig c.come_after-come.ensures put.0 put.1 ∙ c.loop-n.invariant.2, loop_count base n p grouping size come kind out at h fig c.come_after-come.ensures put.0 ∙ c.loop-n.invariant.3, come_step base n p size come h c.come_after-come.ensures ∙ c.loop-n.invariant.4)

pub returns : goal.returns
returns c =
    let base = c.args.base in
    let number = c.args.number in
    let n = c.loop-n.n in
    let p : 1 < base = search rules in
    let h : n < base = search rules in
    let m : number < 0x100000000 = search rules in
    let put = c.put_figure.ensures in
    let two = more_two c.args.grouping c.loop-n.come c.figure_of-fig-2.result in
    let e = loop_end base n p c.args.grouping c.args.size c.loop-n.come c.args.kind c.loop-n.out c.loop-n.at h c.figure_of-fig-2.ensures put.0 put.1 in
    (e.0 ∙ c.loop-n.invariant.3, come_end base n p c.args.size c.loop-n.come h c.come_after.ensures ∙ c.loop-n.invariant.4, omega arith, e.1 ∙ c.loop-n.invariant.2)
