use borrow.Author.Rules.{rules}
use native.Mathlib.Omega.{arith}
use mathlib.Core.Path.{refl, ◌∙◌, ap}
use Rattle.definition_replay.specs.Integers.{figure}
use Rattle.integers.proofs.Placed.{less, digit, plain_step, plain_count, plain_end_lem}
use Rattle.integers.proofs.plain_figures.Goals as goal

pub loop-n-init : goal.loop-n-init
loop-n-init c = (omega arith, refl, refl, omega arith)

pub last_digit-parts-requires : goal.last_digit-parts-requires
last_digit-parts-requires c = (c.requires.0, c.requires.1)

pub figure_of-fig-requires : goal.figure_of-fig-requires
figure_of-fig-requires c = rw (c.last_digit-parts.ensures.1) (digit c.loop-n.n c.args.base (c.requires.0) (c.requires.1))

pub overflow_add-at : goal.overflow_add-at
overflow_add-at c = let i = c.loop-n.invariant.0 in let m = c.ranges.number.fits in omega arith

pub loop-n-smaller : goal.loop-n-smaller
loop-n-smaller c = rw (c.last_digit-parts.ensures.0) (less c.args.base c.loop-n.n (c.requires.0) c.loop-n-test.true)

pub loop-n-preserved : goal.loop-n-preserved
loop-n-preserved c =
    let base = c.args.base in let kind = c.args.kind in let n = c.loop-n.n in let at = c.loop-n.at in let out = c.loop-n.out in
    let p = c.requires.0 in
    let h = c.loop-n-test.true in
    let l = less base n p h in
    let i = c.loop-n.invariant.0 in
    let s = c.loop-n.invariant.1 in
    let fig = c.figure_of-fig.ensures ∙ ap (figure kind) (c.last_digit-parts.ensures.1) in
    rw (c.last_digit-parts.ensures.0)
    (omega arith, search rules, plain_step base n p kind out at _ h fig c.put.ensures ∙ c.loop-n.invariant.2, plain_count base n p kind out at c.figure_of-fig.result h fig ∙ c.loop-n.invariant.3)

pub overflow_add-result : goal.overflow_add-result
overflow_add-result c = let i = c.loop-n.invariant.0 in let m = c.ranges.number.fits in omega arith

pub returns : goal.returns
returns c =
    let base = c.args.base in let n = c.loop-n.n in let p = c.requires.0 in
    let h = c.loop-n-test.false in
    let m = c.ranges.number.fits in
    let i = c.loop-n.invariant.0 in
    let e = plain_end_lem base n p c.args.kind c.loop-n.out c.loop-n.at _ h c.figure_of-fig-2.ensures c.put-2.ensures in
    (e.0 ∙ c.loop-n.invariant.3, omega arith, e.1 ∙ c.loop-n.invariant.2)
