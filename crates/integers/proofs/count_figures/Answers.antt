use native.Mathlib.Omega.{arith}
use mathlib.Core.Path.{refl, sym, ◌∙◌, ap}
use lib.ListN.{length}
use Rattle.definition_replay.specs.Integers.{digits}
use Rattle.integers.proofs.Placed.{less}
use Rattle.integers.proofs.Plain.{count_more, count_last}
use Rattle.integers.proofs.count_figures.Goals as goal

pub returns-then-base-eq10 : goal.returns-then-base-eq10
returns-then-base-eq10 c = c.count_ten.ensures ∙ ap (λ b. length (digits b c.args.number)) (sym c.if-base-eq10.true)

pub loop-n-init : goal.loop-n-init
loop-n-init c = (omega arith, refl)

pub last_digit-n-requires : goal.last_digit-n-requires
last_digit-n-requires c = (c.requires.0, c.requires.1)

pub overflow_add-count : goal.overflow_add-count
overflow_add-count c = let i = c.loop-n.invariant.0 in let m = c.ranges.number.fits in omega arith

pub loop-n-smaller : goal.loop-n-smaller
loop-n-smaller c = rw c.last_digit-n.ensures.0 (less c.args.base c.loop-n.n c.requires.0 c.loop-n-test.true)

pub loop-n-preserved : goal.loop-n-preserved
loop-n-preserved c =
    let base = c.args.base in let n = c.loop-n.n in let count = c.loop-n.count in
    let l = less base n c.requires.0 c.loop-n-test.true in
    let e = c.last_digit-n.ensures.0 in
    let i = c.loop-n.invariant.0 in
    let s = count_more base n c.requires.0 count c.loop-n-test.true e in
    let j = c.loop-n.invariant.1 in
    (omega arith, omega arith)

pub returns : goal.returns
returns c = let l = count_last c.args.base c.loop-n.n c.requires.0 c.loop-n-test.false in let j = c.loop-n.invariant.1 in omega arith
