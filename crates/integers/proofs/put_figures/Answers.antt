use borrow.Author.Rules.{rules}
use native.Mathlib.Omega.{arith}
use mathlib.Core.Path.{refl, sym, ◌∙◌, ap}
use Rattle.definition_replay.specs.Integers.{figure}
use Rattle.buffers.proofs.Over.{over_one}
use Rattle.integers.proofs.Placed.{less, digit}
use Rattle.integers.proofs.Plain.{count_more, figures_some, figures_back, figures_first}
use Rattle.integers.proofs.put_figures.Goals as goal

pub loop-n-init : goal.loop-n-init
loop-n-init c = (let p = c.requires.2 in omega arith, refl, refl, omega arith)

pub last_digit-parts-requires : goal.last_digit-parts-requires
last_digit-parts-requires c = (c.requires.0, c.requires.1)

pub figure_of-fig-requires : goal.figure_of-fig-requires
figure_of-fig-requires c = rw c.last_digit-parts.ensures.1 (digit c.loop-n.n c.args.base c.requires.0 c.requires.1)

pub overflow_sub-at : goal.overflow_sub-at
overflow_sub-at c = let i = c.loop-n.invariant in let p = c.requires.3 in let s = figures_some c.args.base c.loop-n.n c.requires.0 in omega arith

pub bounds-out-at : goal.bounds-out-at
bounds-out-at c = let i = c.loop-n.invariant in let p = c.requires.3 in let s = figures_some c.args.base c.loop-n.n c.requires.0 in omega arith

pub loop-n-smaller : goal.loop-n-smaller
loop-n-smaller c = rw c.last_digit-parts.ensures.0 (less c.args.base c.loop-n.n c.requires.0 c.loop-n-test.true)

pub loop-n-preserved : goal.loop-n-preserved
loop-n-preserved c =
    let base = c.args.base in let n = c.loop-n.n in let at = c.loop-n.at in
    let p = c.requires.0 in
    let h = c.loop-n-test.true in
    let e = c.last_digit-parts.ensures.0 in
    let i = c.loop-n.invariant in
    let m = count_more base n p 0 h e in
    let fig = c.figure_of-fig.ensures ∙ ap (figure c.args.kind) c.last_digit-parts.ensures.1 in
    (omega arith, search rules, figures_back base n p c.args.kind c.loop-n.out c.args.from at h e fig i.0 (sym (over_one _ _ _)) ∙ i.2, omega arith)

pub bounds-out-from : goal.bounds-out-from
bounds-out-from c = let i = c.loop-n.invariant in let p = c.requires.3 in let s = figures_some c.args.base c.loop-n.n c.requires.0 in omega arith

pub returns : goal.returns
returns c = (refl, figures_first c.args.base c.loop-n.n c.requires.0 c.args.kind c.loop-n.out c.args.from c.loop-n-test.false c.figure_of.ensures (sym (over_one _ _ _)) ∙ c.loop-n.invariant.2)
