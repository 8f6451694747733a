use borrow.Author.Rules.{rules}
use native.Mathlib.Omega.{arith}
use mathlib.Core.Path.{refl, ◌∙◌}
use Prim.Native.Nat.{◌≤◌, ◌<◌}
use Rattle.integers.proofs.Placed.{more_some, more_two, zeros_step, zeros_count, zeros_end}
use Rattle.integers.proofs.zeros.Goals as goal

pub loop-to-init : goal.loop-to-init
loop-to-init c = (omega arith, refl, refl, refl)

pub loop-to-smaller : goal.loop-to-smaller
loop-to-smaller c =
    let least = c.args.least in
    let to = c.loop-to.to in
    let put = c.put_figure-to.ensures in
    let h : to < least = search rules in
    let some = more_some c.args.grouping c.loop-to.c 48 in
    omega arith

pub loop-to-preserved : goal.loop-to-preserved
loop-to-preserved c =
    let least = c.args.least in
    let to = c.loop-to.to in
    let put = c.put_figure-to.ensures in
    let h : to < least = search rules in
    let two = more_two c.args.grouping c.loop-to.c 48 in
    (omega arith, search rules, zeros_step least c.args.grouping c.args.size c.loop-to.out to c.loop-to.c h c.come_after-c.ensures put.0 put.1 ∙ c.loop-to.invariant.2, zeros_count least c.args.grouping c.args.size c.loop-to.out to c.loop-to.c h c.come_after-c.ensures put.0 ∙ c.loop-to.invariant.3)

pub returns : goal.returns
returns c =
    let least = c.args.least in
    let to = c.loop-to.to in
    let h : least ≤ to = search rules in
    let e = zeros_end least c.args.grouping c.args.size c.loop-to.out to c.loop-to.c h in
    (e.1 ∙ c.loop-to.invariant.3, e.0 ∙ c.loop-to.invariant.2)
