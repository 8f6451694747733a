use native.Mathlib.Omega.{arith}
use Rattle.integers.proofs.Placed.{numeral_from, numeral_plain}
use Rattle.integers.proofs.numeral.Goals as goal

pub plain_figures-plain-requires : goal.plain_figures-plain-requires
plain_figures-plain-requires c = omega arith

pub zeros-requires : goal.zeros-requires
zeros-requires c = let f = c.plain_figures-plain.ensures.1 in omega arith

pub returns-then-grouping-eq0 : goal.returns-then-grouping-eq0
returns-then-grouping-eq0 c =
    let figs = c.plain_figures-plain.ensures in
    let zeros = c.zeros.ensures in
    numeral_plain c.args.kind c.args.grouping c.args.least c.args.number _ c.if-grouping-eq0.true c.base_of-base.ensures (c.group_size-size.ensures.0) figs.0 figs.2 zeros.0 zeros.1

pub figures-bytes-requires : goal.figures-bytes-requires
figures-bytes-requires c = omega arith

pub zeros-requires-2 : goal.zeros-requires-2
zeros-requires-2 c = omega arith

pub returns : goal.returns
returns c =
    let figs = c.figures-bytes.ensures in
    let zeros = c.zeros-2.ensures in
    numeral_from c.args.kind c.args.grouping c.args.least c.args.number _ c.base_of-base.ensures (c.group_size-size.ensures.0) figs.0 figs.1 figs.3 zeros.0 zeros.1
