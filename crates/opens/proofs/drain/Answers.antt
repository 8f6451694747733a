use native.Mathlib.Omega.{arith}
use Rattle.opens.proofs.OpenLaws.{drain_none, drain_some, drain_one, drain_both, drain_inner}
use Rattle.opens.proofs.drain.Goals as goal
use Rattle.opens.proofs.drain.Goals.{then-o-eq0-via-then-o-eq0, then-o-eq0-via-else-o-eq0+then-o-ne0, then-o-eq1-via-then-o-eq1, then-o-eq1-via-else-o-eq1+then-o-eq0-2}

pub returns-then-o-eq0 : goal.returns-then-o-eq0
returns-then-o-eq0 c =
    let o = c.args.o in
    elim c.then-o-eq0.branch [
      | then-o-eq0-via-then-o-eq0 w ↦ (drain_none o.left o.late o.outer o.behind o.depth w.if-o-eq0.true, omega arith)
      | then-o-eq0-via-else-o-eq0+then-o-ne0 w ↦ (drain_some o.left o.late o.outer o.behind o.depth w.if-o-ne0.true, omega arith)
    ]

pub returns-then-o-eq1 : goal.returns-then-o-eq1
returns-then-o-eq1 c =
    let o = c.args.o in
    elim c.then-o-eq1.branch [
      | then-o-eq1-via-then-o-eq1 w ↦ (drain_one o.left o.late o.outer o.behind o.depth w.if-o-eq1.true c.if-o-ne0.false, omega arith)
      | then-o-eq1-via-else-o-eq1+then-o-eq0-2 w ↦ (drain_both o.left o.late o.outer o.behind o.depth c.if-o-eq0.false w.if-o-eq1.false c.if-o-ne0.false w.if-o-eq0-2.true, omega arith)
    ]

pub returns : goal.returns
returns c = let o = c.args.o in (drain_inner o.left o.late o.outer o.behind o.depth c.if-o-eq0.false c.if-o-eq1.false c.if-o-ne0.false c.if-o-eq0-2.false, omega (arith, c.if-o-eq0.false))
