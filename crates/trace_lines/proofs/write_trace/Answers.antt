use borrow.Author.Rules.{rules}
use native.Mathlib.Omega.{arith}
use mathlib.Core.Path.{sym}
use lib.Seq.{length-take-le}
use lib.ListN.{length-take}
use Rattle.trace_lines.proofs.Telling.{told_clipped, front_same}
use Rattle.trace_lines.proofs.write_trace.Goals as goal

pub slice_bounds-write_checked-end : goal.slice_bounds-write_checked-end
slice_bounds-write_checked-end c = sym (length-take-le _ _ (let l = c.min-end.ensures in omega arith))

pub write_checked-requires : goal.write_checked-requires
write_checked-requires c = (search rules, (let l = length-take c.min-end.result c.args.text.now in let m = c.min-end.ensures in omega arith))

pub returns : goal.returns
returns c = told_clipped _ c.args.count _ c.args.trace.now _ _ _ c.records_in-most.ensures (rw (front_same c.args.size c.args.text.now c.min-end.ensures) at c.write_checked.ensures)
