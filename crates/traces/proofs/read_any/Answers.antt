use mathlib.Core.Bool.{not}
use mathlib.Core.Path.{ap}
use Rattle.traces.proofs.Reading.{column_past}
use Rattle.traces.proofs.Scanning.{column_fits, column_misfits}
use Rattle.traces.proofs.read_any.Goals as goal

pub returns-then-s-at : goal.returns-then-s-at
returns-then-s-at c = rw c.no_column.ensures (column_past _ _ c.if-s-at.true)

pub returns-then-not-in_range : goal.returns-then-not-in_range
returns-then-not-in_range c =
    let r = c.column_at-column.result in
    rw c.no_column-then-not-in_range.ensures (column_misfits _ _ r.ends r.negative r.size r.next c.column_at-column.ensures c.in_range.ensures c.if-s-at.false (ap not c.if-not-in_range.true))

pub returns : goal.returns
returns c =
    let r = c.column_at-column.result in
    column_fits _ _ r.ends r.negative r.size r.next c.column_at-column.ensures c.in_range.ensures (ap not c.if-not-in_range.false)
