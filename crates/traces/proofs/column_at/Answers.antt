use Rattle.traces.proofs.Reading.{is_quote, is_minus, column_none, column_bare, column_unclosed, column_quoted}
use Rattle.traces.proofs.column_at.Goals as goal

pub skip-start-requires : goal.skip-start-requires
skip-start-requires c = (c.skip-from.ensures _ is_quote).3

pub returns-then-number-eq0 : goal.returns-then-number-eq0
returns-then-number-eq0 c = rw c.no_column.ensures (column_none _ _ (c.skip-from.ensures _ is_quote) (c.skip-start.ensures _ is_minus) c.read_digits-number.ensures c.if-number-eq0.true)

pub column_end-requires : goal.column_end-requires
column_end-requires c = c.read_digits-number.ensures.3 (c.skip-start.ensures _ is_minus).3

pub returns-then-from-at : goal.returns-then-from-at
returns-then-from-at c = column_bare _ _ (c.skip-from.ensures _ is_quote) (c.skip-start.ensures _ is_minus) c.read_digits-number.ensures c.if-number-eq0.false c.if-from-at.true c.column_end.result.negative c.column_end.result.size c.column_end.ensures

pub skip-past-requires : goal.skip-past-requires
skip-past-requires c = c.read_digits-number.ensures.3 (c.skip-start.ensures _ is_minus).3

pub returns-then-past-end : goal.returns-then-past-end
returns-then-past-end c = rw c.no_column-then-past-end.ensures (column_unclosed _ _ (c.skip-from.ensures _ is_quote) (c.skip-start.ensures _ is_minus) c.read_digits-number.ensures c.if-number-eq0.false c.if-from-at.false (c.skip-past.ensures _ is_quote) c.if-past-end.true)

pub column_end-requires-2 : goal.column_end-requires-2
column_end-requires-2 c = (c.skip-past.ensures _ is_quote).3

pub returns : goal.returns
returns c = column_quoted _ _ (c.skip-from.ensures _ is_quote) (c.skip-start.ensures _ is_minus) c.read_digits-number.ensures c.if-number-eq0.false c.if-from-at.false (c.skip-past.ensures _ is_quote) c.if-past-end.false c.column_end-2.result.negative c.column_end-2.result.size c.column_end-2.ensures
