use Rattle.traces.proofs.Reading.{is_minus}
use Rattle.traces.proofs.NineDigits.{column_short}
use Rattle.traces.proofs.read_column.Goals as goal

pub read_short-number-requires : goal.read_short-number-requires
read_short-number-requires c = (c.skip-start.ensures _ is_minus).3

pub returns-in_default : goal.returns-in_default
returns-in_default c =
    let r = c.column_end-column.result in
    column_short c.args.s.now c.args.at c.read_short-number.result.value c.read_short-number.result.next c.if-s-at.false c.if-s-at-eq34.false (c.skip-start.ensures _ is_minus) c.read_short-number.ensures.0 c.read_short-number.ensures.1 c.read_short-number.ensures.2 c.if-number-start.false r.negative r.size c.column_end-column.ensures c.in_default.not-Nothing
