use Rattle.traces.proofs.Reading.{column_ends}
use Rattle.traces.proofs.column_end.Goals as goal

pub returns : goal.returns
returns c = (column_ends _ c.args.at c.args.minus c.args.size c.behind-ends.result.ends c.behind-ends.result.next c.is_negative.ensures c.behind-ends.ensures.0, c.behind-ends.ensures.1, c.behind-ends.ensures.2)
