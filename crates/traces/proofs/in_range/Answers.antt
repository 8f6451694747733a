use Rattle.traces.proofs.Scanning.{range_below, range_above}
use Rattle.traces.proofs.in_range.Goals as goal

pub returns-then-negative : goal.returns-then-negative
returns-then-negative c = range_below c.args.size c.if-negative.true

pub returns-else-negative : goal.returns-else-negative
returns-else-negative c = range_above c.args.size c.if-negative.false
