use mathlib.Core.Path.{ap}
use mathlib.Core.Bool.{not}
use Rattle.traces.proofs.Scanning.{verdict_count, verdict_range, verdict_none}
use Rattle.traces.proofs.verdict.Goals as goal

pub returns-then-count-fields : goal.returns-then-count-fields
returns-then-count-fields c = verdict_count c.args.fields c.args.count c.args.fits c.if-count-fields.true

pub returns-then-not-fits : goal.returns-then-not-fits
returns-then-not-fits c = verdict_range c.args.fields c.args.count c.args.fits c.if-count-fields.false (ap not c.if-not-fits.true)

pub returns-else-not-fits : goal.returns-else-not-fits
returns-else-not-fits c = verdict_none c.args.fields c.args.count c.args.fits c.if-count-fields.false (ap not c.if-not-fits.false)
