use Rattle.formats.proofs.Telling.{as_pad, as_fill}
use Rattle.formats.proofs.write_with.Goals as goal

pub returns-then-form-eq0 : goal.returns-then-form-eq0
returns-then-form-eq0 c = as_pad c.args.s.now c.args.form c.args.negative c.args.size c.ranges.size.fits _ c.if-form-eq0.true c.write_one.ensures

pub returns : goal.returns
returns c = as_fill c.args.s.now c.args.form c.args.negative c.args.size c.ranges.size.fits _ c.if-form-eq0.false c.min-fill.ensures (rw c.anew.ensures at c.write.ensures)
