use Rattle.formats.proofs.Telling.{told_refused, told_parts}
use Rattle.formats.proofs.tell.Goals as goal

pub returns-then-p-s : goal.returns-then-p-s
returns-then-p-s c = told_refused _ c.read-p.ensures c.if-p-s.true c.from-number.ensures

pub returns : goal.returns
returns c = told_parts _ c.read-p.ensures c.if-p-s.false c.from.ensures c.from-2.ensures c.flag.ensures c.flag-2.ensures c.flag-3.ensures c.from-3.ensures c.from-4.ensures c.rounding.ensures
