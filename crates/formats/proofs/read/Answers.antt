use Rattle.formats.proofs.Sets.{parts_are}
use Rattle.formats.proofs.read.Goals as goal

pub take_one-grouping-requires : goal.take_one-grouping-requires
take_one-grouping-requires c = c.read_digits-width.ensures.3 c.take_one-nought.ensures.2

pub returns : goal.returns
returns c = parts_are _ c.read_fill-fill.ensures c.take_one-align.ensures c.take_one-sign.ensures c.take_one-z.ensures c.take_one-alternate.ensures c.take_one-nought.ensures c.read_digits-width.ensures c.take_one-grouping.ensures c.read_pointed-precision.ensures c.take_one-kind.ensures
