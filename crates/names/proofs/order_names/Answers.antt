use Rattle.std.proofs.Common.{arith}
use Rattle.names.proofs.Indexes.{sized_sound, ordered_is}
use Rattle.names.proofs.order_names.Goals as goal

pub fill-requires : goal.fill-requires
fill-requires c = (c.requires.0, sized_sound _ _ c.requires.1)

pub returns : goal.returns
returns c = ordered_is _ _ _ _ _ c.fill.ensures _ c.requires.1 (omega (arith, c.fill.auto.list)) c.sort.ensures c.is_rising.result c.is_rising.ensures
