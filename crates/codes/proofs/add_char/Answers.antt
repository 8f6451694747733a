use Rattle.buffers.proofs.Over.{over_tail}
use Rattle.codes.proofs.add_char.Goals as goal

pub returns : goal.returns
returns c = (c.put_char.ensures.0, over_tail _ _ _ _ c.min-from.ensures c.put_char.ensures.1)
