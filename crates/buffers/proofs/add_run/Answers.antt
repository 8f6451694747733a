use Rattle.buffers.proofs.Over.{over_tail}
use Rattle.buffers.proofs.add_run.Goals as goal

pub returns : goal.returns
returns c = over_tail _ _ _ _ c.min-from.ensures c.put_run.ensures
