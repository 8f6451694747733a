use native.Mathlib.Omega.{arith}
use Rattle.buffers.proofs.Over.{over_tail}
use Rattle.buffers.proofs.put_group.Goals as goal

pub returns : goal.returns
returns g c = over_tail _ _ _ _ (omega arith) c.put_front.ensures
