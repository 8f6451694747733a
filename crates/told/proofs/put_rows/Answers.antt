use Rattle.std.proofs.Common.{arith, sym}
use Rattle.buffers.proofs.Over.{over_out, over_tail}
use Rattle.told.proofs.put_rows.Goals as goal

pub returns-then-count-rows : goal.returns-then-count-rows
returns-then-count-rows c = over_tail _ _ _ _ (omega arith) c.put_run.ensures

pub returns-else-count-rows : goal.returns-else-count-rows
returns-else-count-rows c = sym (over_out _ _ _ (omega (arith, c.if-count-rows.false)))
