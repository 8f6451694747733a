use Rattle.std.proofs.Common.{refl, sym, arith}
use Rattle.buffers.proofs.Over.{over_nil}
use Rattle.formats.proofs.write_by.Goals as goal

pub returns-in-Err : goal.returns-in-Err
returns-in-Err g c = rw c.in-Err.is (refl, sym (over_nil _ 0), omega arith)
