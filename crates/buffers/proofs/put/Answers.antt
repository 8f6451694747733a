use mathlib.Core.Path.{sym}
use Rattle.buffers.proofs.Over.{over_one, over_out}
use Rattle.buffers.proofs.put.Goals as goal

pub returns-then-at-buffer : goal.returns-then-at-buffer
returns-then-at-buffer g c = sym (over_one _ _ _)

pub returns-else-at-buffer : goal.returns-else-at-buffer
returns-else-at-buffer g c = sym (over_out _ _ _ c.if-at-buffer.false)
