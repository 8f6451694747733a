use mathlib.Core.Path.{◌≡◌}
use lib.ListN.{replicate}
use Rattle.buffers.specs.Over.{over}
use Rattle.buffers.proofs.fill.Given as goal

abbrev pub invariant-loop-place : goal.invariant-loop-place
invariant-loop-place g l = l.place-items ≡ over l.initial.place-items 0 (replicate l.place-index l.item)
