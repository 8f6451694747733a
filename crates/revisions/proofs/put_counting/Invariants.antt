use mathlib.Core.Path.{◌≡◌}
use Prim.Native.Nat.{◌≤◌}
use lib.ListN.{length}
use Rattle.definition_revisions.specs.Revisions.{counting}
use Rattle.buffers.specs.Over.{over}
use Rattle.revisions.proofs.put_counting.Given as goal

abbrev pub invariant-loop-k : goal.invariant-loop-k
invariant-loop-k l = (l.k ≤ l.count) × (length l.list ≡ length l.initial.list) × (l.list ≡ over l.initial.list l.at (counting l.from l.k))
