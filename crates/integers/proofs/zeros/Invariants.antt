use mathlib.Core.Path.{◌≡◌}
use Prim.Native.Nat.{◌+◌, ◌-◌, ◌≤◌}
use lib.ListN.{length}
use Rattle.buffers.specs.Over.{over}
use Rattle.integers.specs.Written.{zeros_n}
use Rattle.integers.proofs.zeros.Given as goal

abbrev pub invariant-loop-to : goal.invariant-loop-to
invariant-loop-to l = (l.to ≤ 0x200000002)
    × (length l.out ≡ length l.initial.out)
    × (over l.out l.to (zeros_n l.least l.least l.grouping l.size l.to l.c) ≡ over l.initial.out l.at (zeros_n l.least l.least l.grouping l.size l.at l.come))
    × (l.to + length (zeros_n l.least l.least l.grouping l.size l.to l.c) ≡ l.at + length (zeros_n l.least l.least l.grouping l.size l.at l.come))

abbrev pub decreases-loop-to : goal.decreases-loop-to
decreases-loop-to l = l.least - l.to
