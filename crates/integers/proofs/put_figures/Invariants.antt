use mathlib.Core.Path.{◌≡◌}
use Prim.Native.Nat.{◌+◌, ◌≤◌}
use lib.ListN.{length}
use Rattle.definition_replay.specs.Integers.{digits}
use Rattle.buffers.specs.Over.{over}
use Rattle.integers.specs.Written.{figures_of}
use Rattle.integers.proofs.put_figures.Given as goal

abbrev pub invariant-loop-n : goal.invariant-loop-n
invariant-loop-n l = (l.at ≡ l.from + length (digits l.base l.n))
    × (length l.out ≡ length l.initial.out)
    × (over l.out l.from (figures_of l.kind l.base l.n) ≡ over l.initial.out l.from (figures_of l.kind l.base l.number))
    × (l.at ≤ l.to)

abbrev pub decreases-loop-n : goal.decreases-loop-n
decreases-loop-n l = l.n
