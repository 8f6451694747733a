use mathlib.Core.Path.{◌≡◌}
use Prim.Native.Nat.{◌+◌, ◌≤◌}
use lib.ListN.{length}
use Rattle.definition_replay.specs.Integers.{digits}
use Rattle.buffers.specs.Over.{over}
use Rattle.integers.specs.Written.{rest_of}
use Rattle.integers.proofs.plain_figures.Given as goal

abbrev pub invariant-loop-n : goal.invariant-loop-n
invariant-loop-n l = (l.at + l.n ≤ l.number)
    × (length l.out ≡ length l.initial.out)
    × (over l.out l.at (rest_of 0 1 1 l.kind (digits l.base l.n)) ≡ over l.initial.out 0 (rest_of 0 1 1 l.kind (digits l.base l.number)))
    × (l.at + length (rest_of 0 1 1 l.kind (digits l.base l.n)) ≡ length (rest_of 0 1 1 l.kind (digits l.base l.number)))

abbrev pub decreases-loop-n : goal.decreases-loop-n
decreases-loop-n l = l.n
