use mathlib.Core.Path.{◌≡◌}
use Prim.Native.Nat.{◌+◌, ◌≤◌}
use lib.ListN.{length}
use Rattle.definition_replay.specs.Integers.{digits}
use Rattle.integers.proofs.count_figures.Given as goal

abbrev pub invariant-loop-n : goal.invariant-loop-n
invariant-loop-n l = (l.count + l.n ≤ l.number + 1) × (l.count + length (digits l.base l.n) ≡ 1 + length (digits l.base l.number))

abbrev pub decreases-loop-n : goal.decreases-loop-n
decreases-loop-n l = l.n
