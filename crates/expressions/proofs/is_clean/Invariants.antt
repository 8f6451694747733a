use mathlib.Core.Path.{◌≡◌}
use Prim.Native.Nat.{◌-◌, ◌≤◌}
use mathlib.Core.Bool.{false}
use mathlib.Core.List.{[]}
use lib.ListN.{length, drop}
use Rattle.definition.specs.Matched.{clear}
use Rattle.definition_written.specs.ReadsBack.{clean}
use Rattle.expressions.specs.Scans.{state_of}
use Rattle.expressions.proofs.is_clean.Given as goal

abbrev pub invariant-loop-i : goal.invariant-loop-i
invariant-loop-i l = (clean false (clear []) l.s ≡ clean false (state_of l.stack l.quote l.depth) (drop l.i l.s)) × (l.depth ≤ 64) × (length l.stack ≡ 64)

abbrev pub decreases-loop-i : goal.decreases-loop-i
decreases-loop-i l = length l.s - l.i
