use mathlib.Core.Path.{◌≡◌}
use Prim.Native.Nat.{◌-◌, ◌≤◌}
use lib.ListN.{length}
use Rattle.trace_lines.specs.Steps.{Held}
use Rattle.trace_lines.proofs.hold_steps.Given as goal

abbrev pub invariant-loop-i : goal.invariant-loop-i
invariant-loop-i l = Held l.held l.words l.count l.text l.k × (l.i ≤ l.count) × (l.at ≤ length l.text) × (length l.held ≡ length l.initial.held)

abbrev pub decreases-loop-i : goal.decreases-loop-i
decreases-loop-i l = l.count - l.i
