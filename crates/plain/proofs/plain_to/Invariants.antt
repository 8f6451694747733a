use mathlib.Core.Path.{◌≡◌}
use Prim.Native.Nat.{◌≤◌}
use Rattle.plain.specs.Plain.{plain_end}
use Rattle.plain.proofs.plain_to.Given as goal

abbrev pub invariant-loop-i : goal.invariant-loop-i
invariant-loop-i l = (l.from ≤ l.i) × (l.i ≤ l.to) × (plain_end l.kind l.s l.from ≡ plain_end l.kind l.s l.i)
