use Prim.Native.Nat.{◌+◌, ◌-◌, ◌*◌, ◌≤◌}
use mathlib.Core.Path.{◌≡◌}
use Rattle.definition.specs.Entry.{total}
use Rattle.entry.specs.Literals.{literals}
use Rattle.refusals.proofs.total.Given as goal

abbrev pub invariant-loop-i : goal.invariant-loop-i
invariant-loop-i l = (l.sum ≤ l.i * 0xFFFFFFFF) × (total (literals l.numbers 0 l.count) ≡ l.sum + total (literals l.numbers l.i (l.count - l.i)))
