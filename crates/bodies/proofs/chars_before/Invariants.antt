use Prim.Native.Nat.{◌+◌, ◌-◌}
use mathlib.Core.Path.{◌≡◌}
use Rattle.definition.specs.Reading.{all_chars}
use Rattle.entry.specs.Literals.{literals}
use Rattle.bodies.proofs.chars_before.Given as goal

abbrev pub invariant-loop-i : goal.invariant-loop-i
invariant-loop-i l = all_chars l.script (literals l.numbers 0 l.count) ≡ l.chars + all_chars l.script (literals l.numbers l.i (l.count - l.i))
