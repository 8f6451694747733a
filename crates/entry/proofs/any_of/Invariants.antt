use Prim.Native.Nat.{◌-◌}
use mathlib.Core.Path.{◌≡◌}
use Rattle.definition.specs.Entry.{any_of}
use Rattle.entry.specs.Answers.{is_of}
use Rattle.entry.specs.Literals.{literals}
use Rattle.entry.proofs.any_of.Given as goal

abbrev pub invariant-loop-i : goal.invariant-loop-i
invariant-loop-i l = any_of (is_of l.class) (literals l.numbers 0 l.count) ≡ any_of (is_of l.class) (literals l.numbers l.i (l.count - l.i))
