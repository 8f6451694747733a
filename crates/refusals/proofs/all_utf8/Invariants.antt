use Prim.Native.Nat.{◌+◌, ◌-◌}
use mathlib.Core.Path.{◌≡◌}
use Rattle.definition.specs.Entry.{ill_formed, all_utf8}
use Rattle.definition.specs.Reading.{all_chars}
use Rattle.entry.specs.Literals.{literals}
use Rattle.entry.proofs.Literals.{bad_from}
use Rattle.entry.proofs.Passed.{why_not}
use Rattle.refusals.proofs.all_utf8.Given as goal

abbrev pub invariant-loop-i : goal.invariant-loop-i
invariant-loop-i l = (all_utf8 l.script (literals l.numbers 0 l.count) ≡ bad_from l.numbers l.count (ill_formed l.script) (why_not l.script) l.i)
    × (all_chars l.script (literals l.numbers 0 l.count) ≡ l.chars + all_chars l.script (literals l.numbers l.i (l.count - l.i)))
