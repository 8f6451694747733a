use mathlib.Core.Path.{◌≡◌}
use Rattle.definition.specs.Body.{first_end}
use Rattle.marks.proofs.brace_from.Given as goal

abbrev pub invariant-loop-i : goal.invariant-loop-i
invariant-loop-i l = first_end l.s l.from ≡ first_end l.s l.i
