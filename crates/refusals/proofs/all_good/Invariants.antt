use mathlib.Core.Path.{◌≡◌}
use Rattle.definition.specs.Entry.{bad, all_good}
use Rattle.entry.specs.Literals.{literals}
use Rattle.entry.proofs.Literals.{end_before, bad_from}
use Rattle.entry.proofs.Passed.{why}
use Rattle.refusals.proofs.all_good.Given as goal

abbrev pub invariant-loop-i : goal.invariant-loop-i
invariant-loop-i l = (l.previous ≡ end_before l.numbers l.i) × (all_good l.script (literals l.numbers 0 l.count) ≡ bad_from l.numbers l.count (bad l.script) why l.i)
