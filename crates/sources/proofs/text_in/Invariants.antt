use mathlib.Core.Bool.{not}
use Rattle.definition.specs.Chars.{◌is◌}
use Rattle.sources.proofs.Odds.{Scanning}
use Rattle.sources.proofs.text_in.Given as goal

abbrev pub invariant-loop-i : goal.invariant-loop-i
invariant-loop-i l = Scanning (λ x. not (x is " ")) l.s l.from l.end l.i
