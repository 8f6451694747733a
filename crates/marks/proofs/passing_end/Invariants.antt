use Prim.Native.Nat.{◌+◌}
use mathlib.Core.Path.{◌≡◌}
use mathlib.Core.Bool.{not}
use lib.ListN.{drop}
use Rattle.definition.specs.Chars.{before}
use Rattle.marks.specs.Marks.{passing}
use Rattle.marks.proofs.passing_end.Given as goal

abbrev pub invariant-loop-i : goal.invariant-loop-i
invariant-loop-i l = l.at + before (λ b. not (passing b)) (drop l.at l.s) ≡ l.i + before (λ b. not (passing b)) (drop l.i l.s)
