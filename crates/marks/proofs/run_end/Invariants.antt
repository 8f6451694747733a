use Prim.Native.Nat.{◌+◌, ◌-◌}
use mathlib.Core.Path.{◌≡◌}
use lib.Dec.{eqb}
use lib.ListN.{length, drop}
use Rattle.definition.specs.Chars.{before}
use Rattle.marks.proofs.run_end.Given as goal

abbrev pub invariant-run : goal.invariant-run
invariant-run l = l.from + before (λ b. eqb b l.quote) (drop l.from l.s) ≡ l.i + before (λ b. eqb b l.quote) (drop l.i l.s)

abbrev pub decreases-run : goal.decreases-run
decreases-run l = length l.s - l.i
