use mathlib.Core.Path.{◌≡◌}
use Prim.Native.Nat.{◌≤◌}
use Rattle.searches.specs.Firsts.{first_of}
use Rattle.searches.proofs.is_free.Given as goal

-- while no mark is set, nothing was passed
abbrev pub invariant-loop-i : goal.invariant-loop-i
invariant-loop-i l = (l.i ≤ l.to) × (l.first ≡ 0 → l.second ≡ 0 → l.third ≡ 0 → first_of l.a l.b l.c l.s l.from ≡ first_of l.a l.b l.c l.s l.i)
