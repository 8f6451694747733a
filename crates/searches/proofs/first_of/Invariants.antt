use mathlib.Core.Path.{◌≡◌}
use Prim.Native.Nat.{◌≤◌, max}
use lib.ListN.{length}
use Rattle.searches.specs.Firsts.{first_of}
use Rattle.searches.proofs.first_of.Given as goal

abbrev pub invariant-loop-i : goal.invariant-loop-i
invariant-loop-i l = (l.i ≤ max l.start (length l.s)) × (first_of l.a l.b l.c l.s l.from ≡ first_of l.a l.b l.c l.s l.i)
