use mathlib.Core.Path.{◌≡◌}
use Prim.Native.Nat.{◌+◌, ◌-◌}
use lib.ListN.{length}
use Rattle.scans.specs.Scans.{third_of}
use Rattle.scans.proofs.Closings.{Going}
use Rattle.scans.proofs.closing_from.Given as goal

abbrev pub invariant-loop-at : goal.invariant-loop-at
invariant-loop-at l = (l.third ≡ third_of l.quote l.triple) × Going l.s l.quote l.triple l.from l.at

abbrev pub decreases-loop-at : goal.decreases-loop-at
decreases-loop-at l = length l.s + 2 - l.at
