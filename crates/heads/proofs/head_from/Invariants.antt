use Prim.Native.Nat.{◌-◌}
use mathlib.Core.Path.{◌≡◌}
use lib.ListN.{length}
use Rattle.heads.proofs.FieldLoop.{Sofar}
use Rattle.heads.proofs.head_from.Given as goal

abbrev pub invariant-loop-g : goal.invariant-loop-g
invariant-loop-g l = (length l.text ≡ length l.initial.text) × Sofar l.s l.initial.f.at l.used l.initial.text l.f l.places l.text

abbrev pub decreases-loop-g : goal.decreases-loop-g
decreases-loop-g l = length l.s - l.f.at
