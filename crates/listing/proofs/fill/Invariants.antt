use mathlib.Core.List.{List}
use Prim.Native.Nat.{ℕ, ◌-◌}
use lib.ListN.{length}
use Rattle.escapes.specs.Answers.{names_by}
use Rattle.listing.specs.Put.{PartIs}
use Rattle.listing.proofs.Filling.{Filling}
use Rattle.listing.proofs.fill.Given as goal

abbrev pub invariant-loop-i : goal.invariant-loop-i
invariant-loop-i l = (b : List ℕ) → PartIs (names_by l.names.file.now l.names.index.now) l.script 0 (length l.script) 0 b l.initial.rows 0 l.first → Filling (names_by l.names.file.now l.names.index.now) l.script b l.rows l.i l.count

abbrev pub decreases-loop-i : goal.decreases-loop-i
decreases-loop-i l = 1048576 - l.i
