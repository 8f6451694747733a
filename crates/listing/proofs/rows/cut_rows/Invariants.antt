use Prim.Native.Nat.{◌-◌}
use Rattle.escapes.specs.Answers.{names_by}
use Rattle.listing.proofs.Cutting.{Cutting}
use Rattle.listing.proofs.rows.cut_rows.Given as goal

abbrev pub invariant-loop-l : goal.invariant-loop-l
invariant-loop-l l = Cutting (names_by l.names.file.now l.names.index.now) l.s l.from l.end l.within l.initial.rows l.rows l.count l.at l.done l.literals

abbrev pub decreases-loop-l : goal.decreases-loop-l
decreases-loop-l l = l.end - l.at
