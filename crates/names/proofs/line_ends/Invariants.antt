use Rattle.names.proofs.Scans.{Ending}
use Rattle.names.proofs.line_ends.Given as goal

abbrev pub invariant-loop-i : goal.invariant-loop-i
invariant-loop-i l = Ending l.file l.at l.i l.marks
