use Rattle.ascii.specs.Runs.{Ascii}
use Rattle.ascii.proofs.ascii_bytes.Given as goal

abbrev pub invariant-loop-i : goal.invariant-loop-i
invariant-loop-i l = Ascii l.s l.from l.i
