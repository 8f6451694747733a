use lib.ListN.{length}
use Rattle.offsets.proofs.Rising.{Rising}
use Rattle.offsets.proofs.rises.Given as goal

abbrev pub invariant-loop-cut : goal.invariant-loop-cut
invariant-loop-cut l = Rising (length l.s) l.cuts l.from l.cut-index
