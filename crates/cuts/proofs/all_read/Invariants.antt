use Rattle.definition_cuts.specs.Cuts.{all_read}
use Rattle.cuts.proofs.Walking.{Walk}
use Rattle.cuts.proofs.all_read.Given as goal

abbrev pub invariant-loop-cut : goal.invariant-loop-cut
invariant-loop-cut l = Walk all_read l.s l.cuts l.from l.cut-index
