use Rattle.definition_cuts.specs.Cuts.{all_short}
use Rattle.cuts.proofs.Walking.{Walk}
use Rattle.cuts.proofs.all_short.Given as goal

abbrev pub invariant-loop-cut : goal.invariant-loop-cut
invariant-loop-cut l = Walk (all_short l.limit) l.s l.cuts l.from l.cut-index
