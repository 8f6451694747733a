use Rattle.definition_scripts.specs.CutList.{cut_into}
use Rattle.literals.proofs.list_cut.Goals as goal

pub finish-requires : goal.finish-requires
unfolding cut_into
finish-requires c = c.cut_all-r.ensures.0

pub returns : goal.returns
unfolding cut_into
returns c = c.finish.ensures _ _ c.cut_all-r.auto.numbers c.cut_all-r.ensures.1
