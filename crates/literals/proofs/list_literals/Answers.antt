use Rattle.definition_scripts.specs.Literals.{literals_into}
use Rattle.literals.proofs.list_literals.Goals as goal

pub returns : goal.returns
unfolding literals_into
returns c = c.finish.ensures _ _ c.list_from-r.auto.numbers c.list_from-r.ensures.1
