use Rattle.held.proofs.Names.{same_pointwise}
use Rattle.held.proofs.code_if.Goals as goal

pub returns : goal.returns
returns c = rw (c.then_some.ensures, c.eq.ensures, same_pointwise)
