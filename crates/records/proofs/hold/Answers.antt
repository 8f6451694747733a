use Rattle.records.specs.Written.{held}
use Rattle.records.proofs.hold.Goals as goal

pub returns : goal.returns
unfolding held
returns c = rw (c.held_from.ensures, c.plus.ensures)
