use Rattle.records.specs.Written.{reserved}
use Rattle.records.proofs.reserve.Goals as goal

pub returns : goal.returns
unfolding reserved
returns c = rw c.plus.ensures
