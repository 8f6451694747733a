use Rattle.std.proofs.Common.{refl}
use Rattle.records.specs.Counts.{plus}
use Rattle.records.proofs.plus.Goals as goal

pub returns : goal.returns
unfolding plus
returns c = refl
