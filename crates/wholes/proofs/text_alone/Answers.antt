use Rattle.std.proofs.Common.{refl}
use Rattle.records.specs.Counts.{plus}
use Rattle.records.specs.Written.{held}
use Rattle.wholes.proofs.text_alone.Goals as goal

pub returns : goal.returns
unfolding held plus
returns c = refl
