use Rattle.std.proofs.Common.{refl}
use Rattle.records.proofs.again.frame_again.Goals as goal

pub returns : goal.returns
returns c = refl
