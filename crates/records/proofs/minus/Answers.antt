use Rattle.std.proofs.Common.{refl}
use Rattle.records.specs.Counts.{minus}
use Rattle.records.proofs.minus.Goals as goal

pub returns : goal.returns
unfolding minus
returns c = refl
