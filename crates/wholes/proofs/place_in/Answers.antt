use Rattle.std.proofs.Common.{refl}
use Rattle.records.specs.Counts.{word}
use Rattle.wholes.proofs.place_in.Goals as goal

pub returns : goal.returns
unfolding word
returns c = rw c.place.ensures refl
