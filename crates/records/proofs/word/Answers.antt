use Rattle.std.proofs.Common.{refl}
use Rattle.records.specs.Counts.{word}
use Rattle.records.proofs.word.Goals as goal

pub returns : goal.returns
unfolding word
returns c = refl
