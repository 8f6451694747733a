use Rattle.std.proofs.Common.{refl}
use Rattle.records.specs.Counts.{plus}
use Rattle.wholes.specs.Wholes.{refused_in}
use Rattle.wholes.proofs.refused_in.Goals as goal

pub returns : goal.returns
unfolding refused_in plus
returns c = rw (c.place_in.ensures, c.word.ensures, c.opened_at.ensures, c.word-2.ensures, c.word-3.ensures, c.word-4.ensures) refl
