use Rattle.std.proofs.Common.{refl}
use Rattle.entry.specs.Answers.{described}
use Rattle.wholes.specs.Wholes.{whole_between}
use Rattle.wholes.proofs.whole_between.Goals as goal

pub returns : goal.returns
unfolding described whole_between
returns c = rw (c.kind_of.ensures, c.u_mark.ensures) refl
