use mathlib.Core.Path.{refl}
use Rattle.tokens.proofs.is_formed.Goals as goal

pub returns : goal.returns
returns c = rw (c.well_formed-prefix.ensures.0) refl
