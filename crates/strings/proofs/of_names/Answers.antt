use mathlib.Core.Path.{refl}
use Rattle.definition.specs.Entry.{refusal}
use Rattle.strings.proofs.of_names.Goals as goal

pub returns : goal.returns
unfolding refusal
returns c = rw c.from.ensures refl
