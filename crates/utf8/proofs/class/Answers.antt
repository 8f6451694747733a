use mathlib.Core.Path.{refl}
use Rattle.definition.specs.Chars.{ascii}
use Rattle.utf8.proofs.class.Goals as goal

pub class_in-requires : goal.class_in-requires
unfolding ascii
class_in-requires c = refl
