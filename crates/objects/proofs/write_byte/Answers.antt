use mathlib.Core.Path.{refl}
use Rattle.objects.proofs.write_byte.Goals as goal

pub returns : goal.returns
returns c = record { wrote = c.put.ensures; up = refl }
