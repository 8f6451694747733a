use mathlib.Core.Path.{refl}
use Rattle.objects.proofs.write_run.Goals as goal

pub returns : goal.returns
returns c = record { wrote = c.add_run.ensures; up = refl }
