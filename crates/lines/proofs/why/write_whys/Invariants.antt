use mathlib.Core.Path.{◌≡◌}
use lib.ListN.{length}
use Rattle.objects.specs.Written.{Adds}
use Rattle.lines.specs.Whys.{fields_in, why_places}
use Rattle.lines.proofs.why.write_whys.Given as goal

abbrev pub invariant-loop-i : goal.invariant-loop-i
invariant-loop-i l = (length l.out ≡ length l.initial.out) × (l.so.fields ≡ fields_in l.words l.i) × Adds (why_places l.words l.text l.rows l.i) l.initial.out 0 l.out l.so.used
