use mathlib.Core.Path.{◌≡◌}
use lib.ListN.{length}
use Rattle.objects.specs.Written.{Adds}
use Rattle.lines.specs.Written.{place_lines}
use Rattle.lines.proofs.write_lines.Given as goal

abbrev pub invariant-loop-i : goal.invariant-loop-i
invariant-loop-i l = (length l.out ≡ length l.initial.out) × Adds (place_lines l.words l.text l.i) l.initial.out 0 l.out l.used
