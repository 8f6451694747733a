use Rattle.std.proofs.Common.{◌<◌, ◌≤◌, max, length}
use Rattle.definition_names.specs.Names.{no_value}
use Rattle.names.proofs.Scans.{Digiting}
use Rattle.names.proofs.read_digits.Given as goal

abbrev pub invariant-loop-i : goal.invariant-loop-i
invariant-loop-i l = Digiting l.file l.at l.v l.i × (l.v < no_value) × (l.i ≤ max l.at (length l.file))
