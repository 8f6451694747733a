use Rattle.std.proofs.Common.{◌≡◌}
use Rattle.descriptors.proofs.Flattened.{copied}
use Rattle.descriptors.proofs.parse_descriptors.Given as goal

-- the numbers of the first i descriptors stand in front
abbrev pub invariant-loop-i : goal.invariant-loop-i
invariant-loop-i l = l.numbers ≡ copied l.initial.numbers l.descriptors l.i
