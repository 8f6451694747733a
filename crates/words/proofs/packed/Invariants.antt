use Rattle.std.proofs.Common.{◌≡◌, true, ◌≤◌}
use Rattle.definition.specs.Chars.{part}
use Rattle.words.specs.Packed.{packed, bytes}
use Rattle.words.proofs.packed.Given as goal

abbrev pub invariant-loop-i : goal.invariant-loop-i
invariant-loop-i l = (l.from ≤ l.i) × (l.n ≡ packed (part l.s l.i l.end)) × (bytes (part l.s l.i l.end) ≡ true)
