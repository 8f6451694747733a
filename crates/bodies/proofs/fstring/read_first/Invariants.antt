use mathlib.Core.Path.{◌≡◌}
use Prim.Native.Nat.{◌+◌, ◌≤◌}
use lib.ListN.{length}
use Rattle.definition.specs.Chars.{part}
use Rattle.definition.specs.Body.{first_end}
use Rattle.buffers.specs.Over.{over}
use Rattle.bodies.proofs.fstring.read_first.Given as goal

abbrev pub invariant-loop-i : goal.invariant-loop-i
invariant-loop-i l = (l.fn.from.at ≤ l.i) × (l.i ≤ length l.s) × (l.to + l.fn.from.at ≡ l.used + l.i) × (length l.text ≡ length l.initial.text) × (l.text ≡ over l.initial.text l.used (part l.s l.fn.from.at l.i)) × (first_end l.s l.fn.from.at ≡ first_end l.s l.i)
