use mathlib.Core.Path.{◌≡◌}
use lib.ListN.{take}
use Rattle.definition.specs.Chars.{part}
use Rattle.buffers.specs.Over.{over}
use Rattle.buffers.proofs.add_again.Given as goal

abbrev pub invariant-loop-i : goal.invariant-loop-i
invariant-loop-i l = l.text ≡ over l.initial.text l.used (take l.i (part l.initial.text l.from l.end))
