use mathlib.Core.Path.{◌≡◌}
use mathlib.Core.List.{reverse}
use Prim.Native.Nat.{◌+◌, ◌-◌}
use lib.ListN.{take}
use Rattle.buffers.specs.Over.{over}
use Rattle.integers.proofs.add_reversed.Given as goal

abbrev pub invariant-loop-i : goal.invariant-loop-i
invariant-loop-i l = over l.out (l.used + l.i) (reverse (take (l.count - l.i) l.units)) ≡ over l.initial.out l.used (reverse (take l.count l.units))
