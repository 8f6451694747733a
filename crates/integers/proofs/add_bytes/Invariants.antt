use mathlib.Core.Path.{◌≡◌}
use mathlib.Core.List.{[], ◌∷◌}
use Prim.Native.Nat.{◌+◌, ◌-◌}
use Rattle.definition_replay.specs.Integers.{copies}
use Rattle.buffers.specs.Over.{over}
use Rattle.integers.proofs.add_bytes.Given as goal

abbrev pub invariant-loop-i : goal.invariant-loop-i
invariant-loop-i l = over l.out (l.used + l.i) (copies (l.count - l.i) (l.byte ∷ [])) ≡ over l.initial.out l.used (copies l.count (l.byte ∷ []))
