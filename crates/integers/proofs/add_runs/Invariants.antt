use mathlib.Core.Path.{◌≡◌}
use Prim.Native.Nat.{◌+◌, ◌-◌}
use lib.ListN.{length}
use Rattle.definition_replay.specs.Integers.{copies}
use Rattle.buffers.specs.Over.{over}
use Rattle.integers.proofs.add_runs.Given as goal

abbrev pub invariant-loop : goal.invariant-loop
invariant-loop l = (over l.out l.at (copies (l.count - l.counter) l.fill) ≡ over l.initial.out l.used (copies l.count l.fill)) × (l.at + length (copies (l.count - l.counter) l.fill) ≡ l.used + length (copies l.count l.fill))
