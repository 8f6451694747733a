use mathlib.Core.Bool.{false}
use mathlib.Core.Path.{◌≡◌}
use Prim.Native.Nat.{◌+◌, ◌≤◌}
use Rattle.ascii.specs.Runs.{Below, all_ascii}
use Rattle.ascii.proofs.is_ascii.Given as goal

-- no byte so far is above the greatest, and one that is not ASCII tells of all
abbrev pub invariant-loop-b : goal.invariant-loop-b
invariant-loop-b l = Below (l.most + 1) l.s 0 l.b-index × (0x80 ≤ l.most → all_ascii l.s ≡ false)
