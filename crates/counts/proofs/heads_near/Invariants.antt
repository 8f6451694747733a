use mathlib.Core.Path.{◌≡◌}
use Prim.Native.Nat.{◌-◌, ◌≤◌}
use Rattle.counts.specs.Heads.{heads_from}
use Rattle.counts.proofs.heads_near.Given as goal

abbrev pub invariant-loop-i : goal.invariant-loop-i
invariant-loop-i l = (l.from ≤ l.i) × (l.i ≤ l.to) × (l.n ≡ heads_from (l.i - l.from) l.s l.from)
