use mathlib.Core.Path.{◌≡◌}
use mathlib.Core.List.{List}
use Prim.Native.Nat.{ℕ, ◌+◌, ◌-◌, ◌≤◌}
use lib.ListN.{length}
use Rattle.revisions.specs.Walks.{items_at}
use Rattle.revisions.proofs.items_from.Given as goal

abbrev pub invariant-loop-i : goal.invariant-loop-i
invariant-loop-i l = (l.at + l.items ≤ l.i) × (l.i ≤ l.count) × ((text : List ℕ) → length (items_at l.words text l.count l.at) ≡ l.items + length (items_at l.words text l.count l.i))

abbrev pub decreases-loop-i : goal.decreases-loop-i
decreases-loop-i l = l.count - l.i
