use mathlib.Core.Path.{◌≡◌}
use mathlib.Core.List.{List}
use Prim.Native.Nat.{ℕ, ◌*◌, ◌≤◌}
use Rattle.revisions.specs.Walks.{items_at}
use Rattle.revisions.proofs.Walking.{walked}
use Rattle.revisions.proofs.item_end.Given as goal

abbrev pub invariant-loop-i : goal.invariant-loop-i
invariant-loop-i l = (l.at ≤ l.i) × (l.i ≤ l.count) × (l.owed ≤ l.i * 4294967295) × ((text : List ℕ) → items_at l.words text l.count l.at ≡ walked l.words text l.count l.at l.i l.owed)
