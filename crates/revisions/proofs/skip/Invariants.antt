use mathlib.Core.Path.{◌≡◌}
use mathlib.Core.List.{List}
use Prim.Native.Nat.{ℕ, ◌-◌, ◌≤◌}
use lib.ListN.{drop}
use Rattle.revisions.specs.Walks.{items_at}
use Rattle.revisions.proofs.skip.Given as goal

abbrev pub invariant-loop-passed : goal.invariant-loop-passed
invariant-loop-passed l = (l.i ≤ l.count) × ((text : List ℕ) → drop l.items (items_at l.words text l.count l.at) ≡ drop (l.items - l._passed) (items_at l.words text l.count l.i))
