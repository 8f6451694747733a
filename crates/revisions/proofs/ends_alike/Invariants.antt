use mathlib.Core.Path.{◌≡◌}
use Prim.Native.Nat.{◌+◌, ◌-◌, ◌≤◌}
use Rattle.definition_revisions.proofs.Laws.Forward.{last_run}
use Rattle.revisions.specs.Walks.{items_at}
use Rattle.revisions.proofs.ends_alike.Given as goal

abbrev pub invariant-loop-i : goal.invariant-loop-i
invariant-loop-i l = (l.at + l.items ≤ l.i)
    × (l.i ≤ l.count)
    × (l.j ≤ l.total)
    × (last_run 0 (items_at l.words l.text l.count l.at) (items_at l.others l.other l.total l.from) ≡ last_run l.items (items_at l.words l.text l.count l.i) (items_at l.others l.other l.total l.j))

abbrev pub decreases-loop-i : goal.decreases-loop-i
decreases-loop-i l = l.count - l.i
