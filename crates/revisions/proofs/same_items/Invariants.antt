use mathlib.Core.Path.{◌≡◌}
use Prim.Native.Nat.{◌+◌, ◌-◌}
use Rattle.definition_revisions.specs.Revisions.{same_item}
use Rattle.revisions.specs.Walks.{shapes_from}
use Rattle.revisions.proofs.same_items.Given as goal

abbrev pub invariant-loop-k : goal.invariant-loop-k
invariant-loop-k l = same_item (shapes_from l.words l.text l.i (l.to - l.i)) (shapes_from l.others l.other l.j (l.end - l.j)) ≡ same_item (shapes_from l.words l.text (l.i + l.k) (l.n - l.k)) (shapes_from l.others l.other (l.j + l.k) (l.n - l.k))
