use mathlib.Core.Path.{◌≡◌}
use mathlib.Core.Bool.{false}
use Prim.Native.Nat.{◌*◌, ◌≤◌}
use Rattle.formed.specs.Good.{records_at, good_from}
use Rattle.formed.proofs.are_good.Given as goal

abbrev pub invariant-loop-i : goal.invariant-loop-i
invariant-loop-i l = (l.i ≤ l.count)
    × (l.owed ≤ l.i * 4294967295)
    × (l.at ≤ l.i * 4294967295)
    × (good_from l.text false 0 0 (records_at l.words l.count 0 0) ≡ good_from l.text l.due l.owed l.at (records_at l.words l.count l.i l.owed))
