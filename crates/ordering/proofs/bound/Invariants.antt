use Prim.Native.Nat.{◌-◌, ◌≤◌}
use lib.ListN.{length, drop}
use Rattle.definition_names.specs.Names.{first_field}
use Rattle.definition_names.proofs.NameSearch.{Goes}
use Rattle.ordering.proofs.bound.Given as goal

abbrev pub invariant-loop-low : goal.invariant-loop-low
invariant-loop-low l = (l.high ≤ length l.index) × Goes l.file l.index (first_field (drop l.q l.name)) l.low l.high

abbrev pub decreases-loop-low : goal.decreases-loop-low
decreases-loop-low l = l.high - l.low
