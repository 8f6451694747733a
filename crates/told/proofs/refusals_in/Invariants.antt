use mathlib.Core.Path.{◌≡◌}
use Prim.Native.Nat.{◌+◌, ◌-◌, ◌≤◌}
use Rattle.definition_scripts.specs.Listing.{refusals_in}
use Rattle.told.specs.Rows.{rows_in}
use Rattle.told.proofs.refusals_in.Given as goal

abbrev pub invariant-loop-i : goal.invariant-loop-i
invariant-loop-i l = (l.n ≤ l.i) × (refusals_in (rows_in l.rows 0 l.i-end) ≡ l.n + refusals_in (rows_in l.rows l.i (l.i-end - l.i)))
