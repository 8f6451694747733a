use mathlib.Core.Path.{◌≡◌}
use Prim.Native.Nat.{◌-◌}
use lib.ListN.{length}
use Rattle.trace_lines.proofs.AllLines.{Lines-at}
use Rattle.trace_lines.proofs.write_lines.Given as goal

abbrev pub invariant-loop-next : goal.invariant-loop-next
invariant-loop-next l = (length l.out ≡ length l.initial.out) × Lines-at l.words l.count l.text l.trace l.fields l.initial.out l.out l.used l.next l.row

abbrev pub decreases-loop-next : goal.decreases-loop-next
decreases-loop-next l = length l.trace - l.next
