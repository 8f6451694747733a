use Prim.Native.Nat.{◌-◌}
use Rattle.templates.proofs.Items.{Template-at}
use Rattle.templates.proofs.check_all.Given as goal

abbrev pub invariant-loop-i : goal.invariant-loop-i
invariant-loop-i l = Template-at l.words l.count l.text l.i l.at l.k

abbrev pub decreases-loop-i : goal.decreases-loop-i
decreases-loop-i l = l.count - l.i
