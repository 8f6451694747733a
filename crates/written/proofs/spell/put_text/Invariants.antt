use Prim.Native.Nat.{◌-◌, ◌≤◌}
use lib.ListN.{length, take}
use Rattle.definition_written.specs.Written.{spelled_text}
use Rattle.opens.specs.Opens.{where_of}
use Rattle.written.specs.Puts.{Puts}
use Rattle.written.proofs.spell.put_text.Given as goal

-- the first i bytes are written
abbrev pub invariant-loop-i : goal.invariant-loop-i
invariant-loop-i l = Puts l.initial.body l.used (spelled_text (where_of l.depth l.late) (take l.i l.text)) l.body l.u × (l.i ≤ length l.text)

abbrev pub decreases-loop-i : goal.decreases-loop-i
decreases-loop-i l = length l.text - l.i
