use Prim.Native.Nat.{◌+◌, ◌-◌, ◌≤◌, ◌<◌}
use mathlib.Core.Path.{◌≡◌}
use lib.ListN.{length}
use Rattle.definition.specs.Chars.{follow}
use Rattle.utf8.specs.Classes.{ranges}
use Rattle.utf8.proofs.follows.Given as goal

-- what is left to stand there
abbrev pub invariant-loop-k : goal.invariant-loop-k
invariant-loop-k l = (l.most < 256) × (0 < l.k → l.from + l.k ≤ length l.s) × (l.k ≤ l.more) × (follow (ranges l.more l.low l.high) l.s l.from ≡ follow (ranges (l.more - l.k) l.least l.most) l.s (l.from + l.k))
