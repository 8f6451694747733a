use Prim.Native.Nat.{◌≤◌, max}
use lib.ListN.{length}
use Rattle.digits.proofs.Digits.{Valued}
use Rattle.digits.proofs.read_digits.Given as goal

abbrev pub invariant-loop-i : goal.invariant-loop-i
invariant-loop-i l = record { valued : Valued l.s l.at l.value l.i; within : l.i ≤ max l.at (length l.s) }
