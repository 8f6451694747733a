use Prim.Native.Nat.{◌-◌, ◌^◌, ◌<◌}
use Rattle.digits.proofs.Digits.{Valued}
use Rattle.traces.proofs.read_short.Given as goal

abbrev pub invariant-loop-i : goal.invariant-loop-i
invariant-loop-i l = record { valued : Valued l.s l.at l.value l.i; few : l.value < 10 ^ (l.i - l.at) }
