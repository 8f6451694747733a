use Prim.Native.Nat.{ℕ, ◌-◌, ◌^◌, ◌≤◌, ◌<◌}
use mathlib.Core.Path.{◌≡◌}
use Rattle.definition.specs.Escapes.{hex_from}
use Rattle.texts.proofs.hex_code.Given as goal

abbrev pub invariant-loop-i : goal.invariant-loop-i
invariant-loop-i l = (l.from ≤ l.i) × (l.i ≤ l.to) × (l.p < 16 ^ (l.i - l.from)) × ((letter : ℕ) → hex_from l.digits 0 l.s l.from letter ≡ hex_from (l.to - l.i) l.p l.s l.i letter)
