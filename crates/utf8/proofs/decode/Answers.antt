use native.Mathlib.Omega.{arith}
use Prim.Native.Nat.{ℕ, suc, ◌-◌}
use mathlib.Core.Path.{◌≡◌}
use Rattle.definition.specs.Chars.{decoded}
use Rattle.utf8.proofs.decode.Goals as goal

four : (n : ℕ) → (((Unit {0} × (n ≡ 0 → ⊥)) × (n ≡ 1 → ⊥)) × (n ≡ 2 → ⊥)) × (n ≡ 3 → ⊥) → n ≡ suc (suc (suc (suc (n - 4))))
four n h = omega arith

pub returns-in-0 : goal.returns-in-0
unfolding decoded
returns-in-0 c = rw c.in-0.is

pub returns-in-1 : goal.returns-in-1
unfolding decoded
returns-in-1 c = rw c.in-1.is c.byte_at-b.ensures

pub returns-in-2 : goal.returns-in-2
unfolding decoded
returns-in-2 c = rw (c.in-2.is, c.byte_at-b.ensures, c.byte_at.ensures)

pub returns-in-3 : goal.returns-in-3
unfolding decoded
returns-in-3 c = rw (c.in-3.is, c.byte_at-b.ensures, c.byte_at-in-3.ensures, c.byte_at-in-3-2.ensures)

pub returns-in_default : goal.returns-in_default
unfolding decoded
returns-in_default c = rw (four _ c.in_default.in_default-own.rest, c.byte_at-b.ensures, c.byte_at-in_default.ensures, c.byte_at-in_default-2.ensures, c.byte_at-in_default-3.ensures)
