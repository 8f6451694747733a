use native.Mathlib.Omega.{arith}
use mathlib.Core.Path.{◌≡◌}
use Prim.Native.Nat.{ℕ, ◌+◌, ◌*◌, ◌/◌, ◌%◌}
use Rattle.brackets.specs.Brackets.{unpacked}
use Rattle.brackets.proofs.packed.Goals as goal

apart : (taken c : ℕ) → unpacked (taken % 16777216 * 256 + c % 256) ≡ record { bracket = c % 256; taken = taken % 16777216 }
apart taken c =
    let e : (taken % 16777216 * 256 + c % 256) % 256 ≡ c % 256 = omega arith in
    let f : (taken % 16777216 * 256 + c % 256) / 256 ≡ taken % 16777216 = omega arith in
    λ i. record { bracket = e i; taken = f i }

pub returns : goal.returns
returns c = apart _ _
