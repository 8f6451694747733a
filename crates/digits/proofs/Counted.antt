-- Figures counted in base ten. Assumes nothing.
use mathlib.Core.Path.{◌≡◌, sym, ap}
use Prim.Native.Nat.{ℕ, zero, suc, ◌/◌, ◌%◌, ◌^◌, ◌≤◌, ◌<◌}
use native.Mathlib.Nat.{mod-add-div, mod-lt}
use native.Mathlib.Omega.{arith}
use lib.ListN.{length}
use Rattle.definition_replay.specs.Integers.{digits}
use Rattle.definition_replay_laws.proofs.Integers.IntegerSteps.{digits_last, digits_more}

-- between two powers
ten_some : (k : ℕ) → 1 ≤ 10 ^ k
ten_some zero = omega arith
ten_some (suc k) = let h = ten_some k in omega arith

pub ten_figures : (k n : ℕ) → 10 ^ k ≤ n → n < 10 ^ suc k → suc k ≡ length (digits 10 n)
ten_figures zero n l h = let e = ap length (digits_last 10 (omega arith) n (omega arith)) in omega arith
ten_figures (suc k) n l h =
    let p = ten_some k in
    let e = ap length (digits_more 10 (omega arith) n (omega arith)) in
    let d = mod-add-div n 10 in
    let m : n % 10 < 10 = mod-lt n (omega arith) in
    let ih = ten_figures k (n / 10) (omega arith) (omega arith) in
    omega arith

pub ten_one : (n : ℕ) → n < 10 → 1 ≡ length (digits 10 n)
ten_one n h = sym (ap length (digits_last 10 (omega arith) n h))
