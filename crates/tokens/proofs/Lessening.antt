-- What is left to do lessens: bytes, cuts or the bytes from a piece's start on, and whether a run is to be found. Assumes nothing.
use mathlib.Core.Path.{◌≡◌}
use Prim.Native.Nat.{ℕ, ◌+◌, ◌-◌, ◌*◌, ◌≤◌, ◌<◌}
use native.Mathlib.Omega.{arith}

fewer : (a a' b b' : ℕ) → a' < a → 2 * a' + (1 - b') < 2 * a + (1 - b)
fewer a a' b b' h = omega arith

both_less : (a a' b b' : ℕ) → a' < a → b' ≤ b → a' + b' < a + b
both_less a a' b b' h k = omega arith

either_less : (a a' b b' : ℕ) → a' ≤ a → b' < b → a' + b' < a + b
either_less a a' b b' h k = omega arith

-- at i of n, at k of m, with a run up to p
module _ (n m i k p : ℕ) where
  -- past a token or a run
  pub token_less : (j k' : ℕ) → i < j → j ≤ n → k ≤ k' → 2 * (n - j + (m - k')) + (1 - (p - j)) < 2 * (n - i + (m - k)) + (1 - (p - i))
  token_less j k' h l e =
      let x : n - j < n - i = omega arith in
      let y : m - k' ≤ m - k = omega arith in
      fewer (n - i + (m - k)) (n - j + (m - k')) (p - i) (p - j) (both_less (n - i) (n - j) (m - k) (m - k') x y)

  -- to a cut in a run
  pub cut_less : (c k' : ℕ) → i ≤ c → k < k' → k < m → 2 * (n - c + (m - k')) + (1 - (p - c)) < 2 * (n - i + (m - k)) + (1 - (p - i))
  cut_less c k' h l e =
      let x : n - c ≤ n - i = omega arith in
      let y : m - k' < m - k = omega arith in
      fewer (n - i + (m - k)) (n - c + (m - k')) (p - i) (p - c) (either_less (n - i) (n - c) (m - k) (m - k') x y)

  -- a run is found
  pub found_less : (r : ℕ) → p ≤ i → i < r → 2 * (n - i + (m - k)) + (1 - (r - i)) < 2 * (n - i + (m - k)) + (1 - (p - i))
  found_less r h l = let a : p - i ≡ 0 = omega arith in let b : 1 - (r - i) ≡ 0 = omega arith in rw (a, b) (omega arith)
