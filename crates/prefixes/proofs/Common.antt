-- The lengths of characters of two rows of table 3-7. Assumes nothing.
use mathlib.Core.Path.{◌≡◌}
use mathlib.Core.Bool.{true}
use mathlib.Core.List.{List}
use Prim.Native.Nat.{ℕ, ◌+◌}
use native.Mathlib.Omega.{arith}
use Rattle.definition.specs.Chars.{byte, ◌to◌, inside, table37, following, follow, width}
use Rattle.definition.proofs.Moves.CharLaws.{inside_true, inside_not}

module _ (s : List ℕ) (i : ℕ) where
  pub two_bytes : inside (0xC2 to 0xDF) (byte s i) ≡ true → inside (0x80 to 0xBF) (byte s (i + 1)) ≡ true → width s i ≡ 2
  unfolding width following follow table37
  two_bytes p q =
      let h = inside_true 0xC2 0xDF (byte s i) p in
      rw (inside_not 0 0x7F (byte s i) (λ a b. omega arith), p, q, width, following)

  pub three_bytes : inside (0xE1 to 0xEC) (byte s i) ≡ true → inside (0x80 to 0xBF) (byte s (i + 1)) ≡ true → inside (0x80 to 0xBF) (byte s (i + 1 + 1)) ≡ true → width s i ≡ 3
  unfolding width following follow table37
  three_bytes p q r =
      let h = inside_true 0xE1 0xEC (byte s i) p in
      rw (inside_not 0 0x7F (byte s i) (λ a b. omega arith), inside_not 0xC2 0xDF (byte s i) (λ a b. omega arith), inside_not 0xE0 0xE0 (byte s i) (λ a b. omega arith), p, q, r, width, following)
