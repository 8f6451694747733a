-- WHAT A CALL LEAVES IN A LENT BUFFER, whatever it writes.
use Rattle.std.specs.Prelude.{ℕ, ◌≤◌, ◌<◌, ◌≡◌, List, length, get_or, drop}

-- by the first number that it returned, 0 for an acceptance, and how many numbers it then wrote
pub record Left (number written : ℕ) (before after : List ℕ) : Type 0 where
  pub kept : length after ≡ length before
  pub zeroed : 1 ≤ number → (i : ℕ) → i < length before → get_or after i 1 ≡ 0
  pub fitting : number ≡ 0 → written ≤ length before
  pub behind : number ≡ 0 → drop written after ≡ drop written before
