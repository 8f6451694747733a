-- The well-formed prefix, as far as it was seen.
use Rattle.std.specs.Prelude.{ℕ, ◌+◌, ◌≤◌, ◌≡◌, List, length}
use Rattle.definition.specs.Chars.{formed_from}

-- the prefix is well-formed up to i, and goes on from there
pub record Formed (s : List ℕ) (i : ℕ) : Type 0 where
  pub fuel : ℕ
  pub enough : length s ≤ i + fuel
  pub within : i ≤ length s
  pub same : formed_from (length s) s 0 ≡ formed_from fuel s i
