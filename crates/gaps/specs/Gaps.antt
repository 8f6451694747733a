-- Where a cut goes on as from an earlier place, and what stands there.
use Rattle.std.specs.Prelude.{ℕ, ◌≤◌, ◌<◌, ◌≡◌, true, false, List, length}
use Rattle.definition.specs.Chars.{byte}
use Rattle.definition_scripts.specs.Opening.{is_sign}
use Rattle.definition_scripts.specs.Cut.{begins, cut_from}

-- a place from which the cut goes on as from an earlier one
pub record Skips (s : List ℕ) (at j : ℕ) : Type 0 where
  pub ahead : at ≤ j
  pub same : cut_from s at ≡ cut_from s j

-- such a place that is the end, a comment's or a literal's
pub record Reaches (s : List ℕ) (at j : ℕ) : Type 0 where
  pub skips : Skips s at j
  pub stands : j < length s → is_sign (byte s j) ≡ false → begins s j ≡ true
