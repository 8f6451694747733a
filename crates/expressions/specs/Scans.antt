-- The scan of an expression as the code keeps it: a quote or 0, and the open brackets in a stack of 64.
use Rattle.std.specs.Prelude.{ℕ, zero, suc, ◌≤◌, ◌≡◌, false, List, [], ◌∷◌, eqb, length, get_or, Option, MatchOption, if◌then◌else◌}
use Rattle.definition.specs.Matched.{Seen, clear, quoted}
use Rattle.definition_written.specs.ReadsBack.{few_open}
use Rattle.expressions.specs.declared.Scan.{Scan}

-- the open brackets, innermost first
unfoldable pub opens : (stack : List ℕ) → ℕ → List ℕ
opens stack zero = []
opens stack (suc d) = get_or stack d 0 ∷ opens stack d

unfoldable pub state_of : (stack : List ℕ) (quote depth : ℕ) → Seen
state_of stack q d = if eqb q 0 then clear (opens stack d) else quoted q (opens stack d)

-- what was seen is kept so; nothing says that it is not clean
pub record Keeps (x : Seen) (stack : List ℕ) (r : Option Scan) : Type 0 where
  pub is : MatchOption r (few_open x ≡ false) (λ k. (k.depth ≤ 64) × (x ≡ state_of stack k.quote k.depth))
  pub full : length stack ≡ 64
