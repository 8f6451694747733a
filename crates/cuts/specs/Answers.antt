-- What the pass over a token and the check answer.
use Rattle.std.specs.Prelude.{ℕ, ◌≤◌, ◌≡◌, Bool, List, length, drop, Some, None}
use Rattle.std.specs.Prelude.{Option as Given}
use Rattle.std.proofs.Math.Option.{Option, none, some}
use Rattle.cuts.specs.OnePass.{Cursor}
use Rattle.cuts.specs.declared.Passed.{Passed}

-- the cursor over the cuts after a token, from number `from` on
abbrev pub PassIs : Option Cursor → List ℕ → (from : ℕ) → Given Passed → Type 0
PassIs o cuts from None = o ≡ none
PassIs o cuts from (Some p) = (o ≡ some (record { left = drop p.next cuts; differs = p.differs })) × (from ≤ p.next) × (p.next ≤ length cuts)

abbrev pub VerdictIs : Option Bool → Given Bool → Type 0
VerdictIs o None = o ≡ none
VerdictIs o (Some d) = o ≡ some d
