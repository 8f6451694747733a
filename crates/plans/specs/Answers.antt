-- What the planner answers.
use Rattle.std.specs.Prelude.{ℕ, ◌≤◌, ◌<◌, ◌≡◌, true, false, List, length, Result, Some, None}
use Rattle.std.specs.Prelude.{Option as Given}
use Rattle.std.proofs.Math.Option.{Option, none, some}
use Rattle.definition.specs.Chars.{byte, ◌to◌, inside}
use Rattle.definition_cuts.specs.Plan.{PlanCall, plan_numbers}
use Rattle.buffers.specs.Over.{over}
use Rattle.answers.specs.declared.NoRoom.{NoRoom}
use Rattle.answers.specs.Twelve.{plan_says}

-- a planner's call: its numbers, and the list afterwards
abbrev pub PlannedIs : PlanCall → List ℕ → Result (Given ℕ) NoRoom → Type 0
PlannedIs call list' r = (plan_says r ≡ plan_numbers call.result) × (list' ≡ call.list)

-- the bytes after i and up to j are of 80 to BF, with which no character begins
abbrev pub Tails : List ℕ → ℕ → ℕ → Type 0
Tails s i j = (k : ℕ) → i < k → k ≤ j → inside (0x80 to 0xBF) (byte s k) ≡ true

-- the last place no later than j where a character may begin; i, if there is none after it
pub record StartIs (s : List ℕ) (i j r : ℕ) : Type 0 where
  pub on : i ≤ r
  pub within : r ≤ j
  pub tails : Tails s r j
  pub first : i < r → inside (0x80 to 0xBF) (byte s r) ≡ false

-- a plan, and the list before and after
abbrev pub PlanIs : Option (List ℕ) → List ℕ → List ℕ → Given ℕ → Type 0
PlanIs o list list' None = (o ≡ none) × (length list' ≡ length list)
PlanIs o list list' (Some n) = (cs : List ℕ) × (o ≡ some cs) × (n ≡ length cs) × (list' ≡ over list 0 cs)
