-- THE PLAN OF CUTS, made from a body's boundaries, and what a call for it returns and leaves.
use Rattle.std.specs.Prelude.{ℕ, ◌+◌, true, false, List, [], ◌∷◌, ◌++◌, ltb, leb, length, replicate, if◌then◌else◌}
use Rattle.std.proofs.Math.Option.{Option, none, some}
use Rattle.definition.specs.Numbers.{too_little_cut_room}
use Rattle.definition.specs.Reading.{zeros, in_front}
use Rattle.definition_cuts.specs.Tokens.{with_first, boundaries}

-- Each cut is the last boundary within the limit. The piece began at `start`, and `last` was the boundary before
unfoldable pub plan_from : (limit start last : ℕ) → List ℕ → Option (List ℕ)
plan_from limit start last [] = some []
plan_from limit start last (m ∷ ms) =
    elim (leb m (start + limit)) [
      | true ↦ plan_from limit start m ms
      | false ↦ elim (leb m (last + limit)) [ true ↦ with_first last (plan_from limit last m ms) | false ↦ none ]
    ]

unfoldable pub plan : List ℕ → (limit : ℕ) → Option (List ℕ)
plan s limit = elim (boundaries s) [ none ↦ none | some ms ↦ plan_from limit 0 0 ms ]

-- What is told of a plan: its cuts; that there is none; or that the list is short, and how many cuts there are
pub data Planned : Type 0 where
  cuts_at : (cuts : List ℕ) → Planned
  nothing : Planned
  too_short : (needed : ℕ) → Planned

unfoldable pub roomed_plan : (room : ℕ) → Option (List ℕ) → Planned
roomed_plan room none = nothing
roomed_plan room (some cuts) = if ltb room (length cuts) then too_short (length cuts) else cuts_at cuts

-- the list afterwards
unfoldable pub plan_after : Planned → List ℕ → List ℕ
plan_after (cuts_at cuts) list = in_front cuts list
plan_after nothing list = zeros list
plan_after (too_short n) list = zeros list

-- WHAT A CALL RETURNS AND LEAVES
pub record PlanCall : Type 0 where
  pub result : Planned
  pub list : List ℕ

unfoldable pub plan_into : (s : List ℕ) (limit : ℕ) (list : List ℕ) → PlanCall
plan_into s limit list =
    let p = roomed_plan (length list) (plan s limit) in
    record { result = p; list = plan_after p list }

-- the numbers: 0, 1 and how many cuts; 0 and 0 if there is none; 74, and at 9 how many cuts
unfoldable pub plan_numbers : Planned → List ℕ
plan_numbers (cuts_at cuts) = 0 ∷ 1 ∷ length cuts ∷ []
plan_numbers nothing = 0 ∷ 0 ∷ []
plan_numbers (too_short n) = too_little_cut_room ∷ replicate 8 0 ++ (n ∷ [])
