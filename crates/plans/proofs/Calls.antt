-- Which plan there is, and what a call of the planner gives. Assumes nothing.
use Rattle.std.specs.Prelude.{if◌then◌else◌, Ok, Err, Some, None}
use mathlib.Core.Path.{◌≡◌, refl, sym, ap, ◌∙◌}
use mathlib.Core.Bool.{Bool, true, false, ◌||◌}
use mathlib.Core.List.{List, [], ◌∷◌}
use mathlib.Core.Option.{none, some}
use Prim.Native.Nat.{ℕ, suc, ◌≤◌, ◌<◌}
use native.Mathlib.Omega.{arith}
use borrow.Author.Tests.{lt-ltb, le-ltb, leb-true, leb-false}
use lib.Dec.{ltb, leb}
use lib.ListN.{length, replicate}
use Rattle.definition.specs.Chars.{well_formed}
use Rattle.definition.specs.Reading.{zeros}
use Rattle.definition_cuts.specs.Plan.{plan, roomed_plan, plan_after, plan_into, plan_numbers}
use Rattle.plans.specs.OnePass.{plan_loop, planned, plan_at}
use Rattle.definition_cuts_laws.proofs.Cuts.BoundaryLaw.{plan_room}
use Rattle.plans.proofs.OnePassLaw.{planned_is}
use Rattle.buffers.proofs.Over.{over_front, length_over}
use Rattle.plans.specs.Answers.{PlanIs, PlannedIs}

-- THE PLAN
module _ (s : List ℕ) (limit : ℕ) where
  pub plan_long : 1048576 < length s → plan s limit ≡ none
  unfolding planned
  plan_long h = sym (planned_is s limit) ∙ rw (lt-ltb 1048576 (length s) h, planned) refl

  pub plan_ill : false ≡ leb (length s) (well_formed s) → plan s limit ≡ none
  unfolding planned
  plan_ill f = sym (planned_is s limit) ∙ rw (lt-ltb (well_formed s) (length s) (leb-false (length s) (well_formed s) (sym f)), planned) (or (ltb 1048576 (length s)))
    where
      or : (b : Bool) → (if (b || true) then none else plan_loop (suc (length s)) s limit 0 0) ≡ none
      or true = refl
      or false = refl

  pub plan_formed : length s ≤ 1048576 → true ≡ leb (length s) (well_formed s) → plan s limit ≡ plan_at s limit 0 0
  unfolding planned
  plan_formed l f = sym (planned_is s limit) ∙ rw (le-ltb 1048576 (length s) l, le-ltb (well_formed s) (length s) (leb-true (length s) (well_formed s) (sym f)), planned) refl

-- A PLANNER'S CALL
module _ (s : List ℕ) (limit : ℕ) (list : List ℕ) where
  pub no_plan : plan s limit ≡ none → (list' : List ℕ) → list' ≡ zeros list → PlannedIs (plan_into s limit list) list' (Ok None)
  unfolding plan_into roomed_plan plan_after plan_numbers
  no_plan e list' w = rw (e, plan_into, roomed_plan, plan_after) (refl, w)

  module _ (l : length s ≤ 1048576) (f : true ≡ leb (length s) (well_formed s)) (list' : List ℕ) where
    pub none_made : PlanIs (plan_at s limit 0 0) list list' None → (list'' : List ℕ) → list'' ≡ zeros list' → PlannedIs (plan_into s limit list) list'' (Ok None)
    none_made h list'' w = no_plan (plan_formed s limit l f ∙ h.0) list'' (w ∙ ap (λ n. replicate n 0) h.1)

    module _ (n : ℕ) (h : PlanIs (plan_at s limit 0 0) list list' (Some n)) where
      made_is : plan s limit ≡ some h.0
      made_is = plan_formed s limit l f ∙ h.1

      -- it has fewer cuts than bytes
      pub few_cuts : n ≤ 1048576
      few_cuts = let r = plan_room s limit h.0 made_is in omega (arith, r, h.2)

      same : length list' ≡ length list
      same = ap length h.3 ∙ length_over list 0 h.0

      pub short_made : length list' < n → (list'' : List ℕ) → list'' ≡ zeros list' → PlannedIs (plan_into s limit list) list'' (Err (record { needed = n }))
      unfolding plan_into roomed_plan plan_after plan_numbers
      short_made k list'' w =
          let g : length list < length h.0 = omega (arith, same, h.2) in
          rw (made_is, plan_into, roomed_plan, lt-ltb (length list) (length h.0) g, plan_after) (ap (λ m. 74 ∷ 0 ∷ 0 ∷ 0 ∷ 0 ∷ 0 ∷ 0 ∷ 0 ∷ 0 ∷ m ∷ []) h.2, w ∙ ap (λ n. replicate n 0) same)

      pub cuts_made : n ≤ length list' → PlannedIs (plan_into s limit list) list' (Ok (Some n))
      unfolding plan_into roomed_plan plan_after plan_numbers
      cuts_made k =
          let g : length h.0 ≤ length list = omega (arith, same, h.2) in
          rw (made_is, plan_into, roomed_plan, le-ltb (length list) (length h.0) g, plan_after) (ap (λ m. 0 ∷ 1 ∷ m ∷ []) h.2, h.3 ∙ over_front list h.0 g)
