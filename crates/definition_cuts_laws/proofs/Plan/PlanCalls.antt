-- WHAT A CALL FOR A PLAN TELLS AND LEAVES: the promise's list, that no list passes, or how long it would be. Assumes nothing.
use Rattle.std.specs.Prelude.{if◌then◌else◌}
use mathlib.Core.Path.{◌≡◌, refl}
use mathlib.Core.Bool.{Bool, true, false, false≢true}
use mathlib.Core.List.{List}
use mathlib.Core.Option.{Option, none, some}
use Prim.Native.Nat.{ℕ, ◌-◌, ◌≤◌, ◌<◌}
use native.Mathlib.Omega.{arith}
use borrow.Author.Tests.{ltb-true, ltb-false, le-ltb}
use lib.Dec.{ltb}
use lib.ListN.{length}
use Rattle.definition.specs.Words.{word}
use Rattle.definition.specs.Left.{Left}
use Rattle.definition_laws.proofs.Outcomes.Leaving.{left_zeros, left_front}
use Rattle.definition_cuts.specs.Cuts.{Passes}
use Rattle.definition_cuts_laws.specs.IsPlan.{IsPlan, Promised}
use Rattle.definition_cuts.specs.Plan.{plan, Planned, cuts_at, nothing, too_short, roomed_plan, plan_after, plan_into, plan_numbers}
use Rattle.definition_cuts_laws.proofs.Cuts.BoundaryLaw.{plan_room}
use Rattle.definition_cuts_laws.proofs.Plan.PlanLaw.{plan_promised}

-- what is told of a plan in a list of so many numbers
abbrev pub Told : (s : List ℕ) (limit room : ℕ) → Planned → Type 0
Told s limit room (cuts_at cuts) = IsPlan s limit cuts × (length cuts ≤ room)
Told s limit room nothing = (cuts : List ℕ) → Passes s limit cuts → ⊥
Told s limit room (too_short n) = (cuts : List ℕ) × IsPlan s limit cuts × (length cuts ≡ n) × (room < n)

roomed_told : (s : List ℕ) (limit room : ℕ) (o : Option (List ℕ)) → Promised s limit o → Told s limit room (roomed_plan room o)
unfolding roomed_plan Promised
roomed_told s limit room none h = h
roomed_told s limit room (some cuts) h = go (ltb room (length cuts)) refl
  where
    go : (t : Bool) → ltb room (length cuts) ≡ t → Told s limit room (if t then too_short (length cuts) else cuts_at cuts)
    go true e = (cuts, h, refl, ltb-true room (length cuts) e)
    go false e = (h, ltb-false room (length cuts) e)

pub plan_told : (s : List ℕ) (limit : ℕ) (list : List ℕ) → Told s limit (length list) (plan_into s limit list).result
unfolding plan_into
plan_told s limit list = roomed_told s limit (length list) (plan s limit) (plan_promised s limit)

-- THE LIST AFTERWARDS: the second number is 1 exactly if cuts were written, and then the third says how many
pub plan_left : (s : List ℕ) (limit : ℕ) (list : List ℕ) → let c = plan_into s limit list in let ns = plan_numbers c.result in Left (1 - word ns 1) (word ns 2) list c.list
unfolding plan_into plan_numbers plan_after
plan_left s limit list = go (roomed_plan (length list) (plan s limit)) (plan_told s limit list)
  where
    go : (p : Planned) → Told s limit (length list) p → Left (1 - word (plan_numbers p) 1) (word (plan_numbers p) 2) list (plan_after p list)
    go (cuts_at cuts) h = left_front (length cuts) cuts list refl h.1
    go nothing h = left_zeros 1 0 list (omega arith)
    go (too_short n) h = left_zeros 1 0 list (omega arith)

-- a list as long as the body is room enough
pub room_enough : (s : List ℕ) (limit : ℕ) (list : List ℕ) → length s ≤ length list → (n : ℕ) → (plan_into s limit list).result ≡ too_short n → ⊥
unfolding plan_into roomed_plan
room_enough s limit list h n = go (plan s limit) refl
  where
    go : (o : Option (List ℕ)) → plan s limit ≡ o → roomed_plan (length list) o ≡ too_short n → ⊥
    go none e q = false≢true cc
    go (some cuts) e q = let k = plan_room s limit cuts e in let t = le-ltb (length list) (length cuts) (omega (arith, k)) in let q' = rw t at q in false≢true cc
