-- The checks one after the other. Assumes nothing.
use mathlib.Core.Path.{◌≡◌, refl, sym, ◌∙◌}
use mathlib.Core.List.{List, [], ◌∷◌}
use mathlib.Core.Option.{Option, none, some}
use Prim.Native.Nat.{ℕ, ◌*◌, ◌%◌, ◌≤◌, ◌<◌}
use native.Mathlib.Omega.{arith}
use borrow.Author.Tests.{lt-ltb, le-ltb, ltb-false}
use lib.Dec.{ltb}
use lib.ListN.{length}
use Rattle.definition.specs.Numbers.{empty_list, not_sixes, too_many_literals}
use Rattle.definition.specs.Entry.{Refusal, refusal, not_empty, not_many, first_of, entry}
use Rattle.definition.specs.Reading.{Outcome, accepts, refuses, all_chars, outcome_of, room_for}
use Rattle.definition.proofs.Moves.CharLaws.{cases}
use Rattle.entry.specs.Answers.{later_checks, check_numbers}
use Rattle.entry.specs.Literals.{literals}
use Rattle.entry.proofs.Literals.{first_is, length_literals, sixes_some, sixes_none}

-- nothing is left to show
pub clash : {P : Type 0} → ◌≡◌ {A = ℕ} 0 1 → P
clash e = absurd (omega arith)

-- what a check gave, by what it says
pub passes : (n k : ℕ) (c : Option Refusal) → accepts k ≡ outcome_of n c → c ≡ none
unfolding outcome_of
passes n k none e = refl
passes n k (some r) e = cc

pub passes_all : (n k : ℕ) (c : Option Refusal) → accepts k ≡ outcome_of n c → k ≡ n
unfolding outcome_of
passes_all n k none e = cc
passes_all n k (some r) e = cc

pub refused : (n : ℕ) (r : Refusal) (c : Option Refusal) → refuses r ≡ outcome_of n c → c ≡ some r
unfolding outcome_of
refused n r none e = cc
refused n r (some x) e = cc

-- the checks in turn: one that refuses, one that passes, the last one
module _ (n : ℕ) (c : Option Refusal) (cs : List (Option Refusal)) where
  pub stops_here : (m : ℕ) (r : Refusal) (o : Outcome ℕ) → o ≡ refuses r → o ≡ outcome_of m c → o ≡ outcome_of n (first_of (c ∷ cs))
  unfolding first_of outcome_of
  stops_here m r o e h = let s = refused m r c (sym e ∙ h) in rw s e

  pub goes_on : (m k : ℕ) (o p : Outcome ℕ) → o ≡ accepts k → o ≡ outcome_of m c → p ≡ outcome_of n (first_of cs) → p ≡ outcome_of n (first_of (c ∷ cs))
  unfolding first_of
  goes_on m k o p e h g = rw (passes m k c (sym e ∙ h)) g

pub none_stops : (n : ℕ) → accepts n ≡ outcome_of n (first_of [])
unfolding first_of outcome_of
none_stops n = refl

-- flat numbers: 2; then by the literals' indexes, 1, 3 and the later checks
pub checked_not_sixes : (script ns : List ℕ) → (length ns % 6 ≡ 0 → ⊥) → check_numbers script ns ≡ refuses (refusal not_sixes 0 0 0 0)
unfolding check_numbers
checked_not_sixes script ns h = rw (sixes_none ns h, check_numbers)

module _ (script ns : List ℕ) (n : ℕ) (six : length ns ≡ n * 6) where
  pub checked : check_numbers script ns ≡ outcome_of (all_chars script (literals ns 0 n)) (entry script (literals ns 0 n))
  unfolding check_numbers
  checked = rw (sixes_some ns n six, check_numbers)

  pub checked_none : n ≡ 0 → check_numbers script ns ≡ refuses (refusal empty_list 0 0 0 0)
  unfolding entry not_empty first_of outcome_of literals
  checked_none e = rw (checked, e)

  not_empty_lem : 0 < n → not_empty (literals ns 0 n) ≡ none
  unfolding not_empty
  not_empty_lem h = rw (first_is ns n h)

  pub checked_many : 1024 < n → check_numbers script ns ≡ refuses (refusal too_many_literals 0 0 0 0)
  unfolding entry not_many first_of outcome_of
  checked_many h = rw (checked, not_empty_lem (omega arith), length_literals ns 0 n, lt-ltb 1024 n h)

  pub checked_few : 0 < n → n ≤ 1024 → check_numbers script ns ≡ outcome_of (all_chars script (literals ns 0 n)) (later_checks script (literals ns 0 n))
  unfolding entry not_many first_of later_checks
  checked_few h few = rw (checked, not_empty_lem h, length_literals ns 0 n, le-ltb 1024 n few)

-- no refusal for want of room: all that is needed is there
pub room_enough : (places bytes records used chars : ℕ) → room_for places bytes records used chars ≡ none → (records ≤ places) × (used ≤ bytes)
unfolding room_for
room_enough places bytes records used chars e =
    cases (ltb places records) (λ t. clash (let z = rw t at e in cc))
    (λ t. cases (ltb bytes used) (λ u. clash (let z = rw (t, u) at e in cc)) (λ u. (ltb-false _ _ t, ltb-false _ _ u)))
