-- Digits read one at a time. Assumes nothing.
use mathlib.Core.Path.{◌≡◌, refl, sym, ◌∙◌, ap, subst}
use mathlib.Core.Bool.{true, false}
use mathlib.Core.Logic.{◌⊎◌, inl, inr}
use mathlib.Core.List.{List, [], ◌∷◌}
use Prim.Native.Nat.{ℕ, ◌+◌, ◌-◌, ◌*◌, ◌≤◌, ◌<◌, min}
use native.Mathlib.Omega.{arith}
use lib.ListN.{length, get_or, drop}
use lib.Dec.{eqb}
use borrow.Author.Tests.{eq-eqb, ne_eqb, eqb-true, le-leb, lt-leb}
use Rattle.definition.specs.Chars.{byte}
use Rattle.definition_replay.specs.Spec.{is_digit, front, behind}
use Rattle.definition_replay.specs.Integers.{decimal_from}
use Rattle.definition.proofs.Moves.CharLaws.{byte_is, cases}
use Rattle.definition_replay_laws.proofs.Spec.SpecSteps.{front_there, front_not, front_end}
use Rattle.definition_replay.specs.SpecNumbers.{told_of}
use Rattle.digits.specs.Told.{more_told, told_from, more_value, told_at}

module _ (value b : ℕ) where
  pub value_over : 0xFFFFFFFE < value * 10 + (b - 48) → 0xFFFFFFFE ≡ more_value value b
  unfolding more_value
  value_over h = omega arith

  pub value_next : value * 10 + (b - 48) ≤ 0xFFFFFFFE → value * 10 + (b - 48) ≡ more_value value b
  unfolding more_value
  value_next h = omega arith

module _ (value at next : ℕ) where
  pub told_none : next ≡ at → 0 ≡ told_at value at next
  unfolding told_at
  told_none e = rw (eq-eqb next at e)

  pub told_some : (next ≡ at → ⊥) → value + 1 ≡ told_at value at next
  unfolding told_at
  told_some n = rw (ne_eqb next at n)

step : (v d : ℕ) → more_told (min (v + 1) 0xFFFFFFFF) d ≡ min (v * 10 + (d - 48) + 1) 0xFFFFFFFF
unfolding more_told
step v d = omega arith

told_from_lem : (v : ℕ) (ds : List ℕ) → told_from (min (v + 1) 0xFFFFFFFF) ds ≡ min (decimal_from v ds + 1) 0xFFFFFFFF
unfolding told_from decimal_from
told_from_lem v [] = refl
told_from_lem v (d ∷ ds) = ap (λ t. told_from t ds) (step v d) ∙ told_from_lem (v * 10 + (d - 48)) ds

first_step : (d : ℕ) → more_told 0 d ≡ min (0 * 10 + (d - 48) + 1) 0xFFFFFFFF
unfolding more_told
first_step d = omega arith

pub told_is : (ds : List ℕ) → told_from 0 ds ≡ told_of ds
unfolding told_from told_of decimal_from
told_is [] = refl
told_is (d ∷ ds) = ap (λ t. told_from t ds) (first_step d) ∙ told_from_lem (0 * 10 + (d - 48)) ds

-- THE LOOP
pub record Reading (s : List ℕ) (at told i : ℕ) : Type 0 where
  pub number : told_from told (front is_digit (drop i s)) ≡ told_of (front is_digit (drop at s))
  pub ends : behind is_digit (drop i s) ≡ behind is_digit (drop at s)
  pub from : at ≤ i
  pub within : at ≤ length s → i ≤ length s

module _ (s : List ℕ) (at : ℕ) where
  reading_starts : Reading s at 0 at
  reading_starts = record { number = told_is (front is_digit (drop at s)); ends = refl; from = omega arith; within = λ h. h }

  module _ (told i : ℕ) (r : Reading s at told i) where
    abbrev Read : Type 0
    Read = (told ≡ told_of (front is_digit (drop at s))) × (drop i s ≡ behind is_digit (drop at s)) × (at ≤ i) × (at ≤ length s → i ≤ length s)

    none_from : front is_digit (drop i s) ≡ [] → behind is_digit (drop i s) ≡ drop i s → Read
    unfolding told_from
    none_from e b = (sym (ap (told_from told) e) ∙ r.number, sym b ∙ r.ends, r.from, r.within)

    digit_not_low : byte s i < 48 → is_digit (byte s i) ≡ false
    digit_not_low l = rw (lt-leb 48 (byte s i) l)

    digit_not_high : 57 < byte s i → is_digit (byte s i) ≡ false
    digit_not_high l = rw (lt-leb (byte s i) 57 l, le-leb 48 (byte s i) (omega arith))

    digit_is : 48 ≤ byte s i → byte s i ≤ 57 → is_digit (byte s i) ≡ true
    digit_is l h = rw (le-leb 48 (byte s i) l, le-leb (byte s i) 57 h)

    read_low : i < length s → get_or s i 0 < 48 → Read
    read_low h l = let e = front_not s i is_digit h (digit_not_low (rw (byte_is s i h) at l)) in none_from e.0 e.1

    read_high : i < length s → 57 < get_or s i 0 → Read
    read_high h l = let e = front_not s i is_digit h (digit_not_high (rw (byte_is s i h) at l)) in none_from e.0 e.1

    read_end : length s ≤ i → Read
    read_end h = let e = front_end s i is_digit h in none_from e.0 e.1

    read_more : {next : ℕ} → i < length s → 48 ≤ get_or s i 0 → get_or s i 0 ≤ 57 → next ≡ more_told told (get_or s i 0) → Reading s at next (i + 1)
    unfolding told_from
    read_more {next} h l k e =
        let b = byte_is s i h in
        let f = front_there s i is_digit h (digit_is (rw b at l) (rw b at k)) in
        let m = r.from in
        record {
          number = ap (λ t. told_from t (front is_digit (drop (i + 1) s))) (e ∙ ap (more_told told) b) ∙ sym (ap (told_from told) f.0) ∙ r.number;
          ends = sym f.1 ∙ r.ends;
          from = omega arith;
          within = λ g. omega arith;
        }

-- by the value of the digits so far
pub record Valued (s : List ℕ) (at value i : ℕ) : Type 0 where
  pub reading : Reading s at (told_at value at i) i
  pub none : i ≡ at → value ≡ 0
  pub small : value ≤ 0xFFFFFFFE

module _ (s : List ℕ) (at : ℕ) where
  pub valued_starts : Valued s at 0 at
  valued_starts = record { reading = subst (λ t. Reading s at t at) (told_none 0 at at refl) (reading_starts s at); none = λ e. refl; small = omega arith }

  module _ (value i : ℕ) (v : Valued s at value i) {told next : ℕ} (e : (told ≡ told_at value at i) × (next ≡ i)) where
    abbrev Number : Type 0
    Number = (told ≡ told_of (front is_digit (drop at s))) × (drop next s ≡ behind is_digit (drop at s)) × (at ≤ next) × (at ≤ length s → next ≤ length s)

    told_so : (told_at value at i ≡ told_of (front is_digit (drop at s))) × (drop i s ≡ behind is_digit (drop at s)) × (at ≤ i) × (at ≤ length s → i ≤ length s) → Number
    told_so r = let f = e.1 in (e.0 ∙ r.0, ap (λ n. drop n s) e.1 ∙ r.1, (let a = r.2 in omega arith), (λ h. let a = r.3 h in omega arith))

    pub valued_low : i < length s → get_or s i 0 < 48 → Number
    valued_low h l = told_so (read_low s at (told_at value at i) i v.reading h l)

    pub valued_high : i < length s → 57 < get_or s i 0 → Number
    valued_high h l = told_so (read_high s at (told_at value at i) i v.reading h l)

    pub valued_not : i < length s → (get_or s i 0 < 48) ⊎ (57 < get_or s i 0) → Number
    valued_not h n = elim n [ inl l ↦ valued_low h l | inr l ↦ valued_high h l ]

    pub valued_end : length s ≤ i → Number
    valued_end h = told_so (read_end s at (told_at value at i) i v.reading h)

  module _ (value i : ℕ) (v : Valued s at value i) {next : ℕ} (e : next ≡ more_value value (get_or s i 0)) where
    told_more : told_at next at (i + 1) ≡ more_told (told_at value at i) (get_or s i 0)
    unfolding more_told told_at more_value
    told_more =
        let f = v.reading.from in
        rw (ne_eqb (i + 1) at (λ q. omega arith))
        (cases (eqb i at) (λ b. let z = v.none (eqb-true i at b) in rw b (omega arith)) (λ b. let m = v.small in rw b (omega arith)))

    pub valued_more : i < length s → 48 ≤ get_or s i 0 → get_or s i 0 ≤ 57 → Valued s at next (i + 1)
    unfolding more_value
    valued_more h l k =
        let f = v.reading.from in
        record { reading = read_more s at (told_at value at i) i v.reading h l k told_more; none = λ q. absurd (omega arith); small = omega arith }
