-- A column of nine digits at most. Assumes nothing.
use mathlib.Core.Path.{◌≡◌, refl, sym, ◌∙◌, ap}
use mathlib.Core.Bool.{Bool, true, false, ◌&&◌, not}
use mathlib.Core.List.{List}
use Prim.Native.Nat.{ℕ, zero, suc, ◌+◌, ◌-◌, ◌*◌, ◌^◌, ◌≤◌, ◌<◌}
use native.Mathlib.Omega.{arith}
use lib.Dec.{eqb, leb, ltb}
use lib.ListN.{length, get_or, drop}
use borrow.Author.Tests.{eqb-true, eqb-false, le-leb, leb-true, leb-false, ltb-true, ltb-false}
use Rattle.definition_replay.specs.Spec.{is_digit, front, behind}
use Rattle.definition_replay.specs.SpecNumbers.{told_of}
use Rattle.definition_replay.specs.Replay.{in_range}
use Rattle.definition_replay.specs.Trace.{behind_column}
use Rattle.definition.proofs.Moves.CharLaws.{cases}
use Rattle.digits.specs.Told.{more_value}
use Rattle.digits.proofs.Digits.{Valued, told_some, valued_low, valued_high, valued_end}
use Rattle.traces.specs.declared.Ends.{Ends}
use Rattle.traces.specs.declared.Ends.TheVariants.{Nothing, Comma, Row}
use Rattle.traces.specs.Cells.{Skips, wrong, ended_with, cell_of, fit_cell, integer, ended_by, says_cell}
use Rattle.traces.proofs.Reading.{is_quote, skip_not, column_bare, behind_other}
use Rattle.traces.proofs.Scanning.{fit_clip, fit_ended}

-- THE VALUE of so many digits is below their power of ten
ten_grows : (m k : ℕ) → k ≤ m → 10 ^ k ≤ 10 ^ m
ten_grows zero k h = let e : k ≡ 0 = omega arith in rw e (omega arith)
ten_grows (suc m) k h =
    cases (eqb k (suc m)) (λ e. rw (eqb-true k (suc m) e) (omega arith)) (λ e. let n = eqb-false k (suc m) e in let ih = ten_grows m k (omega arith) in omega arith)

module _ (at i value : ℕ) (h : value < 10 ^ (i - at)) where
  pub short_room : i < at + 9 → value < 100000000
  short_room l = let g = ten_grows 8 (i - at) (omega arith) in omega arith

  pub short_most : i ≤ at + 9 → value < 1000000000
  short_most l = let g = ten_grows 9 (i - at) (omega arith) in omega arith

  pub short_more : (d : ℕ) → at ≤ i → d ≤ 9 → value * 10 + d < 10 ^ (i + 1 - at)
  short_more d f k = let e : i + 1 - at ≡ suc (i - at) = omega arith in rw e (omega arith)

pub short_starts : (at : ℕ) → 0 < 10 ^ (at - at)
short_starts at = let e : at - at ≡ 0 = omega arith in rw e (omega arith)

pub value_more : (value b : ℕ) → value < 100000000 → b - 48 ≤ 9 → value * 10 + (b - 48) ≡ more_value value b
unfolding more_value
value_more value b h k = omega arith

-- WHERE A COLUMN ENDS there is no digit
says_not : (s : List ℕ) (e : Ends) (negative : Bool) (size next : ℕ) → says_cell s e negative size next ≡ wrong → (e ≡ Nothing → ⊥) → ⊥
unfolding ended_with
says_not s Nothing negative size next q n = n refl
says_not s Comma negative size next q n = cc
says_not s Row negative size next q n = cc

module _ (s : List ℕ) (at value i : ℕ) (v : Valued s at value i) (h : i ≤ length s) (e : Ends) (negative : Bool) (size to : ℕ) (minus : Bool)
    (x : says_cell s e negative size to ≡ ended_by minus value (behind_column (drop i s))) (n : e ≡ Nothing → ⊥) (m : i ≡ at → ⊥)
  where
    no_digit : i < length s → 48 ≤ get_or s i 0 → get_or s i 0 ≤ 57 → ⊥
    unfolding ended_with
    no_digit l a b = says_not s e negative size to (x ∙ ap (ended_by minus value) (sym (behind_other s i l (λ q. omega arith) (λ q. omega arith)))) n

    abbrev Number : Type 0
    Number = (value + 1 ≡ told_of (front is_digit (drop at s))) × (drop i s ≡ behind is_digit (drop at s)) × (at ≤ i) × (at ≤ length s → i ≤ length s)

    pub short_number : Number
    short_number =
        let t = told_some value at i m in
        cases (leb (length s) i)
        (λ a. valued_end s at value i v (t, refl) (leb-true (length s) i a))
        (λ a. let l = leb-false (length s) i a in
        cases (ltb (get_or s i 0) 48)
        (λ b. valued_low s at value i v (t, refl) l (ltb-true (get_or s i 0) 48 b))
        (λ b. let lo = ltb-false (get_or s i 0) 48 b in
        cases (ltb 57 (get_or s i 0)) (λ c. valued_high s at value i v (t, refl) l (ltb-true 57 (get_or s i 0) c)) (λ c. absurd (no_digit l lo (ltb-false 57 (get_or s i 0) c)))))

range_small : (negative : Bool) (size : ℕ) → size < 1000000000 → in_range (integer negative size) ≡ true
unfolding in_range
range_small true size h = le-leb size 0x80000000 (omega arith)
range_small false size h = le-leb size 0x7FFFFFFF (omega arith)

-- THE COLUMN
abbrev Column : (s : List ℕ) (at : ℕ) → Ends → (negative : Bool) (size next : ℕ) → Type 0
Column s at e negative size next = (says_cell s e negative size next ≡ fit_cell (cell_of (drop at s))) × ((e ≡ Nothing → ⊥) → at < next) × (next ≤ length s)

pub column_short : (s : List ℕ) (at : ℕ) {start : ℕ} (value next : ℕ) → at < length s → (get_or s at 0 ≡ 34 → ⊥)
    → Skips "-" s at start
    → Valued s start value next → value < 1000000000 → next ≤ length s → (next ≡ start → ⊥)
    → (negative : Bool) (size : ℕ) {e : Ends} {to : ℕ} → (says_cell s e negative size to ≡ ended_by (not (eqb start at) && not (eqb value 0)) value (behind_column (drop next s))) × (next ≤ to) × (to ≤ length s)
    → (e ≡ Nothing → ⊥) → Column s at e negative size to
column_short s at {start} value next h b m v small l n negative size {e} {to} x z =
    let k : value + 1 - 1 ≡ value = omega arith in
    let y : says_cell s e negative size to ≡ ended_by (not (eqb start at) && not (eqb (value + 1 - 1) 0)) (value + 1 - 1) (behind_column (drop next s))
    = x.0 ∙ (λ i. ended_by (not (eqb start at) && not (eqb (sym k i) 0)) (sym k i) (behind_column (drop next s))) in
    let d = short_number s start value next v l e negative size to (not (eqb start at) && not (eqb value 0)) x.0 z n in
    let c = column_bare s at (skip_not is_quote s at h b) m d (λ q. omega arith) refl negative size (y, x.1, x.2) in
    let f = fit_ended (integer (not (eqb start at) && not (eqb value 0)) value) (behind_column (drop next s)) (range_small (not (eqb start at) && not (eqb value 0)) value small) in
    (x.0 ∙ sym f ∙ ap fit_cell (sym x.0 ∙ c.0) ∙ fit_clip (cell_of (drop at s)), c.1, c.2)
