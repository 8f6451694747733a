-- An octal escape is told by two bytes. Assumes nothing.
use mathlib.Core.Path.{◌≡◌, refl, sym, ◌∙◌}
use mathlib.Core.Bool.{true, false}
use mathlib.Core.List.{List}
use Prim.Native.Nat.{ℕ, ◌+◌, ◌≤◌, ◌<◌}
use native.Mathlib.Omega.{arith}
use borrow.Author.Tests.{eqb-false, eq-eqb, ne_eqb}
use lib.Dec.{eqb}
use lib.ListN.{length, get_or, get_or-eq_default}
use Rattle.definition.specs.Chars.{◌is◌, byte, code}
use Rattle.definition_cuts_laws.specs.Standing.{octal_at}
use Rattle.definition.proofs.Moves.CharLaws.{cases, byte_is, code_is, next_ascii}

digits_by_byte : (s : List ℕ) (x : ℕ) → (code s x is "01234567") ≡ (byte s x is "01234567")
digits_by_byte s x =
    rw (code_is s x 48 (omega arith), code_is s x 49 (omega arith), code_is s x 50 (omega arith), code_is s x 51 (omega arith), code_is s x 52 (omega arith), code_is s x 53 (omega arith), code_is s x 54 (omega arith), code_is s x 55 (omega arith)) refl

no_digit : (b : ℕ) → (48 ≤ b → b ≤ 55 → ⊥) → (b is "01234567") ≡ false
no_digit b h =
    rw (ne_eqb b 48 (λ e. h (omega arith) (omega arith)), ne_eqb b 49 (λ e. h (omega arith) (omega arith)), ne_eqb b 50 (λ e. h (omega arith) (omega arith)), ne_eqb b 51 (λ e. h (omega arith) (omega arith)), ne_eqb b 52 (λ e. h (omega arith) (omega arith)), ne_eqb b 53 (λ e. h (omega arith) (omega arith)), ne_eqb b 54 (λ e. h (omega arith) (omega arith)), ne_eqb b 55 (λ e. h (omega arith) (omega arith))) refl

a_digit : (b : ℕ) → 48 ≤ b → b ≤ 55 → (b is "01234567") ≡ true
a_digit b h k =
    cases (b is "01234567") (λ t. t) (λ t. absurd (none_left t))
  where
    none_left : (b is "01234567") ≡ false → ⊥
    none_left t =
        cases (eqb b 48) (λ e. no (rw e at t)) (λ e0.
        cases (eqb b 49) (λ e. no (rw (e0, e) at t)) (λ e1.
        cases (eqb b 50) (λ e. no (rw (e0, e1, e) at t)) (λ e2.
        cases (eqb b 51) (λ e. no (rw (e0, e1, e2, e) at t)) (λ e3.
        cases (eqb b 52) (λ e. no (rw (e0, e1, e2, e3, e) at t)) (λ e4.
        cases (eqb b 53) (λ e. no (rw (e0, e1, e2, e3, e4, e) at t)) (λ e5.
        cases (eqb b 54) (λ e. no (rw (e0, e1, e2, e3, e4, e5, e) at t)) (λ e6.
        cases (eqb b 55) (λ e. no (rw (e0, e1, e2, e3, e4, e5, e6, e) at t)) (λ e7. out (eqb-false b 48 e0) (eqb-false b 49 e1) (eqb-false b 50 e2) (eqb-false b 51 e3) (eqb-false b 52 e4) (eqb-false b 53 e5) (eqb-false b 54 e6) (eqb-false b 55 e7)))))))))
      where
        no : true ≡ false → ⊥
        no e = let z : ◌≡◌ {A = ℕ} 0 1 = cc in omega arith

        up : (n : ℕ) → n ≤ b → (b ≡ n → ⊥) → n + 1 ≤ b
        up n l m = omega arith

        over_all : 56 ≤ b → ⊥
        over_all l = omega arith

        out : (b ≡ 48 → ⊥) → (b ≡ 49 → ⊥) → (b ≡ 50 → ⊥) → (b ≡ 51 → ⊥) → (b ≡ 52 → ⊥) → (b ≡ 53 → ⊥) → (b ≡ 54 → ⊥) → (b ≡ 55 → ⊥) → ⊥
        out a0 a1 a2 a3 a4 a5 a6 a7 = over_all (up 55 (up 54 (up 53 (up 52 (up 51 (up 50 (up 49 (up 48 h a0) a1) a2) a3) a4) a5) a6) a7)

-- a digit at an index, or none
module _ (s : List ℕ) (x : ℕ) where
  pub none_here : length s ≤ x → false ≡ (byte s x is "01234567")
  none_here l = let z : byte s x ≡ 256 = get_or-eq_default s 256 l in sym (no_digit (byte s x) (λ a b. omega arith))

  pub digit_here : x < length s → 48 ≤ get_or s x 0 → get_or s x 0 ≤ 55 → true ≡ (byte s x is "01234567")
  digit_here l k m = let z = byte_is s x l in sym (a_digit (byte s x) (omega arith) (omega arith))

  pub other_here : x < length s → (48 ≤ get_or s x 0 → get_or s x 0 ≤ 55 → ⊥) → false ≡ (byte s x is "01234567")
  other_here l n = let z = byte_is s x l in sym (no_digit (byte s x) (λ a b. n (omega arith) (omega arith)))

module _ (s : List ℕ) (i : ℕ) (h : i < length s) where
  pub no_backslash : (get_or s i 0 ≡ 92 → ⊥) → false ≡ octal_at s i
  unfolding octal_at
  no_backslash n = rw (code_is s i 92 (omega arith), ne_eqb (byte s i) 92 (λ e. n (byte_is s i h ∙ e))) refl

  module _ (e : get_or s i 0 ≡ 92) where
    pub by_second : octal_at s i ≡ (byte s (i + 1) is "01234567")
    unfolding octal_at
    by_second =
        let b : byte s i ≡ 92 = sym (byte_is s i h) ∙ e in
        rw (code_is s i 92 (omega arith), eq-eqb (byte s i) 92 b, next_ascii s i (omega arith)) (digits_by_byte s (i + 1))
