-- THE TEXT THAT IS WRITTEN for an integer is the integer's text. Assumes nothing.
use mathlib.Core.Path.{◌≡◌, refl, sym, ◌∙◌, ap, ap₂}
use mathlib.Core.Bool.{Bool, true, false, ◌&&◌, ◌||◌}
use mathlib.Core.List.{List, [], ◌∷◌, ◌++◌, map, reverse, append-nil, append_assoc}
use Prim.Native.Nat.{ℕ, zero, suc, ◌+◌, ◌-◌, ◌/◌, ◌≤◌, ◌<◌}
use native.Mathlib.Omega.{arith}
use lib.Dec.{ltb, leb, eqb}
use lib.ListN.{length, replicate, length-append, length-reverse}
use borrow.Author.Tests.{ltb-true, ltb-false, leb-true, leb-false, le-leb, eqb-true, eq-eqb}
use Rattle.definition.specs.Chars.{◌is◌}
use Rattle.definition_replay.specs.Integers.{Integer, digits, Form, base_of, figure, head_of, grouped, group_size, figures, zero_pads, zeroed, least_of, numeral_of, copies, pad_of, left_of, inner_of, written}
use Rattle.definition_replay.specs.IsInteger.{placed, IsWritten}
use Rattle.definition.proofs.Moves.CharLaws.{cases, no}
use Rattle.definition_replay_laws.proofs.Integers.Digits.{digits_are, digits_one}
use Rattle.definition_replay_laws.proofs.Spec.SpecLaws.{both_true}

-- the bases are above 1
pub base_big : (t : ℕ) → eqb (base_of t) 0 ≡ false → 1 < base_of t
unfolding base_of
base_big t =
    cases (eqb t 0 || t is "d") (λ a. rw a (λ e. omega arith))
    (λ a.
    cases (t is "b") (λ b. rw (a, b) (λ e. omega arith))
    (λ b.
    cases (t is "o") (λ c. rw (a, b, c) (λ e. omega arith))
    (λ c. cases (t is "xX") (λ d. rw (a, b, c, d) (λ e. omega arith)) (λ d. rw (a, b, c, d) (λ e. no (sym e))))))

-- A FIGURE MORE is a byte more, or two
grouped_more : (separator size k x : ℕ) (ds : List ℕ) → length (grouped separator size k ds) < length (grouped separator size k (ds ++ (x ∷ [])))
unfolding grouped
grouped_more separator size zero x [] = omega arith
grouped_more separator size (suc k) x [] = omega arith
grouped_more separator size zero x (d ∷ ds) = omega (arith, grouped_more separator size (size - 1) x ds)
grouped_more separator size (suc k) x (d ∷ ds) = omega (arith, grouped_more separator size k x ds)

map_snoc : (g : ℕ → ℕ) (ds : List ℕ) (x : ℕ) → map g (ds ++ (x ∷ [])) ≡ map g ds ++ (g x ∷ [])
map_snoc g [] x = refl
map_snoc g (d ∷ ds) x = ap (λ l. g d ∷ l) (map_snoc g ds x)

pub figures_more : (f : Form) (ds : List ℕ) (x : ℕ) → length (figures f ds) < length (figures f (ds ++ (x ∷ [])))
unfolding figures
figures_more f ds x =
    rw (map_snoc (figure f.type) ds x)
    (cases (eqb f.grouping 0)
    (λ e. rw e (omega (arith, length-append (map (figure f.type) ds) (figure f.type x ∷ []))))
    (λ e. rw e (grouped_more f.grouping (group_size f) (group_size f) (figure f.type x) (map (figure f.type) ds))))

-- ZEROS until the figures are wide enough, and no more
pub record Zeroed (least : ℕ) (f : Form) (ds r : List ℕ) : Type 0 where
  pub zeros : ℕ
  pub same : r ≡ ds ++ replicate zeros 0
  pub wide : least ≤ length (figures f r)
  pub fewest : (m : ℕ) → zeros ≡ suc m → length (figures f (ds ++ replicate m 0)) < least

one_more_lem : (ds : List ℕ) (m : ℕ) → ds ++ (0 ∷ []) ++ replicate m 0 ≡ ds ++ replicate (suc m) 0
one_more_lem ds m = append_assoc ds (0 ∷ []) (replicate m 0)

pub zeroed_is : (n least : ℕ) (f : Form) (ds : List ℕ) → least ≤ n + length (figures f ds) → Zeroed least f ds (zeroed n least f ds)
unfolding zeroed
zeroed_is zero least f ds h = record { zeros = 0; same = sym (append-nil ds); wide = omega arith; fewest = λ m e. absurd (omega arith) }
zeroed_is (suc n) least f ds h = go (leb least (length (figures f ds))) refl (zeroed_is n least f (ds ++ (0 ∷ [])))
  where
    go : (t : Bool) → leb least (length (figures f ds)) ≡ t
        → (least ≤ n + length (figures f (ds ++ (0 ∷ []))) → Zeroed least f (ds ++ (0 ∷ [])) (zeroed n least f (ds ++ (0 ∷ []))))
        → Zeroed least f ds (zeroed (suc n) least f ds)
    go true t ih = rw (t, zeroed) (record { zeros = 0; same = sym (append-nil ds); wide = leb-true _ _ t; fewest = λ m e. absurd (omega arith) })
    go false t ih =
        let r = ih (omega (arith, figures_more f ds 0)) in
        rw (t, zeroed)
        (record { zeros = suc r.zeros; same = r.same ∙ one_more_lem ds r.zeros; wide = r.wide; fewest = λ m e. fewer r m (omega arith) })
      where
        fewer : (r : Zeroed least f (ds ++ (0 ∷ [])) (zeroed n least f (ds ++ (0 ∷ [])))) (m : ℕ) → r.zeros ≡ m → length (figures f (ds ++ replicate m 0)) < least
        fewer r zero e = rw (append-nil ds) (leb-false _ _ t)
        fewer r (suc m) e = rw (← one_more_lem ds m) (r.fewest m e)

-- FILLS: where an align puts them
module _ (align pad : ℕ) where
  pub fills_in : left_of align pad + inner_of align pad ≤ pad
  unfolding left_of inner_of
  fills_in =
      cases (align is "<=")
      (λ a. rw a (cases (align is "=") (λ b. rw b (omega arith)) (λ b. rw b (omega arith))))
      (λ a.
      let n = not-equals a in
      rw (a, n) (cases (align is ">") (λ b. rw b (omega arith)) (λ b. rw b (omega arith))))
    where
      not-equals : (align is "<=") ≡ false → (align is "=") ≡ false
      not-equals a = cases (align is "=") (λ b. no (sym a ∙ ap (λ t. (align is "<") || t) b ∙ or-true (align is "<"))) (λ b. b)
        where
          or-true : (x : Bool) → (x || true) ≡ true
          or-true true = refl
          or-true false = refl

  pub fills_placed : placed align (left_of align pad) (inner_of align pad) (pad - (left_of align pad + inner_of align pad)) ≡ true
  unfolding left_of inner_of placed
  fills_placed =
      cases (align is "<") (λ a. rw a (rw (ap (λ x. x is "=") (eqb-true align 60 a), inner_of)))
      (λ a.
      cases (align is "=") (λ b. rw (a, b) (eq-eqb (pad - (0 + pad)) 0 (omega arith)))
      (λ b.
      cases (align is ">") (λ c. rw (a, b, c) (eq-eqb (pad - (pad + 0)) 0 (omega arith)))
      (λ c. rw (a, b, c) (rw (le-leb (pad / 2) (pad - (pad / 2 + 0)) (omega arith), le-leb (pad - (pad / 2 + 0)) (pad / 2 + 1) (omega arith))))))

-- THE TEXT OF AN INTEGER
module _ (f : Form) (v : Integer) (big : 1 < base_of f.type) where
  abbrev number : List ℕ
  number = digits (base_of f.type) v.size

  abbrev zeroes : List ℕ
  zeroes = zeroed (least_of f v) (least_of f v) f number

  all_zeroed : Zeroed (least_of f v) f number zeroes
  all_zeroed = zeroed_is (least_of f v) (least_of f v) f number (omega arith)

  numeral_length : length (numeral_of f v) ≡ length (figures f zeroes)
  unfolding numeral_of
  numeral_length = length-reverse (figures f zeroes)

  plain_least : zero_pads f ≡ false → least_of f v ≡ 0
  unfolding least_of
  plain_least e = rw e

  padded_least : zero_pads f ≡ true → least_of f v ≡ f.width - length (head_of f v)
  unfolding least_of
  padded_least e = rw e

  least_most : least_of f v ≤ f.width - length (head_of f v)
  least_most = cases (zero_pads f) (λ e. rw (padded_least e) (omega arith)) (λ e. rw (plain_least e) (omega arith))

  pad_is : pad_of f v ≡ f.width - (length (head_of f v) + length (figures f (number ++ replicate all_zeroed.zeros 0)))
  unfolding pad_of
  pad_is = rw (numeral_length ∙ ap (λ l. length (figures f l)) all_zeroed.same)

  none_zeroed : (z : Zeroed (least_of f v) f number zeroes) → least_of f v ≡ 0 → z.zeros ≡ 0
  none_zeroed z e = go z.zeros refl
    where
      go : (n : ℕ) → z.zeros ≡ n → z.zeros ≡ 0
      go zero q = q
      go (suc n) q = let k = z.fewest n q in absurd (omega arith)

  pub written_is : IsWritten f v (written f v)
  unfolding written numeral_of
  written_is =
      let z = all_zeroed in
      let pad = pad_of f v in
      let left = left_of f.align pad in
      let inner = inner_of f.align pad in
      let m = fills_in f.align pad in
      let p = pad_is in
      let w : least_of f v ≤ length (figures f (number ++ replicate z.zeros 0)) = rw z.same at z.wide in
      record {
        digits = number;
        zeros = z.zeros;
        left = left;
        inner = inner;
        right = pad - (left + inner);
        number = digits_are (base_of f.type) big v.size;
        text = ap (λ l. copies left f.fill ++ head_of f v ++ copies inner f.fill ++ reverse (figures f l) ++ copies (pad - (left + inner)) f.fill) z.same;
        wide = omega arith;
        fills = λ h. omega arith;
        places = fills_placed f.align pad;
        plain = λ e. none_zeroed z (plain_least e);
        padded = λ e. let q = padded_least e in omega arith;
        fewest = λ n e. let q = z.fewest n e in let r = least_most in omega arith;
      }

-- AND NO OTHER TEXT IS. More zeros are no narrower
pub zeros_snoc : (ds : List ℕ) (n : ℕ) → ds ++ replicate (suc n) 0 ≡ (ds ++ replicate n 0) ++ (0 ∷ [])
zeros_snoc ds zero = ap (λ l. l ++ (0 ∷ [])) (sym (append-nil ds))
zeros_snoc ds (suc n) = sym (one_more_lem ds (suc n)) ∙ zeros_snoc (ds ++ (0 ∷ [])) n ∙ ap (λ l. l ++ (0 ∷ [])) (one_more_lem ds n)

zeros_wider : (f : Form) (ds : List ℕ) (a b : ℕ) → a ≤ b → length (figures f (ds ++ replicate a 0)) ≤ length (figures f (ds ++ replicate b 0))
zeros_wider f ds a zero h = let e : a ≡ 0 = omega arith in rw e (omega arith)
zeros_wider f ds a (suc b) h =
    cases (leb a b)
    (λ t. let k = zeros_wider f ds a b (leb-true a b t) in rw (zeros_snoc ds b) (omega (arith, figures_more f (ds ++ replicate b 0) 0)))
    (λ t. let k = leb-false a b t in let e : a ≡ suc b = omega arith in rw e (omega arith))

-- so many fills are placed in one way
placed_one : (align l i r l' i' r' : ℕ) → placed align l i r ≡ true → placed align l' i' r' ≡ true → l + i + r ≡ l' + i' + r' → (l ≡ l') × (i ≡ i') × (r ≡ r')
unfolding placed
placed_one align l i r l' i' r' =
    cases (align is "<") (λ a. rw a (λ p q e. let x = zeros l i p in let y = zeros l' i' q in omega arith))
    (λ a.
    cases (align is "=") (λ b. rw (a, b) (λ p q e. let x = zeros l r p in let y = zeros l' r' q in omega arith))
    (λ b.
    cases (align is ">") (λ c. rw (a, b, c) (λ p q e. let x = zeros i r p in let y = zeros i' r' q in omega arith))
    (λ c. rw (a, b, c) (λ p q e. let x = halves l i r p in let y = halves l' i' r' q in omega arith))))
  where
    zeros : (m n : ℕ) → (eqb m 0 && eqb n 0) ≡ true → (m ≡ 0) × (n ≡ 0)
    zeros m n e = let d = both_true (eqb m 0) (eqb n 0) e in (eqb-true m 0 d.0, eqb-true n 0 d.1)

    halves : (l i r : ℕ) → (eqb i 0 && leb l r && leb r (l + 1)) ≡ true → (i ≡ 0) × (l ≤ r) × (r ≤ l + 1)
    halves l i r e =
        let d = both_true (eqb i 0 && leb l r) (leb r (l + 1)) e in
        let c = both_true (eqb i 0) (leb l r) d.0 in
        (eqb-true i 0 c.0, leb-true l r c.1, leb-true r (l + 1) d.1)

module _ (f : Form) (v : Integer) (big : 1 < base_of f.type) where
  -- the figures and the fills of a text
  abbrev figures_in : {t : List ℕ} → IsWritten f v t → List ℕ
  figures_in r = figures f (r.digits ++ replicate r.zeros 0)

  same_digits : {t u : List ℕ} (r : IsWritten f v t) (s : IsWritten f v u) → r.digits ≡ s.digits
  same_digits r s = digits_one (base_of f.type) big v.size r.digits s.digits r.number s.number

  -- fewer zeros are too narrow
  no_fewer : {t u : List ℕ} (r : IsWritten f v t) (s : IsWritten f v u) → r.zeros < s.zeros → ⊥
  no_fewer r s h = go s.zeros refl
    where
      go : (n : ℕ) → s.zeros ≡ n → ⊥
      go zero e = absurd (omega arith)
      go (suc n) e =
          cases (zero_pads f)
          (λ t.
          let a = r.padded t in
          let b = r.wide in
          let c = s.fewest n e in
          let d = zeros_wider f r.digits r.zeros n (omega arith) in
          let k : length (figures f (r.digits ++ replicate n 0)) ≡ length (figures f (s.digits ++ replicate n 0)) = ap (λ l. length (figures f (l ++ replicate n 0))) (same_digits r s) in
          omega arith)
          (λ t. let a = s.plain t in omega arith)

  same_zeros : {t u : List ℕ} (r : IsWritten f v t) (s : IsWritten f v u) → r.zeros ≡ s.zeros
  same_zeros r s =
      cases (ltb r.zeros s.zeros) (λ t. absurd (no_fewer r s (ltb-true r.zeros s.zeros t)))
      (λ t. cases (ltb s.zeros r.zeros) (λ q. absurd (no_fewer s r (ltb-true s.zeros r.zeros q))) (λ q. let a = ltb-false r.zeros s.zeros t in let b = ltb-false s.zeros r.zeros q in omega arith))

  -- fills up to the width
  fills_are : {t : List ℕ} (r : IsWritten f v t) → r.left + r.inner + r.right ≡ f.width - (length (head_of f v) + length (figures_in r))
  fills_are r =
      let w = r.wide in
      cases (ltb 0 (r.left + r.inner + r.right)) (λ t. let e = r.fills (ltb-true _ _ t) in omega arith)
      (λ t. let e = ltb-false 0 (r.left + r.inner + r.right) t in omega arith)

  pub written_one : (t u : List ℕ) → IsWritten f v t → IsWritten f v u → t ≡ u
  written_one t u r s =
      let d = same_digits r s in
      let z = same_zeros r s in
      let g : figures_in r ≡ figures_in s = ap₂ (λ l n. figures f (l ++ replicate n 0)) d z in
      let n = ap length g in
      let p = fills_are r in
      let q = fills_are s in
      let k = placed_one f.align r.left r.inner r.right s.left s.inner s.right r.places s.places (omega arith) in
      r.text
      ∙ (λ i. copies (k.0 i) f.fill ++ head_of f v ++ copies (k.1 i) f.fill ++ reverse (g i) ++ copies (k.2 i) f.fill)
      ∙ sym s.text
