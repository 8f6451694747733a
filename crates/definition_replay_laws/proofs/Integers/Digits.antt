-- THE DIGITS OF A NUMBER in any base: they are its digits, and nothing else is. Assumes nothing.
use mathlib.Core.Path.{◌≡◌, refl, sym, ◌∙◌, ap, ap₂}
use mathlib.Core.Bool.{Bool, true, false, ◌||◌, not}
use mathlib.Core.List.{List, [], ◌∷◌}
use Prim.Native.Nat.{ℕ, zero, suc, ◌+◌, ◌*◌, ◌/◌, ◌%◌, ◌≤◌, ◌<◌}
use native.Mathlib.Nat.{mod-lt, mod-add-div, div-lt_self, mod-eq_of_lt, div-eq_of_lt, add-mul-mod_self_left, add-mul-div_left, zero-add, le-div_iff_mul-le}
use native.Mathlib.Omega.{arith}
use lib.Dec.{ltb, eqb}
use lib.ListN.{length}
use borrow.Author.Tests.{ltb-true, ltb-false, eqb-true, eqb-false, eq-eqb, not-true}
use Rattle.definition_replay.specs.Integers.{digits_n, digits}
use Rattle.definition_replay.specs.IsInteger.{value, Below, leading, IsDigits}
use Rattle.definition.proofs.Moves.CharLaws.{cases, no, either}

pub leading_tail : (d : ℕ) (ds : List ℕ) → 0 < length ds → leading (d ∷ ds) ≡ leading ds
unfolding leading
leading_tail d [] h = absurd (omega arith)
leading_tail d (e ∷ ds) h = refl

-- a unit and the rest are told apart
split_units : (base d e v w : ℕ) → d < base → e < base → d + base * v ≡ e + base * w → (d ≡ e) × (v ≡ w)
split_units base d e v w h k q =
    let p : 0 < base = omega arith in (
      sym (mod-eq_of_lt h) ∙ sym (add-mul-mod_self_left d base v) ∙ ap (λ n. n % base) q ∙ add-mul-mod_self_left e base w ∙ mod-eq_of_lt k,
      quotient d v h p ∙ ap (λ n. n / base) q ∙ sym (quotient e w k p),
    )
  where
    quotient : (x z : ℕ) → x < base → 0 < base → z ≡ (x + base * z) / base
    quotient x z l p = sym (add-mul-div_left x z p ∙ ap (λ n. n + z) (div-eq_of_lt l) ∙ zero-add z)

some_left : (base n : ℕ) → 0 < base → base ≤ n → 0 < n / base
some_left base n p l = (le-div_iff_mul-le p).1 (omega arith)

module _ (base : ℕ) (big : 1 < base) where
  -- THEY ARE DIGITS, one or more, and where the number is not 0 the first is not
  record Found (n : ℕ) (ds : List ℕ) : Type 0 where
    is_value : value base ds ≡ n
    below : Below base ds
    any : 0 < length ds
    alone : n < base → length ds ≡ 1
    front : 0 < n → 0 < leading ds

  found : (k n : ℕ) → n < k → Found n (digits_n k base n)
  unfolding digits_n value leading
  found zero n h = absurd (omega arith)
  found (suc k) n h = go (ltb n base) refl (λ l. found k (n / base) l)
    where
      go : (t : Bool) → ltb n base ≡ t → (n / base < k → Found (n / base) (digits_n k base (n / base))) → Found n (digits_n (suc k) base n)
      go true t ih =
          rw (t, digits_n)
          (record { is_value = omega arith; below = (ltb-true n base t, tt); any = omega arith; alone = λ l. refl; front = λ l. l })
      go false t ih =
          let l = ltb-false n base t in
          let s : n / base < n = div-lt_self (omega arith) big in
          let r = ih (omega arith) in
          let m = mod-add-div n base in
          rw (t, digits_n)
          (record {
            is_value = ap (λ v. n % base + base * v) r.is_value ∙ m;
            below = (mod-lt n (omega arith), r.below);
            any = omega arith;
            alone = λ q. absurd (omega arith);
            front = λ q. rw (leading_tail (n % base) (digits_n k base (n / base)) r.any) (r.front (some_left base n (omega arith) l));
          })

  pub digits_are : (n : ℕ) → IsDigits base n (digits base n)
  unfolding digits
  digits_are n =
      let r = found (suc n) n (omega arith) in
      record { number = r.is_value; below = r.below; front = go (eqb (leading (digits_n (suc n) base n)) 0) refl r }
    where
      go : (t : Bool) → eqb (leading (digits_n (suc n) base n)) 0 ≡ t → Found n (digits_n (suc n) base n)
          → (eqb (length (digits_n (suc n) base n)) 1 || not (eqb (leading (digits_n (suc n) base n)) 0)) ≡ true
      go true t r = rw (eq-eqb (length (digits_n (suc n) base n)) 1 (r.alone (below_one (eqb-true _ _ t) r.front)))
        where
          below_one : leading (digits_n (suc n) base n) ≡ 0 → (0 < n → 0 < leading (digits_n (suc n) base n)) → n < base
          below_one e f = cases (ltb 0 n) (λ l. let k = f (ltb-true 0 n l) in absurd (omega arith)) (λ l. let k = ltb-false 0 n l in omega arith)
      go false t r = rw t (or-true (eqb (length (digits_n (suc n) base n)) 1))
        where
          or-true : (x : Bool) → (x || true) ≡ true
          or-true true = refl
          or-true false = refl

  -- AND NOTHING ELSE IS: of no value only zeros
  zero_leading : (ds : List ℕ) → Below base ds → value base ds ≡ 0 → leading ds ≡ 0
  unfolding value leading
  zero_leading [] b e = refl
  zero_leading (d ∷ []) b e = omega arith
  zero_leading (d ∷ d' ∷ ds) b e = zero_leading (d' ∷ ds) b.1 (split_units base d 0 (value base (d' ∷ ds)) 0 b.0 (omega arith) (e ∙ omega arith)).1

  -- digits that are none, or whose first is not 0
  abbrev Tight : List ℕ → Type 0
  Tight ds = 0 < length ds → 0 < leading ds

  tight_tail : (d : ℕ) (ds : List ℕ) → Tight (d ∷ ds) → Tight ds
  tight_tail d ds t h = rw (leading_tail d ds h) at (t (omega arith))

  tight_one : (ds es : List ℕ) → Below base ds → Below base es → Tight ds → Tight es → value base ds ≡ value base es → ds ≡ es
  unfolding value
  tight_one [] [] b c t u e = refl
  tight_one [] (x ∷ es) b c t u e = let z = zero_leading (x ∷ es) c (sym e) in let k = u (omega arith) in absurd (omega arith)
  tight_one (d ∷ ds) [] b c t u e = let z = zero_leading (d ∷ ds) b e in let k = t (omega arith) in absurd (omega arith)
  tight_one (d ∷ ds) (x ∷ es) b c t u e =
      let s = split_units base d x (value base ds) (value base es) b.0 c.0 e in
      ap₂ (λ a l. a ∷ l) s.0 (tight_one ds es b.1 c.1 (tight_tail d ds t) (tight_tail x es u) s.1)

  digits_tail : (d n : ℕ) (ds : List ℕ) → IsDigits base n (d ∷ ds) → Tight ds
  digits_tail d n ds r h =
      either (eqb (suc (length ds)) 1) (not (eqb (leading (d ∷ ds)) 0)) r.front
      (λ e. let k = eqb-true (suc (length ds)) 1 e in absurd (omega arith))
      (λ e. rw (leading_tail d ds h) at (some (leading (d ∷ ds)) (eqb-false (leading (d ∷ ds)) 0 (not-true (eqb (leading (d ∷ ds)) 0) e))))
    where
      some : (m : ℕ) → (m ≡ 0 → ⊥) → 0 < m
      some m f = omega arith

  pub digits_one : (n : ℕ) (ds es : List ℕ) → IsDigits base n ds → IsDigits base n es → ds ≡ es
  unfolding value leading
  digits_one n [] es r q = no r.front
  digits_one n (d ∷ ds) [] r q = no q.front
  digits_one n (d ∷ ds) (x ∷ es) r q =
      let b = r.below in
      let c = q.below in
      let s = split_units base d x (value base ds) (value base es) b.0 c.0 (r.number ∙ sym q.number) in
      ap₂ (λ a l. a ∷ l) s.0 (tight_one ds es b.1 c.1 (digits_tail d n ds r) (digits_tail x n es q) s.1)
