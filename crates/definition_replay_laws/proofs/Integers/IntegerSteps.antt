-- Integers step by step, as code writes them: a digit more, a figure more, a zero more. Assumes nothing.
use mathlib.Core.Path.{◌≡◌, refl, ap}
use mathlib.Core.Bool.{Bool, true, false}
use mathlib.Core.List.{List, [], ◌∷◌, ◌++◌}
use Prim.Native.Nat.{ℕ, zero, suc, ◌-◌, ◌/◌, ◌%◌, ◌≤◌, ◌<◌}
use native.Mathlib.Nat.{div-lt_self}
use native.Mathlib.Omega.{arith}
use lib.Dec.{ltb}
use lib.ListN.{length}
use borrow.Author.Tests.{lt-ltb, le-ltb, le-leb, lt-leb, ltb-false}
use Rattle.definition_replay.specs.Integers.{digits_n, digits, Form, grouped, figures, zeroed}

-- DIGITS, the units first: any bound that is enough
module _ (base : ℕ) (big : 1 < base) where
  digits_bound : (k m n : ℕ) → n < k → n < m → digits_n k base n ≡ digits_n m base n
  unfolding digits_n
  digits_bound zero m n h g = absurd (omega arith)
  digits_bound (suc k) zero n h g = absurd (omega arith)
  digits_bound (suc k) (suc m) n h g = go (ltb n base) refl (digits_bound k m (n / base))
    where
      go : (t : Bool) → ltb n base ≡ t → (n / base < k → n / base < m → digits_n k base (n / base) ≡ digits_n m base (n / base)) → digits_n (suc k) base n ≡ digits_n (suc m) base n
      go true t ih = rw (t, digits_n)
      go false t ih =
          let l = ltb-false n base t in
          let s : n / base < n = div-lt_self (omega arith) big in
          rw (t, digits_n) (ap (λ x. n % base ∷ x) (ih (omega arith) (omega arith)))

  pub digits_last : (n : ℕ) → n < base → digits base n ≡ n ∷ []
  unfolding digits digits_n
  digits_last n h = rw (lt-ltb n base h, digits_n)

  pub digits_more : (n : ℕ) → base ≤ n → digits base n ≡ n % base ∷ digits base (n / base)
  unfolding digits digits_n
  digits_more n h =
      let s : n / base < n = div-lt_self (omega arith) big in
      rw (le-ltb n base h, digits_n) (ap (λ x. n % base ∷ x) (digits_bound n (suc (n / base)) (n / base) s (omega arith)))

-- FIGURES IN GROUPS: how many are to come before the next separator, after some
unfoldable pub to_come : (size k : ℕ) → List ℕ → ℕ
to_come size k [] = k
to_come size zero (d ∷ ds) = to_come size (size - 1) ds
to_come size (suc k) (d ∷ ds) = to_come size k ds

pub grouped_append : (separator size k : ℕ) (ds es : List ℕ) → grouped separator size k (ds ++ es) ≡ grouped separator size k ds ++ grouped separator size (to_come size k ds) es
unfolding grouped to_come
grouped_append separator size zero [] es = refl
grouped_append separator size (suc k) [] es = refl
grouped_append separator size zero (d ∷ ds) es = ap (λ l. separator ∷ d ∷ l) (grouped_append separator size (size - 1) ds es)
grouped_append separator size (suc k) (d ∷ ds) es = ap (λ l. d ∷ l) (grouped_append separator size k ds es)

-- one figure more: at 0 a separator before it
pub grouped_first : (separator size x : ℕ) → grouped separator size 0 (x ∷ []) ≡ separator ∷ x ∷ []
unfolding grouped
grouped_first separator size x = refl

pub grouped_next : (separator size k x : ℕ) → grouped separator size (suc k) (x ∷ []) ≡ x ∷ []
unfolding grouped
grouped_next separator size k x = refl

pub come_append : (size k : ℕ) (ds es : List ℕ) → to_come size k (ds ++ es) ≡ to_come size (to_come size k ds) es
unfolding to_come
come_append size zero [] es = refl
come_append size (suc k) [] es = refl
come_append size zero (d ∷ ds) es = come_append size (size - 1) ds es
come_append size (suc k) (d ∷ ds) es = come_append size k ds es

-- ZEROS
module _ (n least : ℕ) (f : Form) (ds : List ℕ) where
  pub zeroed_done : least ≤ length (figures f ds) → zeroed n least f ds ≡ ds
  unfolding zeroed
  zeroed_done h = go n
    where
      go : (n : ℕ) → zeroed n least f ds ≡ ds
      go zero = refl
      go (suc n) = rw (le-leb least (length (figures f ds)) h, zeroed)

  pub zeroed_more : length (figures f ds) < least → zeroed (suc n) least f ds ≡ zeroed n least f (ds ++ (0 ∷ []))
  unfolding zeroed
  zeroed_more h = rw (lt-leb least (length (figures f ds)) h, zeroed)
