-- Lists by how often each element stands in them: a list of as many elements, none of them twice, that another one has is that
-- one in another order; two lists that rise and have the same elements are the same. Assumes nothing.
use mathlib.Core.Path.{◌≡◌, refl, sym, ap, ◌∙◌}
use mathlib.Core.Bool.{Bool, true, false}
use mathlib.Core.List.{List, [], ◌∷◌}
use Prim.Native.Nat.{ℕ, zero, suc, ◌+◌, ◌≤◌, ◌<◌, zero-le}
use native.Mathlib.Nat.{not-suc-le-zero, le_of_suc-le-suc}
use native.Mathlib.Numerals.{add-one}
use native.Mathlib.Omega.{arith}
use lib.Dec.{eqb, ltb}
use lib.ListN.{length, get_or}
use borrow.Author.Tests.{eqb-true, eqb-false, eq-eqb, ne_eqb, ltb-true, ltb-false}
use Rattle.definition_names.specs.IsIndex.{bit, count, Perm, Rising}
use Rattle.definition.proofs.Moves.CharLaws.{cases}
use Rattle.definition_names.proofs.NameOrder.{never}

suc_le_suc : {n m : ℕ} → n ≤ m → suc n ≤ suc m
suc_le_suc h = omega arith

pub same? : {P : Type 0} (x y : ℕ) → (x ≡ y → P) → ((x ≡ y → ⊥) → P) → P
same? x y f g = cases (eqb x y) (λ t. f (eqb-true x y t)) (λ t. g (eqb-false x y t))

-- the first element
pub count_here : (x y : ℕ) (l : List ℕ) → x ≡ y → count x (y ∷ l) ≡ suc (count x l)
unfolding count bit
count_here x y l e = rw (eq-eqb x y e) (omega arith)

pub count_later : (x y : ℕ) (l : List ℕ) → (x ≡ y → ⊥) → count x (y ∷ l) ≡ count x l
unfolding count bit
count_later x y l ne = rw (ne_eqb x y ne) (omega arith)

pub count_none : (x : ℕ) → count x [] ≡ 0
unfolding count
count_none x = refl

-- an element stands where a list has it, and the other way round
pub count_at : (l : List ℕ) (i : ℕ) → i < length l → 1 ≤ count (get_or l i 0) l
count_at [] i h = absurd (not-suc-le-zero h)
count_at (y ∷ l) zero h = let e = count_here y y l refl in omega arith
count_at (y ∷ l) (suc i) h =
    let m = count_at l i (le_of_suc-le-suc h) in
    same? (get_or l i 0) y (λ e. let f = count_here (get_or l i 0) y l e in omega arith) (λ e. let f = count_later (get_or l i 0) y l e in omega arith)

pub record Stands (x : ℕ) (l : List ℕ) : Type 0 where
  pub at : ℕ
  pub inside : at < length l
  pub is : get_or l at 0 ≡ x

pub stands : (x : ℕ) (l : List ℕ) → 1 ≤ count x l → Stands x l
stands x [] h = let e = count_none x in absurd (omega arith)
stands x (y ∷ l) h =
    same? x y (λ e. record { at = 0; inside = suc_le_suc zero-le; is = sym e })
    (λ e.
    let s = stands x l (let f = count_later x y l e in omega arith) in
    record { at = suc s.at; inside = suc_le_suc s.inside; is = s.is })

-- sums of counts
pub swap_first : (y x z : ℕ) (l w : List ℕ) → count y l ≡ count y (x ∷ w) → count y (z ∷ l) ≡ count y (x ∷ z ∷ w)
unfolding count
swap_first y x z l w m = omega arith

fewer : (z y : ℕ) (l w : List ℕ) (n : ℕ) → count z (y ∷ l) ≤ n → n ≡ count z (y ∷ w) → count z l ≤ count z w
unfolding count
fewer z y l w n a b = omega arith

pub more_first : (x y : ℕ) (l w : List ℕ) → count x l ≡ count x w → count x (y ∷ l) ≡ count x (y ∷ w)
unfolding count
more_first x y l w p = omega arith

pub less_first : (x y : ℕ) (l w : List ℕ) → count x (y ∷ l) ≡ count x (y ∷ w) → count x l ≡ count x w
unfolding count
less_first x y l w p = omega arith

-- one of an element taken away
without : ℕ → List ℕ → List ℕ
without x [] = []
without x (y ∷ l) = elim (eqb x y) [ true ↦ l | false ↦ y ∷ without x l ]

without_here : (x y : ℕ) (l : List ℕ) → x ≡ y → without x (y ∷ l) ≡ l
unfolding without
without_here x y l e = rw (eq-eqb x y e, without)

without_later : (x y : ℕ) (l : List ℕ) → (x ≡ y → ⊥) → without x (y ∷ l) ≡ y ∷ without x l
unfolding without
without_later x y l e = rw (ne_eqb x y e, without)

without_count : (x y : ℕ) (l : List ℕ) → 1 ≤ count x l → count y l ≡ count y (x ∷ without x l)
without_count x y [] h = let e = count_none x in absurd (omega arith)
without_count x y (z ∷ l) h =
    same? x z (λ e. rw (without_here x z l e, e))
    (λ e.
    let m = without_count x y l (let f = count_later x z l e in omega arith) in
    rw (without_later x z l e) (swap_first y x z l (without x l) m))

without_length : (x : ℕ) (l : List ℕ) → 1 ≤ count x l → length l ≡ suc (length (without x l))
without_length x [] h = let e = count_none x in absurd (omega arith)
without_length x (z ∷ l) h =
    same? x z (λ e. rw (without_here x z l e))
    (λ e. rw (without_later x z l e) (ap suc (without_length x l (let f = count_later x z l e in omega arith))))

-- as many elements, each at most as often: then each as often
pub pigeons : (l m : List ℕ) → ((x : ℕ) → count x l ≤ count x m) → length m ≤ length l → Perm l m
pigeons [] [] h n x = refl
pigeons [] (y ∷ m) h n x = absurd (not-suc-le-zero n)
pigeons (y ∷ l) m h n x =
    let e = count_here y y l refl in
    let one : 1 ≤ count y m = let a = h y in omega arith in
    let len = without_length y m one in
    let c = without_count y x m one in
    let p = pigeons l (without y m) (λ z. let a = h z in let b = without_count y z m one in fewer z y l (without y m) (count z m) a b) (omega arith) x in
    more_first x y l (without y m) p ∙ sym c

-- lists that rise
module _ (le : ℕ → ℕ → Bool) (total : (x y : ℕ) → le x y ≡ false → le y x ≡ true) (reflx : (x : ℕ) → le x x ≡ true) where
  pub rising_tail : (y : ℕ) (l : List ℕ) → Rising le (y ∷ l) → Rising le l
  rising_tail y l r i j h k = r (suc i) (suc j) (suc_le_suc h) (suc_le_suc k)

  rising_first : (x y : ℕ) (l : List ℕ) → Rising le (y ∷ l) → 1 ≤ count x l → le x y ≡ false
  rising_first x y l r h = let s = stands x l h in rw (← s.is) (r 0 (suc s.at) (suc_le_suc zero-le) (suc_le_suc s.inside))

  pub rising_once : (l : List ℕ) → Rising le l → (x : ℕ) → count x l ≤ 1
  rising_once [] r x = let e = count_none x in omega arith
  rising_once (y ∷ l) r x =
      same? x y
      (λ e.
      let h = count_here x y l e in
      cases (ltb 0 (count x l)) (λ t. never (rising_first x y l r (ltb-true 0 (count x l) t)) (rw e (reflx y)))
      (λ t. let m = ltb-false 0 (count x l) t in omega arith))
      (λ e. let h = count_later x y l e in let m = rising_once l (rising_tail y l r) x in omega arith)

  pub unique : (l m : List ℕ) → Rising le l → Rising le m → Perm l m → l ≡ m
  unique [] [] r s p = refl
  unique [] (y ∷ m) r s p = let a = p y in let b = count_none y in let c = count_here y y m refl in absurd (omega arith)
  unique (x ∷ l) [] r s p = let a = p x in let b = count_none x in let c = count_here x x l refl in absurd (omega arith)
  unique (x ∷ l) (y ∷ m) r s p =
      same? x y (λ e. let t : l ≡ m = unique l m (rising_tail x l r) (rising_tail y m s) (λ z. less_first z y l m (rw e at (p z))) in rw (e, t))
      (λ e.
      let a = p x in
      let b = p y in
      let c = count_here x x l refl in
      let d = count_here y y m refl in
      let f = count_later x y m e in
      let g = count_later y x l (λ z. e (sym z)) in
      never (rising_first y x l r (omega arith)) (total x y (rising_first x y m s (omega arith))))

  -- each at or before the next but none at or before the one before it
  module _ (trans : (x y z : ℕ) → le x y ≡ true → le y z ≡ true → le x z ≡ true) (l : List ℕ) where
    pub rises : (n : ℕ) → ((k : ℕ) → k + 1 < n → le (get_or l (k + 1) 0) (get_or l k 0) ≡ false) → (i j : ℕ) → i < j → j < n → le (get_or l j 0) (get_or l i 0) ≡ false
    rises n f i zero h k = absurd (not-suc-le-zero h)
    rises n f i (suc j) h k =
        let g : le (get_or l (suc j) 0) (get_or l j 0) ≡ false = rw (add-one) at (f j (omega arith)) in
        same? i j (λ e. rw e g)
        (λ e.
        let r = rises n f i j (omega arith) (omega arith) in
        cases (le (get_or l (suc j) 0) (get_or l i 0)) (λ t. never g (trans _ _ _ t (total _ _ r))) (λ t. t))
