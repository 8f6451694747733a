-- Laws of the walks over records: texts and records that are the same, and where an item ends. Assumes nothing.
use mathlib.Core.Path.{◌≡◌, refl, sym, ◌∙◌, ap}
use mathlib.Core.Bool.{Bool, true, false, ◌&&◌}
use mathlib.Core.List.{List, [], ◌∷◌, ◌++◌, append-nil}
use Prim.Native.Nat.{ℕ, zero, suc, ◌+◌, ◌-◌, ◌≤◌, ◌<◌}
use native.Mathlib.Nat.{sub_self, sub-zero, add-zero}
use native.Mathlib.Numerals.{add-one}
use native.Mathlib.Omega.{arith}
use lib.Dec.{eqb}
use lib.Pointwise.{pointwise}
use lib.ListN.{length}
use Rattle.definition.specs.Chars.{same}
use Rattle.definition.specs.Words.{owing}
use Rattle.definition_revisions.specs.Revisions.{Shape, onto, items_from, same_shape, same_item}
use Rattle.definition_revisions.proofs.Laws.Runs.{item_true}
use Rattle.definition_revisions.proofs.Laws.Items.{opened, onto_all, items_turn, onto_append, onto_first}
use Rattle.formed.specs.Heads.{head_at}
use Rattle.revisions.specs.Walks.{shape_of_head, shape_at, shapes_from, items_at}

-- a test that cannot hold
pub not_so : (t : Bool) → (t ≡ true → ⊥) → t ≡ false
not_so true f = absurd (f refl)
not_so false f = refl

-- TEXTS THAT ARE THE SAME: the library's test is the definition's
pub same_pointwise : (xs ys : List ℕ) → pointwise eqb xs ys ≡ same xs ys
unfolding same
same_pointwise [] [] = refl
same_pointwise [] (y ∷ ys) = refl
same_pointwise (x ∷ xs) [] = refl
same_pointwise (x ∷ xs) (y ∷ ys) = ap (λ t. eqb x y && t) (same_pointwise xs ys)

-- SHAPES one by one
module _ (w text : List ℕ) where
  pub shapes_length : (i n : ℕ) → length (shapes_from w text i n) ≡ n
  unfolding shapes_from
  shapes_length i zero = refl
  shapes_length i (suc n) = ap suc (shapes_length (suc i) n)

  pub shapes_turn : (i n m : ℕ) → n ≡ suc m → shapes_from w text i n ≡ shape_at w text i ∷ shapes_from w text (i + 1) m
  unfolding shapes_from
  shapes_turn i n m e = rw (e, add-one) refl

  pub shapes_last : (i n : ℕ) → shapes_from w text i (suc n) ≡ shapes_from w text i n ++ (shape_at w text (i + n) ∷ [])
  unfolding shapes_from
  shapes_last i zero = rw add-zero refl
  shapes_last i (suc n) = ap (λ l. shape_at w text i ∷ l) (shapes_last (suc i) n ∙ ap (λ j. shapes_from w text (suc i) n ++ (shape_at w text j ∷ [])) (more i n))
    where
      more : (i n : ℕ) → suc i + n ≡ i + suc n
      more i n = omega arith

-- ITEMS THAT ARE EQUAL
pub item_longer : (a b : List Shape) → (length b ≡ length a → ⊥) → same_item a b ≡ false
item_longer a b h = not_so (same_item a b) (λ e. h (ap length (sym (item_true a b e))))

module _ (w text v other : List ℕ) (i j : ℕ) where
  pub items_longer : (n m : ℕ) → (m ≡ n → ⊥) → same_item (shapes_from w text i n) (shapes_from v other j m) ≡ false
  items_longer n m h = item_longer (shapes_from w text i n) (shapes_from v other j m) (λ e. h (sym (shapes_length v other j m) ∙ e ∙ shapes_length w text i n))

  pub items_start : (n m : ℕ) → m ≡ n → same_item (shapes_from w text i n) (shapes_from v other j m) ≡ same_item (shapes_from w text (i + 0) (n - 0)) (shapes_from v other (j + 0) (n - 0))
  items_start n m e = rw (e, add-zero i, add-zero j, sub-zero n) refl

  pub items_over : same_item (shapes_from w text i 0) (shapes_from v other j 0) ≡ true
  unfolding same_item shapes_from
  items_over = refl

module _ (w text v other : List ℕ) (i j n m : ℕ) (e : n ≡ suc m) where
  abbrev first : Bool
  first = same_shape (shape_at w text i) (shape_at v other j)

  item_turn : same_item (shapes_from w text i n) (shapes_from v other j n) ≡ (first && same_item (shapes_from w text (i + 1) m) (shapes_from v other (j + 1) m))
  unfolding same_item
  item_turn = rw (shapes_turn w text i n m e, shapes_turn v other j n m e) refl

  pub item_here : first ≡ true → same_item (shapes_from w text i n) (shapes_from v other j n) ≡ same_item (shapes_from w text (i + 1) m) (shapes_from v other (j + 1) m)
  item_here t = item_turn ∙ rw t refl

  pub item_differs : first ≡ false → same_item (shapes_from w text i n) (shapes_from v other j n) ≡ false
  item_differs t = item_turn ∙ rw t refl

-- after k records of n
module _ (w text v other : List ℕ) (i j n k : ℕ) (h : k < n) where
  abbrev at_k : Bool
  at_k = same_shape (shape_at w text (i + k)) (shape_at v other (j + k))

  pub items_next : at_k ≡ true → same_item (shapes_from w text (i + k) (n - k)) (shapes_from v other (j + k) (n - k)) ≡ same_item (shapes_from w text (i + (k + 1)) (n - (k + 1))) (shapes_from v other (j + (k + 1)) (n - (k + 1)))
  items_next t =
      let p : i + (k + 1) ≡ i + k + 1 = omega arith in
      let q : j + (k + 1) ≡ j + k + 1 = omega arith in
      rw (p, q) (item_here w text v other (i + k) (j + k) (n - k) (n - (k + 1)) (omega arith) t)

  pub items_differ : at_k ≡ false → same_item (shapes_from w text (i + k) (n - k)) (shapes_from v other (j + k) (n - k)) ≡ false
  items_differ t = item_differs w text v other (i + k) (j + k) (n - k) (n - (k + 1)) (omega arith) t

pub items_end : (w text v other : List ℕ) (i j n k : ℕ) → n ≤ k → same_item (shapes_from w text (i + k) (n - k)) (shapes_from v other (j + k) (n - k)) ≡ true
items_end w text v other i j n k h = let e : n - k ≡ 0 = omega arith in rw e (items_over w text v other (i + k) (j + k))

-- WHERE AN ITEM ENDS: the items from `at` on are the shapes up to i in front of those from i on, of which so much is owed
abbrev pub walked : (w text : List ℕ) (count at i owed : ℕ) → List (List Shape)
walked w text count at i owed = onto_all (shapes_from w text at (i - at)) (items_from owed (shapes_from w text i (count - i)))

pub walk_start : (w text : List ℕ) (count at : ℕ) → items_at w text count at ≡ walked w text count at at 0
unfolding onto_all shapes_from
walk_start w text count at = rw (sub_self at) refl

module _ (w text : List ℕ) (count at i owed m : ℕ) (h : at ≤ i) (k : i < count) (e : m ≡ owing owed (head_at w i).parts) where
  walk_step : walked w text count at i owed ≡ onto_all (shapes_from w text at (i + 1 - at)) (opened m (shapes_from w text (i + 1) (count - (i + 1))))
  unfolding onto_all shape_of_head
  walk_step =
      let p : i + 1 - at ≡ suc (i - at) = omega arith in
      let q : at + (i - at) ≡ i = omega arith in
      let n : count - i ≡ suc (count - (i + 1)) = omega arith in
      rw (p, shapes_last w text at (i - at), q, onto_append, e, shapes_turn w text i (count - i) (count - (i + 1)) n, items_turn) refl

  pub walk_ends : m ≡ 0 → walked w text count at i owed ≡ shapes_from w text at (i + 1 - at) ∷ items_at w text count (i + 1)
  unfolding opened
  walk_ends z = walk_step ∙ rw z (onto_first (shapes_from w text at (i + 1 - at)) [] (items_at w text count (i + 1)) ∙ ap (λ l. l ∷ items_at w text count (i + 1)) (append-nil (shapes_from w text at (i + 1 - at))))

  pub walk_goes : (m ≡ 0 → ⊥) → walked w text count at i owed ≡ walked w text count at (i + 1) m
  unfolding opened
  walk_goes z = walk_step ∙ ap (onto_all (shapes_from w text at (i + 1 - at))) (more m z)
    where
      more : (m : ℕ) → (m ≡ 0 → ⊥) → opened m (shapes_from w text (i + 1) (count - (i + 1))) ≡ items_from m (shapes_from w text (i + 1) (count - (i + 1)))
      more zero z = absurd (z refl)
      more (suc m) z = refl

onto_none : (x : Shape) (xs : List Shape) → onto_all (x ∷ xs) [] ≡ (x ∷ xs) ∷ []
unfolding onto_all onto
onto_none x [] = refl
onto_none x (y ∷ xs) = rw (onto_none y xs) refl

-- the records are over
pub walk_over : (w text : List ℕ) (count at i owed : ℕ) → at < i → i ≡ count → walked w text count at i owed ≡ shapes_from w text at (i - at) ∷ items_at w text count i
unfolding items_from shapes_from
walk_over w text count at i owed h e =
    let n : i - at ≡ suc (i - at - 1) = omega arith in
    rw (e, sub_self count, ← e, shapes_turn w text at (i - at) (i - at - 1) n)
    (onto_none (shape_at w text at) (shapes_from w text (at + 1) (i - at - 1)))
