-- The order of names is total, transitive and antisymmetric. Assumes nothing.
use mathlib.Core.Path.{◌≡◌, refl, sym, ◌∙◌}
use mathlib.Core.Bool.{Bool, true, false}
use mathlib.Core.List.{List, [], ◌∷◌}
use Prim.Native.Nat.{ℕ, ◌<◌}
use native.Mathlib.Omega.{arith}
use lib.Dec.{ltb}
use borrow.Author.Tests.{lt-ltb, le-ltb, ltb-true, ltb-false}
use Rattle.definition_names.specs.Names.{at_most, name_of}
use Rattle.definition_names.specs.IsIndex.{in_order}
use Rattle.definition.proofs.Moves.CharLaws.{cases}

pub tri : {P : Type 0} (x y : ℕ) → (x < y → P) → (x ≡ y → P) → (y < x → P) → P
tri x y f g h =
    cases (ltb x y) (λ t. f (ltb-true x y t))
    (λ t. cases (ltb y x) (λ u. h (ltb-true y x u)) (λ u. g (let l = ltb-false x y t in let m = ltb-false y x u in omega arith)))

module _ (x y : ℕ) (a b : List ℕ) where
  pub first_less : x < y → at_most (x ∷ a) (y ∷ b) ≡ true
  unfolding at_most
  first_less h = rw (lt-ltb x y h)

  pub first_more : y < x → at_most (x ∷ a) (y ∷ b) ≡ false
  unfolding at_most
  first_more h = rw (le-ltb x y (omega arith), lt-ltb y x h)

  pub first_same : x ≡ y → at_most (x ∷ a) (y ∷ b) ≡ at_most a b
  unfolding at_most
  first_same h = rw (le-ltb x y (omega arith), le-ltb y x (omega arith))

pub never : {P : Type 0} {t : Bool} → t ≡ false → t ≡ true → P
never f t = let z : ◌≡◌ {A = ℕ} 0 1 = cc in absurd (omega arith)

pub total : (a b : List ℕ) → at_most a b ≡ false → at_most b a ≡ true
unfolding at_most
total [] b h = never h refl
total (x ∷ a) [] h = refl
total (x ∷ a) (y ∷ b) h =
    tri x y (λ l. never h (first_less x y a b l))
    (λ e. first_same y x b a (sym e) ∙ total a b (sym (first_same x y a b e) ∙ h))
    (λ l. first_less y x b a l)

pub trans : (a b c : List ℕ) → at_most a b ≡ true → at_most b c ≡ true → at_most a c ≡ true
unfolding at_most
trans [] b c h k = refl
trans (x ∷ a) [] c h k = never refl h
trans (x ∷ a) (y ∷ b) [] h k = never refl k
trans (x ∷ a) (y ∷ b) (z ∷ c) h k =
    tri x y
    (λ l. tri y z (λ m. first_less x z a c (omega arith)) (λ e. first_less x z a c (omega arith)) (λ m. never (first_more y z b c m) k))
    (λ e.
    tri y z (λ m. first_less x z a c (omega arith))
    (λ f.
    first_same x z a c (e ∙ f) ∙ trans a b c (sym (first_same x y a b e) ∙ h) (sym (first_same y z b c f) ∙ k))
    (λ m. never (first_more y z b c m) k))
    (λ l. never (first_more x y a b l) h)

pub antisym : (a b : List ℕ) → at_most a b ≡ true → at_most b a ≡ true → a ≡ b
unfolding at_most
antisym [] [] h k = refl
antisym [] (y ∷ b) h k = never refl k
antisym (x ∷ a) [] h k = never refl h
antisym (x ∷ a) (y ∷ b) h k =
    tri x y (λ l. never (first_more y x b a l) k)
    (λ e.
    let s : a ≡ b = antisym a b (sym (first_same x y a b e) ∙ h) (sym (first_same y x b a (sym e)) ∙ k) in
    rw (e, s))
    (λ l. never (first_more x y a b l) h)

pub refl_most : (a : List ℕ) → at_most a a ≡ true
unfolding at_most
refl_most [] = refl
refl_most (x ∷ a) = first_same x x a a refl ∙ refl_most a

-- the same of lines, but for antisymmetry
module _ (file : List ℕ) where
  pub order_total : (p q : ℕ) → in_order file p q ≡ false → in_order file q p ≡ true
  unfolding in_order
  order_total p q h = total _ _ h

  pub order_trans : (p q r : ℕ) → in_order file p q ≡ true → in_order file q r ≡ true → in_order file p r ≡ true
  unfolding in_order
  order_trans p q r h k = trans _ _ _ h k

  pub order_refl : (p : ℕ) → in_order file p p ≡ true
  unfolding in_order
  order_refl p = refl_most _

  pub order_same : (p q : ℕ) → in_order file p q ≡ true → in_order file q p ≡ true → name_of file p ≡ name_of file q
  unfolding in_order
  order_same p q h k = antisym _ _ h k
