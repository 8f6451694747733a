-- A byte that is one of three, and the first of two bytes or of one as the first of three. Assumes nothing.
use mathlib.Core.Path.{◌≡◌, refl}
use mathlib.Core.Bool.{Bool, true, false, ◌||◌}
use mathlib.Core.List.{List}
use Prim.Native.Nat.{ℕ, ◌+◌}
use borrow.Author.Tests.{eq-eqb, ne_eqb}
use lib.Dec.{eqb}
use lib.ListN.{drop}
use Rattle.definition.specs.Chars.{before}
use Rattle.definition.proofs.Moves.CharLaws.{cases}
use Rattle.searches.specs.Firsts.{one_of, first_of}

module _ (a b c x : ℕ) where
  pub is_first : x ≡ a → one_of a b c x ≡ true
  is_first h = rw (eq-eqb x a h)

  pub is_second : x ≡ b → one_of a b c x ≡ true
  is_second h = cases (eqb x a) (λ t. rw t) (λ t. rw (t, eq-eqb x b h))

  pub is_third : x ≡ c → one_of a b c x ≡ true
  is_third h = cases (eqb x a) (λ t. rw t) (λ t. cases (eqb x b) (λ u. rw (t, u)) (λ u. rw (t, u, eq-eqb x c h)))

  pub is_none : (x ≡ a → ⊥) → (x ≡ b → ⊥) → (x ≡ c → ⊥) → one_of a b c x ≡ false
  is_none p q r = rw (ne_eqb x a p, ne_eqb x b q, ne_eqb x c r)

twice : (p q : Bool) → (p || (q || q)) ≡ (p || q)
twice true q = refl
twice false true = refl
twice false false = refl

thrice : (p : Bool) → (p || (p || p)) ≡ p
thrice true = refl
thrice false = refl

pub of_two : (a b : ℕ) (s : List ℕ) (i : ℕ) → first_of a b b s i ≡ i + before (λ x. eqb x a || eqb x b) (drop i s)
of_two a b s i = λ j. i + before (λ x. twice (eqb x a) (eqb x b) j) (drop i s)

pub of_one : (a : ℕ) (s : List ℕ) (i : ℕ) → first_of a a a s i ≡ i + before (λ x. eqb x a) (drop i s)
of_one a s i = λ j. i + before (λ x. thrice (eqb x a) j) (drop i s)
