-- The base of a type, by its letter. Assumes nothing.
use mathlib.Core.Path.{◌≡◌, refl, sym, ◌∙◌, ap}
use Prim.Native.Nat.{ℕ}
use borrow.Author.Tests.{ne_eqb, eq-eqb}
use Rattle.definition_replay.specs.Integers.{base_of}

-- THE BASE of a type, by its letter
pub base_none : (kind : ℕ) → (kind ≡ 0 → ⊥) → (kind ≡ 100 → ⊥) → (kind ≡ 98 → ⊥) → (kind ≡ 111 → ⊥) → (kind ≡ 120 → ⊥) → (kind ≡ 88 → ⊥) → 0 ≡ base_of kind
unfolding base_of
base_none kind a b c d e f = rw (ne_eqb kind 0 a, ne_eqb kind 100 b, ne_eqb kind 98 c, ne_eqb kind 111 d, ne_eqb kind 120 e, ne_eqb kind 88 f)

module _ (kind : ℕ) where
  pub base_plain : kind ≡ 0 → 10 ≡ base_of kind
  unfolding base_of
  base_plain e = rw (eq-eqb kind 0 e)

  pub base_letter : (n base : ℕ) → base ≡ base_of n → kind ≡ n → base ≡ base_of kind
  base_letter n base h e = h ∙ ap base_of (sym e)

pub base_d : 10 ≡ base_of 100
unfolding base_of
base_d = refl

pub base_b : 2 ≡ base_of 98
unfolding base_of
base_b = refl

pub base_o : 8 ≡ base_of 111
unfolding base_of
base_o = refl

pub base_x : 16 ≡ base_of 120
unfolding base_of
base_x = refl

pub base_X : 16 ≡ base_of 88
unfolding base_of
base_X = refl
