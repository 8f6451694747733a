-- Each letter of a prefix is a word's byte. Assumes nothing.
use Rattle.std.specs.Prelude.{if◌then◌else◌}
use mathlib.Core.Path.{◌≡◌, refl, sym, ◌∙◌}
use mathlib.Core.Bool.{Bool, true, false, ◌&&◌, ◌||◌}
use Prim.Native.Nat.{ℕ}
use borrow.Author.Tests.{ne_eqb}
use lib.Dec.{eqb}
use Rattle.definition.specs.Chars.{◌is◌}
use Rattle.definition.proofs.Moves.CharLaws.{no}
use Rattle.definition_scripts.specs.Opening.{no_kind, is_word, one_letter, two_letters}

-- A BYTE OF NO WORD is no letter of a prefix
module _ (c : ℕ) (h : is_word c ≡ false) where
  unlike : (k : ℕ) → is_word k ≡ true → eqb c k ≡ false
  unlike k w = ne_eqb c k (λ e. no (sym h ∙ rw e w))

  pub one_none : one_letter c ≡ no_kind
  unfolding one_letter
  one_none = rw (unlike 102 refl, unlike 70 refl, unlike 98 refl, unlike 66 refl, unlike 114 refl, unlike 82 refl, unlike 117 refl, unlike 85 refl)

  pub first_none : (b : ℕ) → two_letters c b ≡ no_kind
  unfolding two_letters
  first_none b = rw (unlike 102 refl, unlike 70 refl, unlike 114 refl, unlike 82 refl, unlike 98 refl, unlike 66 refl)

  pub second_none : (a : ℕ) → two_letters a c ≡ no_kind
  unfolding two_letters
  second_none a = rw (unlike 114 refl, unlike 82 refl, unlike 102 refl, unlike 70 refl, unlike 98 refl, unlike 66 refl) (go (a is "fF") (a is "rR") (a is "bB"))
    where
      go : (x y z : Bool) → (if x && false || y && false then 4 else if z && false || y && false then 5 else no_kind) ≡ no_kind
      go true true true = refl
      go true true false = refl
      go true false true = refl
      go true false false = refl
      go false true true = refl
      go false true false = refl
      go false false true = refl
      go false false false = refl
