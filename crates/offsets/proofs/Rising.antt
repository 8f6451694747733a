-- Offsets that rise, one by one. Assumes nothing.
use mathlib.Core.Path.{◌≡◌, refl, sym, ap, ◌∙◌}
use mathlib.Core.Bool.{true, false}
use mathlib.Core.List.{List}
use Prim.Native.Nat.{ℕ, ◌+◌, ◌≤◌, ◌<◌, zero-le}
use native.Mathlib.Numerals.{add-one}
use native.Mathlib.Omega.{arith}
use borrow.Author.Tests.{lt-ltb, le-ltb}
use lib.ListN.{length, drop, get_or, drop_of_length-le}
use lib.Seq.{drop-cons}
use Rattle.definition_cuts.specs.Cuts.{rise}

-- up to number k
pub record Rising (n : ℕ) (cuts : List ℕ) (from k : ℕ) : Type 0 where
  pub is : rise n 0 cuts ≡ rise n from (drop k cuts)
  pub few : k ≤ length cuts

pub rising : (n : ℕ) (cuts : List ℕ) → Rising n cuts 0 0
rising n cuts = record { is = refl; few = zero-le }

module _ (n : ℕ) (cuts : List ℕ) (from k : ℕ) (g : Rising n cuts from k) where
  pub risen : length cuts ≤ k → true ≡ rise n 0 cuts
  unfolding rise
  risen h = sym (g.is ∙ rw (drop_of_length-le cuts h) refl)

  module _ (h : k < length cuts) where
    pub not_after : get_or cuts k 0 ≤ from → false ≡ rise n 0 cuts
    unfolding rise
    not_after l = sym (g.is ∙ rw (drop-cons cuts k 0 h, le-ltb from (get_or cuts k 0) l, rise) refl)

    pub not_inside : from < get_or cuts k 0 → n ≤ get_or cuts k 0 → false ≡ rise n 0 cuts
    unfolding rise
    not_inside a l = sym (g.is ∙ rw (drop-cons cuts k 0 h, lt-ltb from (get_or cuts k 0) a, le-ltb (get_or cuts k 0) n l, rise) refl)

    pub rise_on : from < get_or cuts k 0 → get_or cuts k 0 < n → Rising n cuts (get_or cuts k 0) (k + 1)
    unfolding rise
    rise_on a b = record {
      is = g.is ∙ rw (drop-cons cuts k 0 h, lt-ltb from (get_or cuts k 0) a, lt-ltb (get_or cuts k 0) n b, rise) (ap (λ m. rise n (get_or cuts k 0) (drop m cuts)) (sym (add-one k)));
      few = omega arith;
    }
