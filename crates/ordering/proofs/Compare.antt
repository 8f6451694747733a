-- Two names compared byte by byte. Assumes nothing.
use mathlib.Core.Path.{◌≡◌}
use mathlib.Core.Bool.{Bool, true, false}
use mathlib.Core.List.{List}
use Prim.Native.Nat.{ℕ, ◌+◌, ◌≤◌, ◌<◌}
use native.Mathlib.Omega.{arith}
use lib.Dec.{ltb}
use lib.ListN.{length, get_or, drop}
use borrow.Author.Tests.{ltb-true, ltb-false}
use Rattle.definition.proofs.Moves.CharLaws.{cases}
use Rattle.definition_names.specs.Names.{at_most, first_field}
use Rattle.definition_names.proofs.NameOrder.{first_less, first_more, first_same}
use Rattle.definition_names.proofs.NameFields.{up_to_end, up_to_mark, up_to_more}

-- the name from i of s on does not come after the one from j of t on
abbrev pub Before : List ℕ → ℕ → List ℕ → ℕ → Bool
Before s i t j = at_most (first_field (drop i s)) (first_field (drop j t))

module _ (s : List ℕ) (i : ℕ) (t : List ℕ) (j : ℕ) where
  pub first_ends : length s ≤ i → Before s i t j ≡ true
  unfolding at_most
  first_ends h = rw (up_to_end 59 s i h)

  module _ (in-i : i < length s) where
    pub first_marked : get_or s i 0 ≡ 59 → Before s i t j ≡ true
    unfolding at_most
    first_marked e = rw (up_to_mark 59 s i in-i e)

    module _ (x : get_or s i 0 ≡ 59 → ⊥) where
      pub second_ends : length t ≤ j → Before s i t j ≡ false
      unfolding at_most
      second_ends h = rw (up_to_more 59 s i in-i x, up_to_end 59 t j h)

      module _ (in-j : j < length t) where
        pub second_marked : get_or t j 0 ≡ 59 → Before s i t j ≡ false
        unfolding at_most
        second_marked e = rw (up_to_more 59 s i in-i x, up_to_mark 59 t j in-j e)

        module _ (y : get_or t j 0 ≡ 59 → ⊥) where
          pub less : get_or s i 0 < get_or t j 0 → Before s i t j ≡ true
          less h = rw (up_to_more 59 s i in-i x, up_to_more 59 t j in-j y) (first_less _ _ _ _ h)

          pub more : get_or t j 0 < get_or s i 0 → Before s i t j ≡ false
          more h = rw (up_to_more 59 s i in-i x, up_to_more 59 t j in-j y) (first_more _ _ _ _ h)

          pub unlike : (get_or s i 0 ≡ get_or t j 0 → ⊥) → Before s i t j ≡ ltb (get_or s i 0) (get_or t j 0)
          unlike n = cases (ltb (get_or s i 0) (get_or t j 0)) (λ e. rw e (less (ltb-true _ _ e))) (λ e. let h : get_or t j 0 < get_or s i 0 = omega (arith, ltb-false _ _ e, n) in rw e (more h))

          pub equal : get_or t j 0 ≤ get_or s i 0 → get_or s i 0 ≤ get_or t j 0 → Before s i t j ≡ Before s (i + 1) t (j + 1)
          equal h k = rw (up_to_more 59 s i in-i x, up_to_more 59 t j in-j y) (first_same _ _ _ _ (omega arith))
