-- The word before an index, as it is looked for from the back. Assumes nothing.
use mathlib.Core.Path.{◌≡◌, refl}
use mathlib.Core.Bool.{true, false}
use mathlib.Core.List.{List, ◌∷◌}
use Prim.Native.Nat.{ℕ, zero, suc, ◌+◌, ◌-◌, ◌≤◌, ◌<◌}
use native.Mathlib.Omega.{arith}
use borrow.Author.Tests.{eqb-true, eqb-false}
use lib.Dec.{eqb}
use lib.ListN.{length}
use Rattle.definition.specs.Chars.{byte, part, ◌to◌, inside}
use Rattle.definition_scripts.specs.Keywords.{in_word, word_start, keywords, is_one_of, ends_in_keyword, known, may_stand}
use Rattle.definition.proofs.Moves.CharLaws.{cases}
use Rattle.definition_scripts_laws.proofs.Listing.WordLaws.{part_cons, part_none, word_on, word_ends, word_ahead, word_within_script}

module _ (s : List ℕ) where
  -- no byte of a word before i, one, or no byte
  pub word_here : (i : ℕ) → 0 < i → in_word (byte s (i - 1)) ≡ false → word_start s i ≡ i
  word_here zero h e = absurd (omega arith)
  word_here (suc i) h e = let k : suc i - 1 ≡ i = omega arith in word_ends s i (rw k at e)

  pub word_back : (i : ℕ) → 0 < i → in_word (byte s (i - 1)) ≡ true → word_start s i ≡ word_start s (i - 1)
  word_back zero h e = absurd (omega arith)
  word_back (suc i) h e = let k : suc i - 1 ≡ i = omega arith in rw k (word_on s i (rw k at e))

  pub word_front : (i : ℕ) → i ≤ 0 → word_start s i ≡ i
  word_front i h = let k = word_ahead s i in omega arith

  -- THE END OF A WORD, from i on
  module _ (i j : ℕ) where
    pub ends_here : i < j → j ≤ length s → is_one_of (part s i j) keywords ≡ true → ends_in_keyword (part s i j) ≡ true
    unfolding ends_in_keyword
    ends_here a b e = let p = part_cons s i j a (omega arith) in let f = rw p at e in rw (p, ends_in_keyword, f)

    pub ends_next : i < j → j ≤ length s → is_one_of (part s i j) keywords ≡ false → ends_in_keyword (part s i j) ≡ ends_in_keyword (part s (i + 1) j)
    unfolding ends_in_keyword
    ends_next a b e = let p = part_cons s i j a (omega arith) in let f = rw p at e in let k : i + 1 ≡ suc i = omega arith in rw (p, ends_in_keyword, f, k) refl

    pub ends_none : j ≤ i → ends_in_keyword (part s i j) ≡ false
    unfolding ends_in_keyword
    ends_none h = rw (part_none s i j h, ends_in_keyword) refl

  -- WHETHER THE WORD FROM w ON MAY STAND before i
  module _ (i w : ℕ) (e : w ≡ word_start s i) where
    pub may_none : w ≡ i → may_stand s i ≡ true
    unfolding may_stand known
    may_none h = rw (part_none s (word_start s i) i (omega arith), known) refl

    module _ (h : (w ≡ i → ⊥)) where
      pub word_some : (w < i) × (i ≤ length s)
      word_some = let k = word_ahead s i in let l : word_start s i < i = cases (eqb w i) (λ t. absurd (h (eqb-true w i t))) (λ t. let n = eqb-false w i t in omega arith) in (omega arith, word_within_script s i l)

      cons : part s (word_start s i) i ≡ byte s w ∷ part s (suc w) i
      cons = let k = word_some in rw (← e) (part_cons s w i k.0 (omega (arith, k.0, k.1)))

      pub may_keyword : is_one_of (part s w i) keywords ≡ true → may_stand s i ≡ true
      unfolding may_stand known
      may_keyword f = let k = word_some in let g = rw (part_cons s w i k.0 (omega (arith, k.0, k.1))) at f in rw (cons, known, g)

      module _ (f : is_one_of (part s w i) keywords ≡ false) where
        none : is_one_of (byte s w ∷ part s (suc w) i) keywords ≡ false
        none = let k = word_some in rw (part_cons s w i k.0 (omega (arith, k.0, k.1))) at f

        pub may_number : inside (48 to 57) (byte s w) ≡ true → may_stand s i ≡ ends_in_keyword (part s (w + 1) i)
        unfolding may_stand known
        may_number d = let k : w + 1 ≡ suc w = omega arith in rw (cons, known, none, d, k) refl

        pub may_not : inside (48 to 57) (byte s w) ≡ false → may_stand s i ≡ false
        unfolding may_stand known
        may_not d = rw (cons, known, none, d) refl
