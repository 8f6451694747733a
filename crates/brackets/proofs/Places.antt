-- Open brackets that lie in places: how many, one more and one less. Assumes nothing.
use mathlib.Core.Path.{◌≡◌, refl, sym, ap}
use mathlib.Core.List.{List, ◌∷◌}
use Prim.Native.Nat.{ℕ, zero, suc, ◌+◌, ◌-◌, ◌≤◌, ◌<◌}
use native.Mathlib.Numerals.{add-one, sub-one}
use native.Mathlib.Omega.{arith}
use borrow.Author.Tests.{ne_eqb}
use lib.Dec.{eqb}
use lib.ListN.{length, get_or, set}
use lib.Seq.{get_or-set_same, get_or-set_other}
use Rattle.definition.specs.Body.{outside}
use Rattle.brackets.specs.Brackets.{unpacked, brackets}

pub length_brackets : (n : ℕ) (places : List ℕ) → length (brackets n places) ≡ n
unfolding brackets
length_brackets zero places = refl
length_brackets (suc n) places = ap suc (length_brackets n places)

pub outside_brackets : (n : ℕ) (places : List ℕ) → outside (brackets n places) ≡ eqb n 0
unfolding brackets outside
outside_brackets zero places = refl
outside_brackets (suc n) places = sym (ne_eqb (suc n) 0 (λ (e : suc n ≡ 0). omega arith))

-- a place above those in use does not matter
brackets_set : (n m c : ℕ) (places : List ℕ) → n ≤ m → brackets n (set places m c) ≡ brackets n places
unfolding brackets
brackets_set zero m c places h = refl
brackets_set (suc n) m c places h =
    rw (get_or-set_other places m n c 0 (λ (e : n ≡ m). omega arith), brackets_set n m c places (omega arith))

-- one more, and one less
pub brackets_more : (n c : ℕ) (places : List ℕ) → n < length places → brackets (n + 1) (set places n c) ≡ unpacked c ∷ brackets n places
unfolding brackets
brackets_more n c places h = rw (add-one n, get_or-set_same places n c 0 h, brackets_set n n c places (omega arith))

pub brackets_less : (n : ℕ) (places : List ℕ) → 0 < n → brackets n places ≡ unpacked (get_or places (n - 1) 0) ∷ brackets (n - 1) places
unfolding brackets
brackets_less zero places h = absurd (omega arith)
brackets_less (suc n) places h = rw sub-one
