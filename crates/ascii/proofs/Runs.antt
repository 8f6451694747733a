-- Runs of bytes: none, one byte, and a run behind another. Assumes nothing.
use mathlib.Core.Path.{◌≡◌, refl, sym, ◌∙◌, ap, subst}
use mathlib.Core.Bool.{Bool, true, false}
use mathlib.Core.List.{List, [], ◌∷◌}
use Prim.Native.Nat.{ℕ, zero, suc, ◌+◌, ◌-◌, ◌≤◌, ◌<◌, min}
use native.Mathlib.Omega.{arith}
use borrow.Author.Tests.{ltb-true, ltb-false, lt-ltb, le-ltb, leb-true, leb-false}
use lib.Dec.{ltb, leb}
use lib.ListN.{length, take, drop, length-take, length-drop}
use lib.Seq.{get_or-take, get_or-drop}
use Rattle.definition.specs.Chars.{byte, part}
use Rattle.definition.proofs.Moves.CharLaws.{cases, no}
use Rattle.ascii.specs.Runs.{Below, Ascii, all_ascii}

module _ (s : List ℕ) where
  pub below_none : (n i j : ℕ) → j ≤ i → Below n s i j
  below_none n i j e k h l = absurd (omega arith)

  pub below_one : (n i : ℕ) → byte s i < n → Below n s i (i + 1)
  below_one n i p k h l = let e : i ≡ k = omega arith in subst (λ (x : ℕ). byte s x < n) e p

  pub below_append : (n m i j k : ℕ) → n ≤ m → Below n s i j → Below m s j k → Below m s i k
  below_append n m i j k e p q x h l =
      cases (ltb x j) (λ t. let b = p x h (ltb-true x j t) in omega arith) (λ t. q x (ltb-false x j t) l)

  pub ascii_none : (i : ℕ) → i ≤ length s → Ascii s i i
  ascii_none i h = record { on = omega arith; within = h; all = below_none 0x80 i i (omega arith) }

  pub ascii_on : (i j k : ℕ) → Ascii s i j → Below 0x80 s j k → j ≤ k → k ≤ length s → Ascii s i k
  ascii_on i j k a p h l = record { on = omega (arith, a.on); within = l; all = below_append 0x80 0x80 i j k (omega arith) a.all p }

  pub ascii_append : (i j k : ℕ) → Ascii s i j → Ascii s j k → Ascii s i k
  ascii_append i j k a b = ascii_on i j k a b.all b.on b.within

  pub ascii_more : (i j : ℕ) → Ascii s i j → j < length s → byte s j < 0x80 → Ascii s i (j + 1)
  ascii_more i j a h b = ascii_on i j (j + 1) a (below_one 0x80 j b) (omega arith) (omega arith)

-- a text that is all ASCII, and one that is not
pub all_below : (s : List ℕ) → Below 0x80 s 0 (length s) → all_ascii s ≡ true
unfolding all_ascii
all_below [] p = refl
all_below (b ∷ s) p = rw (lt-ltb b 0x80 (p 0 (omega arith) (omega arith)), all_below s (λ k h l. p (suc k) (omega arith) (omega arith)))

pub not_all : (s : List ℕ) (j : ℕ) → j < length s → 0x80 ≤ byte s j → all_ascii s ≡ false
unfolding all_ascii
not_all [] j h b = absurd (omega arith)
not_all (x ∷ s) zero h b = rw (le-ltb x 0x80 b)
not_all (x ∷ s) (suc j) h b = cases (ltb x 0x80) (λ t. rw (t, not_all s j (omega arith) b)) (λ t. rw t)

pub below_all : (s : List ℕ) → all_ascii s ≡ true → Below 0x80 s 0 (length s)
below_all s e k h l = cases (leb 0x80 (byte s k)) (λ t. no (sym (not_all s k l (leb-true _ _ t)) ∙ e)) (λ t. leb-false _ _ t)

-- a test that tells it
pub told_all : (s : List ℕ) (t : Bool) → (t ≡ true → Below 0x80 s 0 (length s)) → (t ≡ false → all_ascii s ≡ false) → t ≡ all_ascii s
told_all s true f g = sym (all_below s (f refl))
told_all s false f g = sym (g refl)

-- in a part of a text, and so in the text
module _ (s : List ℕ) (i n : ℕ) where
  pub below_part : (m r : ℕ) → r ≤ n → Below m (take n (drop i s)) 0 r → Below m s i (i + r)
  below_part m r h b k l g =
      let e : i + (k - i) ≡ k = omega arith in
      subst (λ (x : ℕ). x < m) (get_or-take n (drop i s) (k - i) 256 (omega arith) ∙ get_or-drop i s (k - i) 256 ∙ ap (byte s) e) (b (k - i) (omega arith) (omega arith))

  pub ascii_part : (r : ℕ) → i ≤ length s → Ascii (take n (drop i s)) 0 r → Ascii s i (i + r)
  ascii_part r h a =
      let w : r ≤ min n (length s - i) = rw (length-take, length-drop) at a.within in
      record { on = omega arith; within = omega arith; all = below_part 0x80 r (omega arith) a.all }

pub all_part : (s : List ℕ) (i : ℕ) {j : ℕ} → all_ascii (part s i j) ≡ true → i ≤ j → j ≤ length s → Below 0x80 s i j
all_part s i {j} e h l =
    let w : length (part s i j) ≡ j - i = rw (length-take, length-drop) (omega arith) in
    let z : i + (j - i) ≡ j = omega arith in
    subst (Below 0x80 s i) z (below_part s i (j - i) 0x80 (j - i) (omega arith) (subst (Below 0x80 (part s i j) 0) w (below_all (part s i j) e)))
