-- How many bytes begin a character: one by one, and in a part of a text. Assumes nothing.
use mathlib.Core.Path.{◌≡◌, refl, ◌∙◌, ap, ap₂}
use mathlib.Core.List.{List}
use Prim.Native.Nat.{ℕ, zero, suc, ◌+◌, ◌-◌, ◌≤◌}
use native.Mathlib.Omega.{arith}
use lib.ListN.{length, take, drop, length-take, length-drop}
use lib.Seq.{get_or-take, get_or-drop}
use Rattle.definition.specs.Chars.{byte, part, ◌to◌, inside}
use Rattle.definition.proofs.Moves.CharLaws.{cases}
use Rattle.counts.specs.Heads.{head_of, heads_from}

pub head_most : (b : ℕ) → head_of b ≤ 1
unfolding head_of
head_most b = cases (inside (0x80 to 0xBF) b) (λ t. rw t (omega arith)) (λ t. rw t (omega arith))

module _ (s : List ℕ) where
  -- bytes one after the other
  pub heads_append : (n m i : ℕ) → heads_from (n + m) s i ≡ heads_from n s i + heads_from m s (i + n)
  unfolding heads_from
  heads_append zero m i = let e : 0 + m ≡ m = omega arith in let f : i + 0 ≡ i = omega arith in rw (e, f) (omega arith)
  heads_append (suc n) m i =
      let e : suc n + m ≡ suc (n + m) = omega arith in
      let f : i + suc n ≡ i + 1 + n = omega arith in
      rw (e, f) (omega (arith, heads_append n m (i + 1)))

  pub heads_none : (i : ℕ) → heads_from (i - i) s i ≡ 0
  unfolding heads_from
  heads_none i = let e : i - i ≡ 0 = omega arith in rw e refl

  pub heads_on : (from i j : ℕ) → from ≤ i → i ≤ j → heads_from (j - from) s from ≡ heads_from (i - from) s from + heads_from (j - i) s i
  heads_on from i j h k =
      let e : j - from ≡ (i - from) + (j - i) = omega arith in
      let f : from + (i - from) ≡ i = omega arith in
      rw e (heads_append (i - from) (j - i) from ∙ ap (λ m. heads_from (i - from) s from + heads_from (j - i) s m) f)

  pub heads_next : (from i : ℕ) → from ≤ i → heads_from (i + 1 - from) s from ≡ heads_from (i - from) s from + head_of (byte s i)
  unfolding heads_from
  heads_next from i h = let e : i + 1 - i ≡ suc zero = omega arith in omega (arith, heads_on from i (i + 1) h (omega arith), ap (λ m. heads_from m s i) e)

  pub heads_most : (n i : ℕ) → heads_from n s i ≤ n
  unfolding heads_from head_of
  heads_most zero i = omega arith
  heads_most (suc n) i = cases (inside (0x80 to 0xBF) (byte s i)) (λ t. rw t (omega (arith, heads_most n (i + 1)))) (λ t. rw t (omega (arith, heads_most n (i + 1))))

-- in a part of a text, and so in the text
part_heads : (s : List ℕ) (i n k m : ℕ) → m + k ≤ n → heads_from k (take n (drop i s)) m ≡ heads_from k s (i + m)
unfolding heads_from
part_heads s i n zero m h = refl
part_heads s i n (suc k) m h =
    let e : i + (m + 1) ≡ i + m + 1 = omega arith in
    ap₂ (λ b f. head_of b + f) (get_or-take n (drop i s) m 256 (omega arith) ∙ get_or-drop i s m 256) (part_heads s i n k (m + 1) (omega arith) ∙ ap (heads_from k s) e)

pub heads_part : (s : List ℕ) (i j : ℕ) → j ≤ length s → heads_from (length (part s i j)) (part s i j) 0 ≡ heads_from (j - i) s i
heads_part s i j h =
    let w : length (part s i j) ≡ j - i = rw (length-take, length-drop) (omega arith) in
    let z : i + 0 ≡ i = omega arith in
    ap (λ m. heads_from m (part s i j) 0) w ∙ part_heads s i (j - i) (j - i) 0 (omega arith) ∙ ap (heads_from (j - i) s) z
