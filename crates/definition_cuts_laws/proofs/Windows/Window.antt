-- Two texts that hold the same bytes in a window: the same characters, runs and parts stand there. Assumes nothing.
use mathlib.Core.Path.{◌≡◌, refl, sym, ◌∙◌, ap, ap₂}
use mathlib.Core.Bool.{Bool, true, false, ◌&&◌, ◌||◌}
use mathlib.Core.List.{List, [], ◌∷◌}
use mathlib.Core.Option.{Option, none, some}
use Prim.Native.Nat.{ℕ, zero, suc, ◌+◌, ◌-◌, ◌≤◌, ◌<◌, max}
use Prim.Native.Char.{code as code_of}
use Prim.Native.String.{String, [] as []ˢ, ◌∷◌ as ◌∷ˢ◌}
use native.Mathlib.Omega.{arith}
use borrow.Author.Tests.{lt-leb}
use lib.Dec.{eqb}
use lib.ListN.{length, take, drop}
use lib.Seq.{drop-cons}
use Rattle.definition.specs.Chars.{◌is◌, byte, part, at_end, Range, inside, table37, following, follow, width, decoded, code, next, char, before}
use Rattle.definition.proofs.Moves.CharLaws.{cases, tail_none, next_from, code_is, Utf8, before_here, before_next, first_fails, first_passes}

-- the bytes of s from `low` up to `top` are those of s', where p of s is p' of s' if p + a is p' + b
pub record Window (s s' : List ℕ) (a b low top : ℕ) : Type 0 where
  pub bytes : (p p' : ℕ) → p + a ≡ p' + b → low ≤ p → p < top → byte s p ≡ byte s' p'
  pub within : top ≤ length s
  pub within' : top + a ≤ length s' + b
  pub utf8 : Utf8 s

-- ASCII texts
abbrev pub Below : String → Type 0
Below []ˢ = Unit {0}
Below (c ∷ˢ t) = (code_of c < 0x80) × Below t

module _ (s s' : List ℕ) (a b low top : ℕ) (W : Window s s' a b low top) where
  -- p and p' are the same place
  abbrev pub At : (p p' : ℕ) → Type 0
  At p p' = (p + a ≡ p' + b) × (low ≤ p)

  module _ (p p' : ℕ) (m : At p p') (h : p < top) where
    pub in_left : p < length s
    in_left = omega (arith, W.within)

    pub in_right : p' < length s'
    in_right = omega (arith, W.within', m.0)

    pub not_end : at_end s p ≡ false
    not_end = lt-leb (length s) p in_left

    pub not_end' : at_end s' p' ≡ false
    not_end' = lt-leb (length s') p' in_right

    pub byte_like : byte s p ≡ byte s' p'
    byte_like = W.bytes p p' m.0 m.1 h

    pub eqb_like : (c : ℕ) → c < 0x80 → eqb (code s p) c ≡ eqb (code s' p') c
    eqb_like c l = code_is s p c l ∙ ap (λ x. eqb x c) byte_like ∙ sym (code_is s' p' c l)

    pub is_like : (t : String) → Below t → (code s p is t) ≡ (code s' p' is t)
    is_like []ˢ l = refl
    is_like (c ∷ˢ []ˢ) l = eqb_like (code_of c) l.0
    is_like (c ∷ˢ d ∷ˢ t) l = ap₂ ◌||◌ (eqb_like (code_of c) l.0) (is_like (d ∷ˢ t) l.1)

  follow_like : (rs : List Range) (p p' : ℕ) → At p p' → p + length rs ≤ top → follow rs s p ≡ follow rs s' p'
  unfolding follow
  follow_like [] p p' m h = refl
  follow_like (r ∷ rs) p p' m h =
      ap₂ (λ x f. inside r x && f) (byte_like p p' m (omega arith)) (follow_like rs (p + 1) (p' + 1) (omega (arith, m.0), omega (arith, m.1)) (omega arith))

  pub width_like : (p p' : ℕ) → At p p' → p < top → p + width s p ≤ top → width s p ≡ width s' p'
  unfolding width
  width_like p p' m h l = go (width s p) refl
    where
      first : byte s p ≡ byte s' p'
      first = byte_like p p' m h

      row : (w : ℕ) → width s p ≡ suc w → (o : Option (List Range)) → following table37 (byte s p) ≡ o → width s p ≡ width s' p'
      row w e none f = let z = rw (f, width) at e in absurd (omega arith)
      row w e (some rs) f =
          cases (follow rs s (p + 1))
          (λ g.
          let z = rw (f, g, width) at e in
          rw (← first, f, ← follow_like rs (p + 1) (p' + 1) (omega (arith, m.0), omega (arith, m.1)) (omega arith), g, width) refl)
          (λ g. let z = rw (f, g, width) at e in absurd (omega arith))

      go : (w : ℕ) → width s p ≡ w → width s p ≡ width s' p'
      go zero e = e ∙ sym (tail_none s' p' (rw first at (W.utf8 p (in_left p p' m h) e)))
      go (suc w) e = row w e (following table37 (byte s p)) refl

  module _ (p p' : ℕ) (m : At p p') (h : p < top) (l : next s p ≤ top) where
    next_width : next s p ≡ p + max 1 (width s p)
    unfolding next
    next_width = rw (not_end p p' m h) refl

    width_here : width s p ≡ width s' p'
    width_here = width_like p p' m h (omega (arith, next_width))

    next_width' : next s' p' ≡ p' + max 1 (width s p)
    unfolding next
    next_width' = rw (not_end' p p' m h, width_here) refl

    pub next_like : At (next s p) (next s' p')
    next_like = (omega (arith, next_width, next_width', m.0), omega (arith, next_width, m.1))

    decoded_like : (n : ℕ) → p + n ≤ top → decoded n s p ≡ decoded n s' p'
    unfolding decoded
    decoded_like zero g = refl
    decoded_like (suc zero) g = byte_like p p' m h
    decoded_like (suc (suc zero)) g = rw (byte_like p p' m h, byte_like (p + 1) (p' + 1) (omega (arith, m.0), omega (arith, m.1)) (omega arith))
    decoded_like (suc (suc (suc zero))) g =
        rw (byte_like p p' m h, byte_like (p + 1) (p' + 1) (omega (arith, m.0), omega (arith, m.1)) (omega arith), byte_like (p + 2) (p' + 2) (omega (arith, m.0), omega (arith, m.1)) (omega arith))
    decoded_like (suc (suc (suc (suc n)))) g =
        rw (byte_like p p' m h, byte_like (p + 1) (p' + 1) (omega (arith, m.0), omega (arith, m.1)) (omega arith), byte_like (p + 2) (p' + 2) (omega (arith, m.0), omega (arith, m.1)) (omega arith), byte_like (p + 3) (p' + 3) (omega (arith, m.0), omega (arith, m.1)) (omega arith))

    pub code_like : code s p ≡ code s' p'
    unfolding code
    code_like =
        rw (not_end p p' m h, not_end' p p' m h)
        (decoded_like (width s p) (omega (arith, next_width)) ∙ ap (λ n. decoded n s' p') width_here)

  -- parts
  take_like : (n p p' : ℕ) → At p p' → p + n ≤ top → take n (drop p s) ≡ take n (drop p' s')
  take_like zero p p' m h = refl
  take_like (suc n) p p' m h =
      let l : p < top = omega arith in
      ap (take (suc n)) (drop-cons s p 256 (in_left p p' m l))
      ∙ ap₂ (λ (x : ℕ) (r : List ℕ). x ∷ r) (byte_like p p' m l) (take_like n (suc p) (suc p') (omega (arith, m.0), omega (arith, m.1)) (omega arith))
      ∙ sym (ap (take (suc n)) (drop-cons s' p' 256 (in_right p p' m l)))

  pub part_like : (p p' q q' : ℕ) → At p p' → q + a ≡ q' + b → p ≤ q → q ≤ top → part s p q ≡ part s' p' q'
  part_like p p' q q' m e h l =
      let z : q' - p' ≡ q - p = omega (arith, m.0) in
      rw z (take_like (q - p) p p' m (omega arith))

  pub char_like : (p p' : ℕ) → At p p' → p < top → next s p ≤ top → char s p ≡ char s' p'
  unfolding char
  char_like p p' m h l = part_like p p' (next s p) (next s' p') m (next_like p p' m h l).0 (next_from s p) l

  -- the first byte that passes a test
  pub before_like : (test : ℕ → Bool) (n p p' : ℕ) → At p p' → before test (drop p s) ≡ n → p + n < top → before test (drop p' s') ≡ n
  before_like test n p p' m e h = go n p p' m (omega arith) e h
    where
      go : (n p p' : ℕ) → At p p' → p < top → before test (drop p s) ≡ n → p + n < top → before test (drop p' s') ≡ n
      go zero p p' m l e h =
          let t = first_passes test s p (omega (arith, in_left p p' m l)) in
          let z : p + before test (drop p s) ≡ p = omega arith in
          let u : test (byte s' p') ≡ true = ap test (sym (byte_like p p' m l)) ∙ (rw z at t) in
          omega (arith, before_here test s' p' 256 (in_right p p' m l) u)
      go (suc n) p p' m l e h =
          let t = first_fails test s p p (omega arith) (omega arith) in
          let u : test (byte s' p') ≡ false = ap test (sym (byte_like p p' m l)) ∙ t in
          let f = before_next test s p 256 (in_left p p' m l) t in
          let g = before_next test s' p' 256 (in_right p p' m l) u in
          let i = go n (p + 1) (p' + 1) (omega (arith, m.0), omega (arith, m.1)) (omega arith) (omega arith) (omega arith) in
          omega arith
