-- Words as numbers: they differ where the words do, and fit in 64 bits. Assumes nothing.
use mathlib.Core.Path.{◌≡◌, refl, ◌∙◌, ap}
use mathlib.Core.Bool.{Bool, true, false, ◌&&◌}
use mathlib.Core.List.{List, [], ◌∷◌}
use Prim.Native.Nat.{ℕ, zero, suc, ◌+◌, ◌-◌, ◌*◌, ◌≤◌, ◌<◌}
use Prim.Native.String.{String}
use native.Mathlib.Omega.{arith}
use borrow.Author.Tests.{eqb-true, eqb-false, eq-eqb, ne_eqb, ltb-true, ltb-false, lt-ltb, leb-true}
use lib.Dec.{eqb, ltb, leb}
use lib.ListN.{length, get_or, drop, length-take, length-drop}
use Rattle.definition.specs.Numbers.{◌among◌}
use Rattle.definition.specs.Chars.{ascii, part, same}
use Rattle.definition_scripts.specs.Keywords.{keywords, is_one_of}
use Rattle.definition.proofs.Moves.CharLaws.{cases, same_true, byte_is}
use Rattle.definition_laws.proofs.Moves.Cases.{and_both}
use Rattle.definition_laws.proofs.Moves.Moves.{part_short}
use Rattle.definition_scripts_laws.proofs.Listing.WordLaws.{part_cons, part_none}
use Rattle.words.specs.Packed.{packed, bytes, all_packed, packed_keywords}

-- at least 1, and less than two to the power of eight for each byte
packed_some : (w : List ℕ) → 1 ≤ packed w
unfolding packed
packed_some [] = omega arith
packed_some (c ∷ w) = omega (arith, packed_some w)

unfoldable top : ℕ → ℕ
top zero = 2
top (suc n) = top n * 256

top_some : (n : ℕ) → 2 ≤ top n
unfolding top
top_some zero = omega arith
top_some (suc n) = omega (arith, top_some n)

packed_below : (w : List ℕ) (n : ℕ) → bytes w ≡ true → length w ≤ n → packed w < top n
unfolding packed bytes top
packed_below [] n b h = omega (arith, top_some n)
packed_below (c ∷ w) zero b h = absurd (omega arith)
packed_below (c ∷ w) (suc n) b h = let e = and_both (ltb c 256) (bytes w) b in omega (arith, ltb-true c 256 e.0, packed_below w n e.1 (omega arith))

pub packed_fits : (s : List ℕ) (i j n : ℕ) → n ≡ packed (part s i j) → bytes (part s i j) ≡ true → j ≤ i + 5 → n < 2199023255552
unfolding top
packed_fits s i j n e b h = rw e (packed_below (part s i j) 5 b (omega (arith, part_short s i j)))

-- of no bytes
pub none_packed : (s : List ℕ) (i : ℕ) → (1 ≡ packed (part s i i)) × (bytes (part s i i) ≡ true)
unfolding packed bytes
none_packed s i = rw (part_none s i i (omega arith)) (refl, refl)

-- of all of them
pub whole_packed : (s : List ℕ) (from i end n : ℕ) → from ≤ i → i ≤ from → (n ≡ packed (part s i end)) × (bytes (part s i end) ≡ true) → (n ≡ packed (part s from end)) × (bytes (part s from end) ≡ true)
whole_packed s from i end n a b p = let e : from ≡ i = omega arith in rw e p

-- A BYTE MORE in front
pub packed_back : (s : List ℕ) (i j n : ℕ) → 0 < i → i ≤ j → j ≤ length s → n ≡ packed (part s i j) → bytes (part s i j) ≡ true → get_or s (i - 1) 0 < 256
    → (n * 256 + get_or s (i - 1) 0 ≡ packed (part s (i - 1) j)) × (bytes (part s (i - 1) j) ≡ true)
unfolding packed bytes
packed_back s i j n a b h e p k =
    let f : suc (i - 1) ≡ i = omega arith in
    let g = byte_is s (i - 1) (omega arith) in
    rw (part_cons s (i - 1) j (omega arith) (omega arith), f, ← g, packed, bytes, lt-ltb (get_or s (i - 1) 0) 256 k) (rw (← e) refl, p)

-- NUMBERS ARE EQUAL where words are the same
same_packed : (v w : List ℕ) → bytes v ≡ true → bytes w ≡ true → eqb (packed v) (packed w) ≡ same v w
unfolding packed bytes same
same_packed [] [] a b = refl
same_packed [] (d ∷ w) a b = ne_eqb 1 (packed w * 256 + d) (λ e. omega (arith, packed_some w))
same_packed (c ∷ v) [] a b = ne_eqb (packed v * 256 + c) 1 (λ e. omega (arith, packed_some v))
same_packed (c ∷ v) (d ∷ w) a b = go (eqb c d) refl (eqb (packed v) (packed w)) refl (same_packed v w x.1 y.1)
  where
    x : (ltb c 256 ≡ true) × (bytes v ≡ true)
    x = and_both (ltb c 256) (bytes v) a

    y : (ltb d 256 ≡ true) × (bytes w ≡ true)
    y = and_both (ltb d 256) (bytes w) b

    -- they differ in this byte or above it
    apart : (p q : ℕ) → c < 256 → d < 256 → (p ≡ q → c ≡ d → ⊥) → eqb (p * 256 + c) (q * 256 + d) ≡ false
    apart p q h k f =
        ne_eqb (p * 256 + c) (q * 256 + d)
        (λ e. cases (ltb p q) (λ t. let z = ltb-true p q t in omega arith)
        (λ t. let z = ltb-false p q t in cases (ltb q p) (λ u. let v = ltb-true q p u in omega arith) (λ u. let v = ltb-false q p u in f (omega arith) (omega arith))))

    go : (t : Bool) → eqb c d ≡ t → (u : Bool) → eqb (packed v) (packed w) ≡ u → u ≡ same v w → eqb (packed v * 256 + c) (packed w * 256 + d) ≡ (t && same v w)
    go true e true f r = eq-eqb (packed v * 256 + c) (packed w * 256 + d) (let g = eqb-true c d e in let h = eqb-true (packed v) (packed w) f in omega arith) ∙ r
    go true e false f r = apart (packed v) (packed w) (ltb-true c 256 x.0) (ltb-true d 256 y.0) (λ p q. eqb-false (packed v) (packed w) f p) ∙ r
    go false e u f r = apart (packed v) (packed w) (ltb-true c 256 x.0) (ltb-true d 256 y.0) (λ p q. eqb-false c d e q)

-- texts of at most six bytes
unfoldable fit : List String → Bool
fit [] = true
fit (k ∷ ks) = leb (length (ascii k)) 6 && bytes (ascii k) && fit ks

fit_one : (k : String) (ks : List String) → fit (k ∷ ks) ≡ true → (length (ascii k) ≤ 6) × (bytes (ascii k) ≡ true) × (fit ks ≡ true)
unfolding fit
fit_one k ks e =
    let a = and_both (leb (length (ascii k)) 6 && bytes (ascii k)) (fit ks) e in
    let b = and_both (leb (length (ascii k)) 6) (bytes (ascii k)) a.0 in
    (leb-true (length (ascii k)) 6 b.0, b.1, a.1)

packed_among : (w : List ℕ) (ks : List String) → bytes w ≡ true → fit ks ≡ true → packed w among all_packed ks ≡ is_one_of w ks
unfolding all_packed is_one_of
packed_among w [] b f = refl
packed_among w (k ∷ ks) b f = let h = fit_one k ks f in rw (same_packed w (ascii k) b h.1, packed_among w ks b h.2) refl

long_none : (w : List ℕ) (ks : List String) → fit ks ≡ true → 6 < length w → is_one_of w ks ≡ false
unfolding is_one_of
long_none w [] f l = refl
long_none w (k ∷ ks) f l =
    let h = fit_one k ks f in
    rw (long_none w ks h.2 l) (cases (same w (ascii k)) (λ t. let z = ap length (same_true w (ascii k) t) in absurd (omega arith)) (λ t. rw t))

keywords_fit : fit keywords ≡ true
unfolding fit keywords ascii bytes
keywords_fit = refl

-- BY ITS NUMBER, if it is not too long for a keyword
pub is_packed_is : (w : List ℕ) (n : ℕ) (r : Bool) → n ≡ packed w → bytes w ≡ true → r ≡ n among packed_keywords → r ≡ is_one_of w keywords
unfolding packed_keywords
is_packed_is w n r e b f = f ∙ ap (λ m. m among all_packed keywords) e ∙ packed_among w keywords b keywords_fit

pub too_long_lem : (s : List ℕ) (i j : ℕ) → j ≤ length s → 6 < j - i → is_one_of (part s i j) keywords ≡ false
too_long_lem s i j h l = long_none (part s i j) keywords keywords_fit (omega (arith, length-take (j - i) (drop i s), length-drop i s))
