-- Bytes of which each fits the three before it are well-formed up to the start of the character that they leave open. Assumes nothing.
use Rattle.std.specs.Prelude.{if◌then◌else◌}
use mathlib.Core.Path.{◌≡◌, refl, sym, ◌∙◌, ap, subst}
use mathlib.Core.Bool.{Bool, true, false, ◌&&◌, ◌||◌, not}
use mathlib.Core.List.{List}
use Prim.Native.Nat.{ℕ, zero, suc, ◌+◌, ◌-◌, ◌≤◌, ◌<◌}
use native.Mathlib.Omega.{arith}
use borrow.Author.Tests.{le-leb, lt-leb, leb-true, leb-false, eqb-true, eqb-false, lt-ltb, le-ltb, ltb-true, ltb-false}
use lib.Dec.{T, leb, ltb, eqb, eqb→eq}
use lib.ListN.{length, get_or, replicate}
use Rattle.definition.specs.Chars.{byte, ◌to◌, inside, table37, ascii, follow, width}
use Rattle.definition.proofs.Moves.CharLaws.{cases, no, inside_yes, inside_not, inside_true, width_ascii, byte_is}
use Rattle.utf8.specs.Classes.{row_from, class_of, ranges}
use Rattle.ascii.specs.Runs.{Below}
use Rattle.prefixes.specs.Formed.{Formed}
use Rattle.prefixes.specs.Fits.{is_due, Fits, AllFit, Fitting, last_start}
use Rattle.utf8.proofs.Table.{at, both_left, both_right}
use Rattle.utf8.proofs.Classes.{mores, lows, highs, width_class}
use Rattle.prefixes.proofs.Formed.{more}

-- AN OPEN CHARACTER
module _ (z y x : ℕ) where
  pub due_one : 0xC2 ≤ x → is_due z y x ≡ true
  unfolding is_due
  due_one h = rw (le-leb _ _ h)

  pub due_two : 0xE0 ≤ y → is_due z y x ≡ true
  unfolding is_due
  due_two h = cases (leb 0xC2 x) (λ t. rw t) (λ t. rw (t, le-leb _ _ h))

  pub due_three : 0xF0 ≤ z → is_due z y x ≡ true
  unfolding is_due
  due_three h =
      cases (leb 0xC2 x) (λ t. rw t) (λ t. cases (leb 0xE0 y) (λ u. rw (t, u)) (λ u. rw (t, u, le-leb _ _ h)))

  pub due_none : x < 0xC2 → y < 0xE0 → z < 0xF0 → is_due z y x ≡ false
  unfolding is_due
  due_none h k l = rw (lt-leb _ _ h, lt-leb _ _ k, lt-leb _ _ l)

  pub due_free : is_due z y x ≡ false → (x < 0xC2) × (y < 0xE0) × (z < 0xF0)
  unfolding is_due
  due_free e =
      cases (leb 0xC2 x) (λ t. no (sym (rw t at e)))
      (λ t. cases (leb 0xE0 y) (λ u. no (sym (rw (t, u) at e))) (λ u. (leb-false _ _ t, leb-false _ _ u, leb-false 0xF0 z (rw (t, u) at e))))

-- FIRST BYTES C2 TO F4: how many bytes follow, and the second byte's range
abbrev more_after : ℕ → ℕ
more_after b = if ltb b 0xE0 then 1 else if ltb b 0xF0 then 2 else 3

abbrev pub least : ℕ → ℕ
least b = if eqb b 0xE0 then 0xA0 else if eqb b 0xF0 then 0x90 else 0x80

abbrev pub most : ℕ → ℕ
most b = if eqb b 0xED then 0x9F else if eqb b 0xF4 then 0x8F else 0xBF

-- the class of a first byte says the same
abbrev some_class : ℕ → Bool
some_class b = not (eqb (class_of b) 0)

abbrev many : ℕ → Bool
many b = eqb (get_or mores (class_of b) 0) (more_after b)

abbrev low : ℕ → Bool
low b = eqb (get_or lows (class_of b) 0) (least b)

abbrev high : ℕ → Bool
high b = eqb (get_or highs (class_of b) 0) (most b)

rule_holds : (b : ℕ) → b < 256 → T (not (inside (0xC2 to 0xF4) b) || some_class b && many b && low b && high b)
unfolding ascii class_of row_from table37
rule_holds b h = at (λ k x. not (inside (0xC2 to 0xF4) k) || some_class k && many k && low k && high k) (replicate 256 0) tt b h

wide : (s : List ℕ) (i : ℕ) → 0xC2 ≤ byte s i → byte s i ≤ 0xF4 → width s i ≡ (if follow (ranges (more_after (byte s i)) (least (byte s i)) (most (byte s i))) s (i + 1) then more_after (byte s i) + 1 else 0)
wide s i h k =
    let b = byte s i in
    let t : T (some_class b && many b && low b && high b) = rw (inside_yes 0xC2 0xF4 b h k) at (rule_holds b (omega arith)) in
    let u = both_left (some_class b && many b && low b) (high b) t in
    let v = both_left (some_class b && many b) (low b) u in
    rw (← eqb→eq (get_or mores (class_of b) 0) (more_after b) (both_right (some_class b) (many b) v), ← eqb→eq (get_or lows (class_of b) 0) (least b) (both_right (some_class b && many b) (low b) u), ← eqb→eq (get_or highs (class_of b) 0) (most b) (both_right (some_class b && many b && low b) (high b) t))
    (width_class s i (class_of b) refl (λ e. subst (λ (x : ℕ). T (not (eqb x 0))) e (both_left (some_class b) (many b) v)) (follow (ranges (get_or mores (class_of b) 0) (get_or lows (class_of b) 0) (get_or highs (class_of b) 0)) s (i + 1)) refl)

-- not both
pub not_both : {P Q : Type 0} (a b : Bool) → (P → a ≡ true) → (b ≡ false → Q) → (a && b) ≡ false → P → Q
not_both a b f g e p = g (rw (f p) at e)

-- WHAT FITS
module _ (z y x b : ℕ) (f : Fits z y x b) where
  goes : is_due z y x ≡ true → (0x80 ≤ b) × (b ≤ 0xBF)
  goes e = inside_true 0x80 0xBF b (sym f.goes_on ∙ e)

  begins : is_due z y x ≡ false → 0x80 ≤ b → 0xC2 ≤ b
  begins e h =
      cases (leb b 0xBF) (λ t. no (sym e ∙ (f.goes_on ∙ inside_yes 0x80 0xBF b h (leb-true b 0xBF t))))
      (λ t. f.not_c0 (leb-false b 0xBF t))

  second : 0xC2 ≤ x → inside (least x to most x) b ≡ true
  second h =
      let g = goes (due_one z y x h) in
      let r = f.second in
      inside_yes (least x) (most x) b
      (cases (eqb x 0xE0) (λ t. rw t (r.e0 (eqb-true _ _ t))) (λ t. cases (eqb x 0xF0) (λ u. rw (t, u) (r.f0 (eqb-true _ _ u))) (λ u. rw (t, u) g.0)))
      (cases (eqb x 0xED) (λ t. rw t (omega (arith, r.ed (eqb-true _ _ t)))) (λ t. cases (eqb x 0xF4) (λ u. rw (t, u) (omega (arith, r.f4 (eqb-true _ _ u)))) (λ u. rw (t, u) g.1)))

-- CHARACTERS OF TWO, THREE AND FOUR BYTES
module _ (s : List ℕ) (i : ℕ) where
  two : 0xC2 ≤ byte s i → byte s i < 0xE0 → inside (least (byte s i) to most (byte s i)) (byte s (i + 1)) ≡ true → width s i ≡ 2
  unfolding follow ranges
  two h k p = rw (wide s i h (omega arith)) (rw (lt-ltb _ _ k, follow, ranges) (rw p))

  three : 0xE0 ≤ byte s i → byte s i < 0xF0 → inside (least (byte s i) to most (byte s i)) (byte s (i + 1)) ≡ true → inside (0x80 to 0xBF) (byte s (i + 1 + 1)) ≡ true → width s i ≡ 3
  unfolding follow ranges
  three h k p q = rw (wide s i (omega arith) (omega arith)) (rw (le-ltb _ _ h, lt-ltb _ _ k, follow, ranges) (rw (p, q)))

  four : 0xF0 ≤ byte s i → byte s i ≤ 0xF4 → inside (least (byte s i) to most (byte s i)) (byte s (i + 1)) ≡ true → inside (0x80 to 0xBF) (byte s (i + 1 + 1)) ≡ true → inside (0x80 to 0xBF) (byte s (i + 1 + 1 + 1)) ≡ true → width s i ≡ 4
  unfolding follow ranges
  four h k p q r =
      let g : byte s i < 0xE0 → ⊥ = λ l. omega arith in
      rw (wide s i (omega arith) k) (rw (le-ltb (byte s i) 0xE0 (omega arith), le-ltb _ _ h, follow, ranges) (rw (p, q, r)))

  -- by the first byte, and the range of the second
  module _ (b low high : ℕ) (e : b ≡ byte s i) (l : low ≡ least b) (m : high ≡ most b) (p : inside (low to high) (byte s (i + 1)) ≡ true) (q : inside (0x80 to 0xBF) (byte s (i + 1 + 1)) ≡ true) where
    ranged : inside (least (byte s i) to most (byte s i)) (byte s (i + 1)) ≡ true
    ranged = subst (λ (x : ℕ). inside (least x to most x) (byte s (i + 1)) ≡ true) e (subst (λ (x : ℕ). inside (least b to x) (byte s (i + 1)) ≡ true) m (subst (λ (x : ℕ). inside (x to high) (byte s (i + 1)) ≡ true) l p))

    pub three_long : 0xE0 ≤ b → b < 0xF0 → width s i ≡ 3
    three_long h k = three (omega arith) (omega arith) ranged q

    pub four_long : 0xF0 ≤ b → b ≤ 0xF4 → inside (0x80 to 0xBF) (byte s (i + 1 + 1 + 1)) ≡ true → width s i ≡ 4
    four_long h k r = four (omega arith) (omega arith) ranged q r

-- WHERE THE LAST CHARACTER BEGINS, by the bytes at z, y and x, one after the other
module _ (s : List ℕ) (z y x : ℕ) (p : z + 1 ≡ y) (q : y + 1 ≡ x) where
  last_x : byte s (z + 2) ≡ byte s x
  last_x = let e : z + 2 ≡ x = omega arith in ap (byte s) e

  last_y : byte s (z + 1) ≡ byte s y
  last_y = ap (byte s) p

  open_one : 0xC2 ≤ byte s x → last_start s z ≡ x
  unfolding last_start
  open_one h = rw (last_x, le-leb _ _ h) (omega arith)

  open_two : byte s x < 0xC2 → 0xE0 ≤ byte s y → last_start s z ≡ y
  unfolding last_start
  open_two h k = rw (last_x, lt-leb _ _ h, last_y, le-leb _ _ k) p

  open_three : byte s x < 0xC2 → byte s y < 0xE0 → 0xF0 ≤ byte s z → last_start s z ≡ z
  unfolding last_start
  open_three h k l = rw (last_x, lt-leb _ _ h, last_y, lt-leb _ _ k, le-leb _ _ l)

  open_none : byte s x < 0xC2 → byte s y < 0xE0 → byte s z < 0xF0 → last_start s z ≡ x + 1
  unfolding last_start
  open_none h k l = rw (last_x, lt-leb _ _ h, last_y, lt-leb _ _ k, lt-leb _ _ l) (omega arith)

-- FROM THE END OF A CHARACTER ON, as long as bytes fit: z, y and x are before p
module _ (s : List ℕ) (i j : ℕ) (within : j + 3 ≤ length s) (fits : AllFit s i j) where
  fit : (z y x p : ℕ) → z + 1 ≡ y → y + 1 ≡ x → x + 1 ≡ p → i ≤ z → z < j → Fits (byte s z) (byte s y) (byte s x) (byte s p)
  fit z y x p e f g h k =
      let a : z + 2 ≡ x = omega arith in
      let b : z + 3 ≡ p = omega arith in
      rw (← e, ← a, ← b) (fits z h k)

  -- the text goes on at p, after z, y and x: what is to be shown there
  abbrev On : ℕ → ℕ → ℕ → ℕ → Type 0
  On z y x p = z ≤ j → byte s x < 0xC2 → byte s y < 0xE0 → byte s z < 0xF0 → Formed s p → Formed s (last_start s j)

  -- a character that is open at the end stays out
  stays : (z p : ℕ) → z ≡ j → last_start s z ≡ p → Formed s p → Formed s (last_start s j)
  stays z p e f t = rw (← e) (rw f t)

  -- CHARACTERS OF TWO, THREE AND FOUR BYTES AT p
  module _ (z y x p : ℕ) (e : z + 1 ≡ y) (f : y + 1 ≡ x) (g : x + 1 ≡ p) (h : i ≤ z) (k : z < j) (t : Formed s p) where
    in_second : y < j → 0xC2 ≤ byte s p → inside (least (byte s p) to most (byte s p)) (byte s (p + 1)) ≡ true
    in_second l b = second _ _ _ _ (fit y x p (p + 1) f g refl (omega arith) l) b

    goes_second : y < j → 0xC2 ≤ byte s p → (0x80 ≤ byte s (p + 1)) × (byte s (p + 1) ≤ 0xBF)
    goes_second l b = goes _ _ _ _ (fit y x p (p + 1) f g refl (omega arith) l) (due_one (byte s y) (byte s x) (byte s p) b)

    goes_third : x < j → 0xE0 ≤ byte s p → (0x80 ≤ byte s (p + 1 + 1)) × (byte s (p + 1 + 1) ≤ 0xBF)
    goes_third l b =
        goes _ _ _ _ (fit x p (p + 1) (p + 1 + 1) g refl refl (omega arith) l) (due_two (byte s x) (byte s p) (byte s (p + 1)) b)

    goes_fourth : p < j → 0xF0 ≤ byte s p → (0x80 ≤ byte s (p + 1 + 1 + 1)) × (byte s (p + 1 + 1 + 1) ≤ 0xBF)
    goes_fourth l b =
        goes _ _ _ _ (fit p (p + 1) (p + 1 + 1) (p + 1 + 1 + 1) refl refl refl (omega arith) l)
        (due_three (byte s p) (byte s (p + 1)) (byte s (p + 1 + 1)) b)

    -- the second, third or fourth byte is past the end, or within it
    with_second : 0xC2 ≤ byte s p → (y < j → Formed s (last_start s j)) → Formed s (last_start s j)
    with_second b r =
        cases (ltb y j) (λ u. r (ltb-true y j u))
        (λ u. let o = ltb-false y j u in stays y p (omega arith) (open_one s y x p f g b) t)

    with_third : 0xE0 ≤ byte s p → (y < j → x < j → Formed s (last_start s j)) → Formed s (last_start s j)
    with_third b r =
        with_second (omega arith)
        (λ l.
        let c = goes_second l (omega arith) in
        cases (ltb x j) (λ u. r l (ltb-true x j u))
        (λ u. let o = ltb-false x j u in stays x p (omega arith) (open_two s x p (p + 1) g refl (omega arith) b) t))

    with_fourth : 0xF0 ≤ byte s p → (y < j → x < j → p < j → Formed s (last_start s j)) → Formed s (last_start s j)
    with_fourth b r =
        with_third (omega arith)
        (λ l m.
        let c = goes_second l (omega arith) in
        let d = goes_third m (omega arith) in
        cases (ltb p j) (λ u. r l m (ltb-true p j u))
        (λ u. let o = ltb-false p j u in stays p p (omega arith) (open_three s p (p + 1) (p + 1 + 1) refl refl (omega arith) (omega arith) b) t))

    over_two : byte s x < 0xC2 → 0xC2 ≤ byte s p → byte s p < 0xE0 → On x p (p + 1) (p + 1 + 1) → Formed s (last_start s j)
    over_two a b c on =
        with_second b
        (λ l.
        let d = goes_second l b in
        let w = more s p 2 t (omega arith) (two s p b c (in_second l b)) (λ x. omega arith) in
        let n : p + 2 ≡ p + 1 + 1 = omega arith in
        on (omega arith) (omega arith) c (omega arith) (subst (Formed s) n w))

    over_three : 0xE0 ≤ byte s p → byte s p < 0xF0 → On p (p + 1) (p + 1 + 1) (p + 1 + 1 + 1) → Formed s (last_start s j)
    over_three b c on =
        with_third b
        (λ l m.
        let d = goes_second l (omega arith) in
        let o = goes_third m b in
        let w = more s p 3 t (omega arith) (three s p b c (in_second l (omega arith)) (inside_yes 0x80 0xBF (byte s (p + 1 + 1)) o.0 o.1)) (λ x. omega arith) in
        let n : p + 3 ≡ p + 1 + 1 + 1 = omega arith in
        on (omega arith) (omega arith) (omega arith) c (subst (Formed s) n w))

    over_four : 0xF0 ≤ byte s p → byte s p ≤ 0xF4 → On (p + 1) (p + 1 + 1) (p + 1 + 1 + 1) (p + 1 + 1 + 1 + 1) → Formed s (last_start s j)
    over_four b c on =
        with_fourth b
        (λ l m q.
        let d = goes_second l (omega arith) in
        let o = goes_third m (omega arith) in
        let r = goes_fourth q b in
        let w = more s p 4 t (omega arith) (four s p b c (in_second l (omega arith)) (inside_yes 0x80 0xBF (byte s (p + 1 + 1)) o.0 o.1) (inside_yes 0x80 0xBF (byte s (p + 1 + 1 + 1)) r.0 r.1)) (λ x. omega arith) in
        let n : p + 4 ≡ p + 1 + 1 + 1 + 1 = omega arith in
        on (omega arith) (omega arith) (omega arith) (omega arith) (subst (Formed s) n w))

  walk : (n z y x p : ℕ) → j ≤ z + n → z + 1 ≡ y → y + 1 ≡ x → x + 1 ≡ p → i ≤ z → On z y x p
  walk zero z y x p m e f g h k a b c t = stays z p (omega arith) (rw (open_none s z y x e f a b c) g) t
  walk (suc n) z y x p m e f g h k a b c t =
      cases (ltb z j)
      (λ u.
      let l = ltb-true z j u in
      let first = fit z y x p e f g h l in
      cases (ltb (byte s p) 0x80)
      (λ v.
      let o = ltb-true (byte s p) 0x80 v in
      walk n y x p (p + 1) (omega arith) f g refl (omega arith) (omega arith) (omega arith) (omega arith) (omega arith)
      (more s p 1 t (omega arith) (width_ascii s p o) (λ x. omega arith)))
      (λ v.
      let d = begins _ _ _ _ first (due_none (byte s z) (byte s y) (byte s x) a b c) (ltb-false (byte s p) 0x80 v) in
      cases (ltb (byte s p) 0xE0)
      (λ w.
      let o = ltb-true (byte s p) 0xE0 w in
      over_two z y x p e f g h l t a d o (walk n x p (p + 1) (p + 1 + 1) (omega arith) g refl refl (omega arith)))
      (λ w.
      let o = ltb-false (byte s p) 0xE0 w in
      cases (ltb (byte s p) 0xF0)
      (λ r. over_three z y x p e f g h l t o (ltb-true (byte s p) 0xF0 r) (walk n p (p + 1) (p + 1 + 1) (p + 1 + 1 + 1) (omega arith) refl refl refl (omega arith)))
      (λ r. over_four z y x p e f g h l t (ltb-false (byte s p) 0xF0 r) (omega (arith, first.small d)) (walk n (p + 1) (p + 1 + 1) (p + 1 + 1 + 1) (p + 1 + 1 + 1 + 1) (omega arith) refl refl refl (omega arith))))))
      (λ u. let o = ltb-false z j u in stays z p (omega arith) (rw (open_none s z y x e f a b c) g) t)

due_bytes : (s : List ℕ) (i : ℕ) → i + 3 ≤ length s → is_due (get_or s i 0) (get_or s (i + 1) 0) (get_or s (i + 2) 0) ≡ false → (byte s (i + 2) < 0xC2) × (byte s (i + 1) < 0xE0) × (byte s i < 0xF0)
due_bytes s i w d =
    due_free (byte s i) (byte s (i + 1)) (byte s (i + 2))
    (rw (← byte_is s i (omega arith), ← byte_is s (i + 1) (omega arith), ← byte_is s (i + 2) (omega arith)) d)

-- what fits after the end of a character is well-formed, but for a character that is open at the end
pub fitted : (s : List ℕ) (at i j : ℕ) → at ≡ i + 3 → Fitting s i j → is_due (get_or s i 0) (get_or s (i + 1) 0) (get_or s (i + 2) 0) ≡ false → Formed s at → Formed s (last_start s j)
fitted s at i j e f d t =
    let w = f.within in
    let o = f.on in
    let h = due_bytes s i (omega arith) d in
    let x : i + 1 + 1 ≡ i + 2 = omega arith in
    let p : at ≡ i + 2 + 1 = omega arith in
    walk s i j w f.all (j - i) i (i + 1) (i + 2) (i + 2 + 1) (omega arith) refl x refl (omega arith) o h.0 h.1 h.2 (subst (Formed s) p t)

-- RUNS OF BYTES THAT FIT
module _ (s : List ℕ) (i : ℕ) where
  pub all_none : (j : ℕ) → j ≤ i → AllFit s i j
  all_none j e k h l = absurd (omega arith)

  pub all_append : (j k : ℕ) → AllFit s i j → AllFit s j k → AllFit s i k
  all_append j k p q x h l = cases (ltb x j) (λ t. p x h (ltb-true x j t)) (λ t. q x (ltb-false x j t) l)

  pub all_more : (j : ℕ) → j + 3 < length s → AllFit s i j → Fits (get_or s j 0) (get_or s (j + 1) 0) (get_or s (j + 2) 0) (get_or s (j + 3) 0) → AllFit s i (j + 1)
  all_more j h p f =
      let one : Fits (byte s j) (byte s (j + 1)) (byte s (j + 2)) (byte s (j + 3)) = rw (← byte_is s j (omega arith), ← byte_is s (j + 1) (omega arith), ← byte_is s (j + 2) (omega arith), ← byte_is s (j + 3) h) f in
      all_append j (j + 1) p
      (λ x k l.
      let e : j ≡ x = omega arith in
      subst (λ (y : ℕ). Fits (byte s y) (byte s (y + 1)) (byte s (y + 2)) (byte s (y + 3))) e one)

-- a run of ASCII after no open character
module _ (s : List ℕ) (i : ℕ) (w : i + 67 ≤ length s) (d : is_due (get_or s i 0) (get_or s (i + 1) 0) (get_or s (i + 2) 0) ≡ false) (a : Below 0x80 s (i + 3) (i + 67)) where
  -- each byte is one of the first three, or ASCII
  at_byte : (m j : ℕ) → i ≤ j → j < i + 67 → 0x80 ≤ m → (j ≡ i → byte s i < m) → (j ≡ i + 1 → byte s (i + 1) < m) → (j ≡ i + 2 → byte s (i + 2) < m) → byte s j < m
  at_byte m j h l e p q r =
      cases (ltb j (i + 3))
      (λ t.
      let k = ltb-true j (i + 3) t in
      cases (eqb j i) (λ u. let o = eqb-true j i u in rw o (p o))
      (λ u.
      let o = eqb-false j i u in
      cases (eqb j (i + 1)) (λ v. let g = eqb-true j (i + 1) v in rw g (q g))
      (λ v. let f = eqb-false j (i + 1) v in let g : j ≡ i + 2 = omega arith in rw g (r g))))
      (λ t. let b = a j (ltb-false j (i + 3) t) l in omega arith)

  pub ascii_fits : AllFit s i (i + 64)
  ascii_fits k h l =
      let f = due_bytes s i (omega arith) d in
      let b = a (k + 3) (omega arith) (omega arith) in
      let x = at_byte 0xC2 (k + 2) (omega arith) (omega arith) (omega arith) (λ e. absurd (omega arith)) (λ e. absurd (omega arith)) (λ e. f.0) in
      let y = at_byte 0xE0 (k + 1) (omega arith) (omega arith) (omega arith) (λ e. absurd (omega arith)) (λ e. f.1) (λ e. omega (arith, f.0)) in
      let z = at_byte 0xF0 k (omega arith) (omega arith) (omega arith) (λ e. f.2) (λ e. omega (arith, f.1)) (λ e. omega (arith, f.0)) in
      record {
        goes_on = due_none (byte s k) (byte s (k + 1)) (byte s (k + 2)) x y z ∙ sym (inside_not 0x80 0xBF (byte s (k + 3)) (λ p q. omega arith));
        not_c0 = λ p. absurd (omega arith);
        small = λ p. absurd (omega arith);
        second = record { e0 = λ e. absurd (omega arith); f0 = λ e. absurd (omega arith); ed = λ e. absurd (omega arith); f4 = λ e. absurd (omega arith) };
      }

pub fitting_none : (s : List ℕ) (i : ℕ) → i + 3 ≤ length s → Fitting s i i
fitting_none s i h = record { on = omega arith; within = h; all = all_none s i i (omega arith) }

pub fitting_on : (s : List ℕ) (i j k : ℕ) → Fitting s i j → AllFit s j k → j ≤ k → k + 3 ≤ length s → Fitting s i k
fitting_on s i j k f a h l = record { on = omega (arith, f.on); within = l; all = all_append s i j k f.all a }
