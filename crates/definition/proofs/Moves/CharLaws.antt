-- Characters of any bytes: where one ends, and which of them are ASCII. Assumes nothing.
use Rattle.std.specs.Prelude.{if◌then◌else◌}
use mathlib.Core.Path.{◌≡◌, refl, sym, ◌∙◌, ap, ap₂, subst}
use mathlib.Core.Bool.{Bool, true, false, ◌&&◌, ◌||◌}
use mathlib.Core.List.{List, [], ◌∷◌}
use mathlib.Core.Option.{Option, none, some}
use Prim.Native.Nat.{ℕ, zero, suc, ◌+◌, ◌-◌, ◌≤◌, ◌<◌, max}
use native.Mathlib.Nat.{add_assoc, le_of_suc-le-suc, not-suc-le-zero}
use native.Mathlib.Numerals.{add-one}
use native.Mathlib.Omega.{arith, by_contra}
use borrow.Author.Tests.{ltb-true, ltb-false, leb-true, leb-false, le-leb, lt-leb, eqb-true, eqb-false, ne_eqb, eq-eqb}
use lib.Dec.{ltb, leb, eqb, lit≤}
use lib.ListN.{length, drop, get_or, drop_of_length-le, length-drop, get_or-eq_default}
use lib.Seq.{drop-cons, get_or-drop}
use Rattle.definition.specs.Chars.{byte, at_end, no_code, Range, ◌to◌, inside, inside_any, table37, following, follow, width, decoded, code, next, formed_from, well_formed, before, same}

-- a test is true or false
pub cases : {P : Type 0} (t : Bool) → (t ≡ true → P) → (t ≡ false → P) → P
cases true f g = f refl
cases false f g = g refl

pub no : {P : Type 0} → false ≡ true → P
no h = let z : ◌≡◌ {A = ℕ} 0 1 = cc in absurd (omega arith)

-- texts that are the same
pub same_true : (xs ys : List ℕ) → same xs ys ≡ true → xs ≡ ys
unfolding same
same_true [] [] t = refl
same_true [] (y ∷ ys) t = no t
same_true (x ∷ xs) [] t = no t
same_true (x ∷ xs) (y ∷ ys) t =
    cases (eqb x y)
    (λ u. let e : x ≡ y = eqb-true x y u in let r : xs ≡ ys = same_true xs ys (rw u at t) in rw (e, r))
    (λ u. no (rw u at t))

pub same_refl : (xs : List ℕ) → same xs xs ≡ true
unfolding same
same_refl [] = refl
same_refl (x ∷ xs) = rw (eq-eqb x x refl) (same_refl xs)

pub same_eq : (xs ys : List ℕ) → xs ≡ ys → same xs ys ≡ true
same_eq xs ys e = rw e (same_refl ys)

-- one of two tests is true
pub either : {P : Type 0} (x y : Bool) → (x || y) ≡ true → (x ≡ true → P) → (y ≡ true → P) → P
either true y e f g = f refl
either false y e f g = g e

-- what is within a range, and what is not
pub inside_true : (low high b : ℕ) → inside (low to high) b ≡ true → (low ≤ b) × (b ≤ high)
inside_true low high b t =
    cases (leb low b)
    (λ e. cases (leb b high) (λ f. (leb-true _ _ e, leb-true _ _ f)) (λ f. no (rw (e, f) at t)))
    (λ e. no (rw e at t))

pub inside_yes : (low high b : ℕ) → low ≤ b → b ≤ high → inside (low to high) b ≡ true
inside_yes low high b p q = rw (le-leb _ _ p, le-leb _ _ q)

pub inside_not : (low high b : ℕ) → (low ≤ b → b ≤ high → ⊥) → inside (low to high) b ≡ false
inside_not low high b f =
    cases (inside (low to high) b) (λ t. absurd (f (inside_true low high b t).0 (inside_true low high b t).1)) (λ t. t)

-- what is within none of the ranges
abbrev pub Apart : List Range → ℕ → Type 0
Apart [] b = Unit {0}
Apart ((low to high) ∷ rs) b = (low ≤ b → b ≤ high → ⊥) × Apart rs b

pub inside_none : (rs : List Range) (b : ℕ) → Apart rs b → inside_any rs b ≡ false
unfolding inside_any
inside_none [] b f = refl
inside_none ((low to high) ∷ rs) b f = rw (inside_not low high b f.0, inside_any) (inside_none rs b f.1)

-- within a list the default does not matter
pub byte_is : (s : List ℕ) (i : ℕ) → i < length s → get_or s i 0 ≡ byte s i
byte_is [] i h = absurd (not-suc-le-zero h)
byte_is (x ∷ s) zero h = refl
byte_is (x ∷ s) (suc i) h = byte_is s i (le_of_suc-le-suc h)

-- a byte that is there is below the end
pub byte_in : (s : List ℕ) (i : ℕ) → byte s i < 256 → i < length s
byte_in s i h =
    by_contra (suc i) (length s)
    (λ (k : length s < suc i). let e = get_or-eq_default s 256 (le_of_suc-le-suc k) in omega arith)

past_bytes : following table37 256 ≡ none
unfolding following table37
past_bytes = refl

-- what holds of each row, with its number from k on
abbrev pub Each : (ℕ → Range × List Range → Type 0) → ℕ → List (Range × List Range) → Type 0
Each Q k [] = Unit {0}
Each Q k (row ∷ rows) = Q k row × Each Q (suc k) rows

-- the character at i by its row
module _ (s : List ℕ) (i : ℕ) where
  -- the bytes from i + n on lie in the ranges
  abbrev pub Within : List Range → ℕ → Type 0
  Within [] n = Unit {0}
  Within ((low to high) ∷ rs) n = (low ≤ byte s (i + n)) × (byte s (i + n) ≤ high) × Within rs (n + 1)

  within : (rs : List Range) (n : ℕ) → follow rs s (i + n) ≡ true → Within rs n
  unfolding follow
  within [] n t = tt
  within ((low to high) ∷ rs) n t =
      cases (inside (low to high) (byte s (i + n)))
      (λ e.
      let h = inside_true low high (byte s (i + n)) e in
      (h.0, h.1, within rs (n + 1) (rw (e, add_assoc i n 1) at t)))
      (λ e. no (rw e at t))

  module _ (P : ℕ → Type 0) (none_is : P 0) where
    -- what the characters of a row have
    abbrev pub Of : ℕ → Range × List Range → Type 0
    Of j (low to high, rs) = low ≤ byte s i → byte s i ≤ high → Within rs 1 → P (suc (length rs))

    by_rows : (k : ℕ) (rows : List (Range × List Range)) → Each Of k rows → P (elim (following rows (byte s i)) [ none ↦ 0 | some rs ↦ if follow rs s (i + 1) then suc (length rs) else 0 ])
    unfolding following
    by_rows k [] e = none_is
    by_rows k ((low to high, rs) ∷ rows) e =
        cases (inside (low to high) (byte s i))
        (λ t.
        cases (follow rs s (i + 1))
        (λ f. let h = inside_true low high (byte s i) t in rw (t, f) (e.0 h.0 h.1 (within rs 1 f)))
        (λ f. rw (t, f) none_is))
        (λ t. rw t (by_rows (suc k) rows e.1))

    -- what holds of none, and of the characters of each row, holds of the one at i
    pub by_row : Each Of 1 table37 → P (width s i)
    unfolding width
    by_row e = by_rows 1 table37 e

  -- a byte that no character begins with
  abbrev Tail : ℕ → Type 0
  Tail j = (0x80 ≤ byte s j) × (byte s j ≤ 0xBF)

  -- what the character of n bytes at i has
  record Formed (n : ℕ) : Type 0 where
    short : n ≤ 4
    two : 1 < n → Tail (i + 1)
    three : 2 < n → Tail (i + 2)
    four : 3 < n → Tail (i + 3)
    wide : 0x80 ≤ byte s i → 0x80 ≤ decoded n s i

  formed : Formed (width s i)
  unfolding table37 decoded
  formed =
      by_row Formed (omega arith) (
        (λ l h w. omega arith),
        ((λ l h w. omega arith), ((λ l h w. omega arith), ((λ l h w. omega arith), ((λ l h w. omega arith), ((λ l h w. omega arith), ((λ l h w. omega arith), ((λ l h w. omega arith), ((λ l h w. omega arith), tt)))))))),
      )

  -- and none begins with such a byte
  pub tail_none : (0x80 ≤ byte s i) × (byte s i ≤ 0xBF) → width s i ≡ 0
  unfolding table37
  tail_none t =
      by_row (λ n. n ≡ 0) refl (
        (λ l h w. absurd (omega arith)),
        ((λ l h w. absurd (omega arith)), ((λ l h w. absurd (omega arith)), ((λ l h w. absurd (omega arith)), ((λ l h w. absurd (omega arith)), ((λ l h w. absurd (omega arith)), ((λ l h w. absurd (omega arith)), ((λ l h w. absurd (omega arith)), ((λ l h w. absurd (omega arith)), tt)))))))),
      )

  -- the next character begins later, and no later than the end
  pub next_past : i < length s → i < next s i
  unfolding next
  next_past h = rw (lt-leb _ _ h) (omega arith)

  pub next_from : i ≤ next s i
  unfolding next
  next_from = cases (at_end s i) (λ e. rw (e, next) (omega arith)) (λ e. rw (e, next) (omega arith))

  -- between a character's first byte and the next character
  pub between : (j : ℕ) → i < j → j < next s i → Tail j
  unfolding next
  between j l h = cases (at_end s i) (λ e. absurd (let k = rw (e, next) at h in omega arith)) (λ e. within_width (rw (e, next) at h))
    where
      is : (m : ℕ) → j ≡ m → Tail m → Tail j
      is m e t = subst (λ (x : ℕ). Tail x) (sym e) t

      within_width : j < i + max 1 (width s i) → Tail j
      within_width h =
          let f = formed in
          let k = f.short in
          cases (eqb j (i + 1))
          (λ t. let e = eqb-true j (i + 1) t in is (i + 1) e (f.two (omega arith)))
          (λ t.
          let n = eqb-false j (i + 1) t in
          cases (eqb j (i + 2))
          (λ u. let e = eqb-true j (i + 2) u in is (i + 2) e (f.three (omega arith)))
          (λ u. let m = eqb-false j (i + 2) u in is (i + 3) (omega arith) (f.four (omega arith))))

  pub next_in : i ≤ length s → next s i ≤ length s
  unfolding next
  next_in h = cases (at_end s i) (λ e. rw (e, next) h) (λ e. inside-next (leb-false _ _ e))
    where
      inside-next : i < length s → next s i ≤ length s
      inside-next l =
          by_contra (next s i) (length s)
          (λ (k : length s < next s i).
          let t = between (next s i - 1) (omega arith) (omega arith) in
          omega (arith, byte_in s (next s i - 1) (omega arith)))

  -- every character of more than a byte is above ASCII, and what stands past the end
  pub code_wide : 0x80 ≤ byte s i → 0x80 ≤ code s i
  unfolding code
  code_wide h = cases (at_end s i) (λ e. rw e (lit≤ tt)) (λ e. rw e (formed.wide h))

  -- past the end there is none
  pub width_end : length s ≤ i → width s i ≡ 0
  unfolding width
  width_end h = rw (get_or-eq_default s 256 h, past_bytes, width)

  pub code_end : length s ≤ i → code s i ≡ no_code
  unfolding code
  code_end h = rw (le-leb _ _ h)

  pub width_in : i ≤ length s → i + width s i ≤ length s
  unfolding next
  width_in h =
      cases (at_end s i) (λ e. rw (width_end (leb-true _ _ e)) (omega arith))
      (λ e. let k = rw (e, next) at (next_in h) in omega arith)

  pub step_in : i < length s → i + max 1 (width s i) ≤ length s
  step_in h = omega (arith, width_in (omega arith))

  -- an ASCII byte is a character
  module _ (h : byte s i < 0x80) where
    pub width_ascii : width s i ≡ 1
    unfolding width following follow table37
    width_ascii = rw (inside_yes 0 0x7F (byte s i) (omega arith) (omega arith), width, following)

    pub next_ascii : next s i ≡ i + 1
    unfolding next
    next_ascii = rw (lt-leb _ _ (byte_in s i (omega arith)), width_ascii)

    pub code_ascii : code s i ≡ byte s i
    unfolding code decoded
    code_ascii = rw (lt-leb _ _ (byte_in s i (omega arith)), width_ascii)

  -- so an ASCII code is told by the byte
  pub code_is : (a : ℕ) → a < 0x80 → eqb (code s i) a ≡ eqb (byte s i) a
  code_is a h =
      cases (ltb (byte s i) 0x80) (λ e. rw (code_ascii (ltb-true _ _ e)))
      (λ e.
      let l : 0x80 ≤ byte s i = ltb-false _ _ e in
      let k = code_wide l in
      rw (ne_eqb (code s i) a (omega arith), ne_eqb (byte s i) a (omega arith)))

before_most : (test : ℕ → Bool) (l : List ℕ) → before test l ≤ length l
unfolding before
before_most test [] = omega arith
before_most test (b ∷ l) = go (test b) refl (before_most test l)
  where
    go : (t : Bool) → test b ≡ t → before test l ≤ length l → before test (b ∷ l) ≤ length (b ∷ l)
    go true t ih = rw (t, before) (omega arith)
    go false t ih = rw (t, before) (omega arith)

-- what stands before the first byte that passes a test ends in the body
pub before_in : (test : ℕ → Bool) (s : List ℕ) (i : ℕ) → i ≤ length s → i + before test (drop i s) ≤ length s
before_in test s i h = omega (arith, before_most test (drop i s), length-drop i s)

-- it ends with the body, at a byte that passes, or later, whatever is read past the end
module _ (test : ℕ → Bool) (s : List ℕ) (i d : ℕ) where
  pub before_end : length s ≤ i → i + before test (drop i s) ≡ i
  unfolding before
  before_end h = rw (drop_of_length-le s h) (omega arith)

  pub before_here : i < length s → test (get_or s i d) ≡ true → i + before test (drop i s) ≡ i
  unfolding before
  before_here h t = rw (drop-cons s i d h) (rw (t, before) (omega arith))

  pub before_next : i < length s → test (get_or s i d) ≡ false → i + before test (drop i s) ≡ i + 1 + before test (drop (i + 1) s)
  unfolding before
  before_next h t = rw (drop-cons s i d h) (rw (t, before, add-one i) (omega arith))

-- no byte before it passes; it passes, if it is there
before_fails : (test : ℕ → Bool) (l : List ℕ) (k : ℕ) → k < before test l → test (get_or l k 256) ≡ false
unfolding before
before_fails test [] k h = absurd (not-suc-le-zero h)
before_fails test (b ∷ l) k h = go (test b) refl k h (before_fails test l)
  where
    go : (t : Bool) → test b ≡ t → (k : ℕ) → k < before test (b ∷ l) → ((j : ℕ) → j < before test l → test (get_or l j 256) ≡ false) → test (get_or (b ∷ l) k 256) ≡ false
    go true e k h ih = absurd (not-suc-le-zero (rw (e, before) at h))
    go false e zero h ih = e
    go false e (suc k) h ih = ih k (le_of_suc-le-suc (rw (e, before) at h))

before_passes : (test : ℕ → Bool) (l : List ℕ) → before test l < length l → test (get_or l (before test l) 256) ≡ true
unfolding before
before_passes test [] h = absurd (not-suc-le-zero h)
before_passes test (b ∷ l) h = go (test b) refl (before_passes test l)
  where
    go : (t : Bool) → test b ≡ t → (before test l < length l → test (get_or l (before test l) 256) ≡ true) → test (get_or (b ∷ l) (before test (b ∷ l)) 256) ≡ true
    go true e ih = rw (e, before) e
    go false e ih = rw (e, before) (ih (le_of_suc-le-suc (rw (e, before) at h)))

module _ (test : ℕ → Bool) (s : List ℕ) (i : ℕ) where
  pub first_fails : (m : ℕ) → i ≤ m → m < i + before test (drop i s) → test (byte s m) ≡ false
  first_fails m l h =
      let e : i + (m - i) ≡ m = omega arith in
      let f = before_fails test (drop i s) (m - i) (omega arith) in
      rw (get_or-drop i s (m - i) 256, e) at f

  pub first_passes : i + before test (drop i s) < length s → test (byte s (i + before test (drop i s))) ≡ true
  first_passes h =
      let f = before_passes test (drop i s) (omega (arith, length-drop i s)) in
      rw (get_or-drop i s (before test (drop i s)) 256) at f

-- WELL-FORMED TEXT: where no character begins, a tail stands
abbrev pub Utf8 : List ℕ → Type 0
Utf8 s = (i : ℕ) → i < length s → width s i ≡ 0 → (0x80 ≤ byte s i) × (byte s i ≤ 0xBF)

formed_heads : (n : ℕ) (s : List ℕ) (j : ℕ) → length s ≤ formed_from n s j → (i : ℕ) → j ≤ i → i < length s → width s i ≡ 0 → (0x80 ≤ byte s i) × (byte s i ≤ 0xBF)
unfolding formed_from next
formed_heads zero s j e i h l z = absurd (omega arith)
formed_heads (suc n) s j e i h l z = go (width s j) refl (formed_heads n s)
  where
    go : (w : ℕ) → width s j ≡ w → ((j : ℕ) → length s ≤ formed_from n s j → (i : ℕ) → j ≤ i → i < length s → width s i ≡ 0 → (0x80 ≤ byte s i) × (byte s i ≤ 0xBF)) → (0x80 ≤ byte s i) × (byte s i ≤ 0xBF)
    go zero w ih = let k = rw (w, formed_from) at e in absurd (omega arith)
    go (suc m) w ih =
        cases (ltb i (j + suc m))
        (λ t.
        cases (eqb i j) (λ q. let k = ap (width s) (eqb-true i j q) in absurd (omega arith))
        (λ q. let k = eqb-false i j q in let b = ltb-true i (j + suc m) t in between s j i (omega arith) (rw (lt-leb (length s) j (omega arith), w) (omega arith))))
        (λ t. ih (j + suc m) (rw (w, formed_from) at e) i (ltb-false _ _ t) l z)

pub formed_utf8 : (s : List ℕ) → length s ≤ well_formed s → Utf8 s
unfolding well_formed
formed_utf8 s h i l z = formed_heads (length s) s 0 h i (omega arith) l z

-- THE SAME BYTES ARE THE SAME CHARACTER: that of well-formed text at i, in front of another text
module _ (s t : List ℕ) (i : ℕ) (l : i < length s) (utf8 : Utf8 s) (same : (k n : ℕ) → k ≡ i + n → k < next s i → byte s k ≡ byte t n) where
  next_width : next s i ≡ i + max 1 (width s i)
  unfolding next
  next_width = rw (lt-leb (length s) i l) refl

  first_same : byte s i ≡ byte t 0
  first_same = same i 0 (omega arith) (next_past s i l)

  follow_same : (rs : List Range) (k n : ℕ) → k ≡ i + n → k + length rs ≤ next s i → follow rs s k ≡ follow rs t n
  unfolding follow
  follow_same [] k n e h = refl
  follow_same (r ∷ rs) k n e h = ap₂ (λ b f. inside r b && f) (same k n e (omega arith)) (follow_same rs (k + 1) (n + 1) (omega arith) (omega arith))

  pub width_same : width s i ≡ width t 0
  unfolding width
  width_same = go (width s i) refl
    where
      row : (w : ℕ) → width s i ≡ suc w → (o : Option (List Range)) → following table37 (byte s i) ≡ o → width s i ≡ width t 0
      row w e none f = let z = rw (f, width) at e in absurd (omega arith)
      row w e (some rs) f =
          cases (follow rs s (i + 1))
          (λ g.
          let z = rw (f, g, width) at e in
          rw (← first_same, f, ← follow_same rs (i + 1) 1 (omega arith) (omega (arith, next_width)), g, width) refl)
          (λ g. let z = rw (f, g, width) at e in absurd (omega arith))

      go : (w : ℕ) → width s i ≡ w → width s i ≡ width t 0
      go zero e = e ∙ sym (tail_none t 0 (rw first_same at (utf8 i l e)))
      go (suc w) e = row w e (following table37 (byte s i)) refl

  decoded_same : (n : ℕ) → i + n ≤ next s i → decoded n s i ≡ decoded n t 0
  unfolding decoded
  decoded_same zero h = refl
  decoded_same (suc zero) h = first_same
  decoded_same (suc (suc zero)) h = rw (first_same, same (i + 1) 1 (omega arith) (omega arith))
  decoded_same (suc (suc (suc zero))) h = rw (first_same, same (i + 1) 1 (omega arith) (omega arith), same (i + 2) 2 (omega arith) (omega arith))
  decoded_same (suc (suc (suc (suc n)))) h =
      rw (first_same, same (i + 1) 1 (omega arith) (omega arith), same (i + 2) 2 (omega arith) (omega arith), same (i + 3) 3 (omega arith) (omega arith))

  pub code_same : 0 < length t → code s i ≡ code t 0
  unfolding code
  code_same h =
      rw (lt-leb (length s) i l, lt-leb (length t) 0 h)
      (decoded_same (width s i) (omega (arith, next_width)) ∙ ap (λ n. decoded n t 0) width_same)

  pub next_same : 0 < length t → next s i ≡ i + next t 0
  unfolding next
  next_same h = next_width ∙ rw (lt-leb (length t) 0 h, width_same) (omega arith)
