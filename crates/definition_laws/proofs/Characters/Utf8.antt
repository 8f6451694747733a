-- UTF-8: the characters that table 3-7 has are the bytes that table 3-6 gives to the scalar values, and each decodes to its own. Assumes nothing.
use Rattle.std.specs.Prelude.{if◌then◌else◌}
use mathlib.Core.Path.{◌≡◌, refl, sym, ◌∙◌, ap, ap₂}
use mathlib.Core.Bool.{◌&&◌}
use mathlib.Core.List.{List, [], ◌∷◌, ◌++◌}
use mathlib.Core.Option.{Option, none, some}
use Prim.Native.Nat.{ℕ, zero, suc, ◌+◌, ◌-◌, ◌*◌, ◌/◌, ◌%◌, ◌≤◌, ◌<◌, max}
use native.Mathlib.Nat.{add_assoc, div-div-eq-div-mul}
use native.Mathlib.Numerals.{add-one}
use native.Mathlib.Omega.{arith, by_contra}
use borrow.Author.Tests.{ltb-true, ltb-false, lt-ltb, le-ltb, lt-leb}
use lib.Dec.{ltb, lit≤}
use lib.ListN.{length, take, drop, length-drop}
use lib.Seq.{drop-cons, get_or-drop}
use Rattle.definition.specs.Chars.{byte, Range, inside, ◌to◌, table37, following, follow, width, decoded, code, next, char, utf8}
use Rattle.definition.proofs.Moves.CharLaws.{inside_not, inside_yes, cases, by_row, width_ascii, width_end, width_in}

-- A SCALAR VALUE (the Unicode Standard, D76): any code up to 10FFFF but the surrogates
pub data Scalar (c : ℕ) : Type 0 where
  below : c < 0xD800 → Scalar c
  above : 0xE000 ≤ c → c ≤ 0x10FFFF → Scalar c

-- table 3-6 gives back the bytes that were decoded
abbrev two_of : ℕ → ℕ → ℕ
two_of a b = a % 32 * 64 + b % 64

abbrev three_of : ℕ → ℕ → ℕ → ℕ
three_of a b c = a % 16 * 4096 + b % 64 * 64 + c % 64

abbrev four_of : ℕ → ℕ → ℕ → ℕ → ℕ
four_of a b c d = a % 8 * 262144 + b % 64 * 4096 + c % 64 * 64 + d % 64

-- a byte of 80 to BF
abbrev Tail : ℕ → Type 0
Tail b = (0x80 ≤ b) × (b ≤ 0xBF)

two_bytes : (a b : ℕ) → (0xC2 ≤ a) × (a ≤ 0xDF) × Tail b → utf8 (two_of a b) ≡ a ∷ b ∷ []
unfolding utf8
two_bytes a b h =
    rw (le-ltb (two_of a b) 0x80 (omega arith), lt-ltb (two_of a b) 0x800 (omega arith))
    (let x : 0xC0 + two_of a b / 64 ≡ a = omega arith in let y : 0x80 + two_of a b % 64 ≡ b = omega arith in cc)

three_bytes : (a b c : ℕ) → (0xE0 ≤ a) × (a ≤ 0xEF) × Tail b × Tail c × (0x800 ≤ three_of a b c) → utf8 (three_of a b c) ≡ a ∷ b ∷ c ∷ []
unfolding utf8
three_bytes a b c h =
    rw (le-ltb (three_of a b c) 0x80 (omega arith), le-ltb (three_of a b c) 0x800 (omega arith), lt-ltb (three_of a b c) 0x10000 (omega arith))
    (let x : 0xE0 + three_of a b c / 4096 ≡ a = omega arith in
    let y : 0x80 + three_of a b c / 64 % 64 ≡ b = omega arith in
    let z : 0x80 + three_of a b c % 64 ≡ c = omega arith in cc)

four_bytes : (a b c d : ℕ) → (0xF0 ≤ a) × (a ≤ 0xF4) × Tail b × Tail c × Tail d × (0x10000 ≤ four_of a b c d) → utf8 (four_of a b c d) ≡ a ∷ b ∷ c ∷ d ∷ []
unfolding utf8
four_bytes a b c d h =
    rw (le-ltb (four_of a b c d) 0x80 (omega arith), le-ltb (four_of a b c d) 0x800 (omega arith), le-ltb (four_of a b c d) 0x10000 (omega arith))
    (let x : 0xF0 + four_of a b c d / 262144 % 8 ≡ a = omega arith in
    let y : 0x80 + four_of a b c d / 4096 % 64 ≡ b = omega arith in
    let z : 0x80 + four_of a b c d / 64 % 64 ≡ c = omega arith in
    let w : 0x80 + four_of a b c d % 64 ≡ d = omega arith in cc)

-- so many bytes from i on
unfoldable spelled : ℕ → List ℕ → ℕ → List ℕ
spelled zero s i = []
spelled (suc n) s i = byte s i ∷ spelled n s (i + 1)

-- the character of n bytes in front of s, if there is one: a scalar value, of which these are the bytes
abbrev Formed : List ℕ → ℕ → Type 0
Formed s n = 0 < n → Scalar (decoded n s 0) × (utf8 (decoded n s 0) ≡ spelled n s 0)

formed : (s : List ℕ) → Formed s (width s 0)
unfolding table37 decoded utf8 spelled
formed s =
    let a = byte s 0 in let b = byte s 1 in let c = byte s 2 in let d = byte s 3 in
    by_row s 0 (Formed s) (λ z. absurd (omega arith)) (
      (λ l h w z. (below (omega arith), rw (lt-ltb a 0x80 (omega arith)) refl)),
      ((λ l h w z. (below (omega arith), two_bytes a b (omega arith))), ((λ l h w z. (below (omega arith), three_bytes a b c (omega arith))), ((λ l h w z. (below (omega arith), three_bytes a b c (omega arith))), ((λ l h w z. (below (omega arith), three_bytes a b c (omega arith))), ((λ l h w z. (above (omega arith) (omega arith), three_bytes a b c (omega arith))), ((λ l h w z. (above (omega arith) (omega arith), four_bytes a b c d (omega arith))), ((λ l h w z. (above (omega arith) (omega arith), four_bytes a b c d (omega arith))), ((λ l h w z. (above (omega arith) (omega arith), four_bytes a b c d (omega arith))), tt)))))))),
    )

-- the same from a place on
module _ (s : List ℕ) (i : ℕ) where
  follow_drop : (rs : List Range) (n : ℕ) → follow rs (drop i s) n ≡ follow rs s (i + n)
  unfolding follow
  follow_drop [] n = refl
  follow_drop (r ∷ rs) n = ap₂ (λ b f. inside r b && f) (get_or-drop i s n 256) (follow_drop rs (n + 1) ∙ ap (follow rs s) (sym (add_assoc i n 1)))

  first_drop : byte (drop i s) 0 ≡ byte s i
  first_drop = let e : i + 0 ≡ i = omega arith in get_or-drop i s 0 256 ∙ ap (byte s) e

  width_drop : width (drop i s) 0 ≡ width s i
  unfolding width
  width_drop = rw (first_drop, width) (go (following table37 (byte s i)) refl)
    where
      go : (o : Option (List Range)) → following table37 (byte s i) ≡ o → elim (following table37 (byte s i)) [ none ↦ 0 | some rs ↦ if follow rs (drop i s) 1 then suc (length rs) else 0 ] ≡ width s i
      go none e = rw (e, width)
      go (some rs) e = rw (e, width) (rw (follow_drop rs 1))

  decoded_drop : (n : ℕ) → decoded n (drop i s) 0 ≡ decoded n s i
  unfolding decoded
  decoded_drop zero = refl
  decoded_drop (suc zero) = first_drop
  decoded_drop (suc (suc zero)) = rw (first_drop, get_or-drop i s 1 256)
  decoded_drop (suc (suc (suc zero))) = rw (first_drop, get_or-drop i s 1 256, get_or-drop i s 2 256)
  decoded_drop (suc (suc (suc (suc n)))) = rw (first_drop, get_or-drop i s 1 256, get_or-drop i s 2 256, get_or-drop i s 3 256)

spelled_take : (n : ℕ) (s : List ℕ) (i : ℕ) → i + n ≤ length s → spelled n s i ≡ take n (drop i s)
unfolding spelled
spelled_take zero s i h = refl
spelled_take (suc n) s i h = rw (drop-cons s i 256 (omega arith)) (rw (spelled_take n s (i + 1) (omega arith), add-one i))

-- WHAT TABLE 3-7 HAS: the character at a place of any text is the bytes that table 3-6 gives to its code, a scalar value
module _ (s : List ℕ) (i : ℕ) (h : 0 < width s i) where
  there : i < length s
  there = by_contra (suc i) (length s) (λ (k : length s < suc i). let e = width_end s i (omega arith) in omega arith)

  here : Formed (drop i s) (width s i)
  here = rw (width_drop s i) at (formed (drop i s))

  code_here : code s i ≡ decoded (width s i) (drop i s) 0
  unfolding code
  code_here = rw (lt-leb (length s) i there, decoded_drop s i (width s i))

  pub character_scalar : Scalar (code s i)
  character_scalar = rw code_here (here h).0

  pub character_bytes : char s i ≡ utf8 (code s i)
  unfolding char next
  character_bytes =
      let e : i + max 1 (width s i) - i ≡ width s i = omega arith in
      let k = width_in s i (omega (arith, there)) in
      rw (code_here, (here h).1, spelled_take (width s i) (drop i s) 0 (omega (arith, length-drop i s)), lt-leb (length s) i there, e)

-- every code has a byte or more
some_bytes : (c : ℕ) → 0 < length (utf8 c)
unfolding utf8
some_bytes c =
    cases (ltb c 0x80) (λ e. rw e (lit≤ tt))
    (λ e. cases (ltb c 0x800) (λ f. rw (e, f) (lit≤ tt)) (λ f. cases (ltb c 0x10000) (λ g. rw (e, f, g) (lit≤ tt)) (λ g. rw (e, f, g) (lit≤ tt))))

-- x is past the first rows, and within the next: that one has it
abbrev Past : ℕ → List (Range × List Range) → ℕ → Type 0
Past zero rows x = Unit {0}
Past (suc n) [] x = Unit {0}
Past (suc n) ((low to high, rs) ∷ rows) x = (high < x) × Past n rows x

past : (n : ℕ) (rows : List (Range × List Range)) (x : ℕ) → Past n rows x → following rows x ≡ following (drop n rows) x
unfolding following
past zero rows x h = refl
past (suc n) [] x h = refl
past (suc n) ((low to high, rs) ∷ rows) x h = rw (inside_not low high x (λ l k. omega arith), following) (past n rows x h.1)

found : (low high : ℕ) (rs : List Range) (rows : List (Range × List Range)) (x : ℕ) → (low ≤ x) × (x ≤ high) → following ((low to high, rs) ∷ rows) x ≡ some rs
unfolding following
found low high rs rows x h = rw (inside_yes low high x h.0 h.1, following)

-- the character in front of s, by its width
record Front (c : ℕ) (s : List ℕ) (n : ℕ) : Type 0 where
  wide : width s 0 ≡ n
  is : decoded n s 0 ≡ c

abbrev InFront : ℕ → List ℕ → Type 0
InFront c t = Front c (utf8 c ++ t) (length (utf8 c))

-- four bytes decode to their code, by digits to base 64
six_bits : (m : ℕ) → (0x80 + m % 64) % 64 ≡ m % 64
six_bits m = omega arith

digits : (c : ℕ) → c / 64 / 64 / 64 * 262144 + c / 64 / 64 % 64 * 4096 + c / 64 % 64 * 64 + c % 64 ≡ c
digits c = omega arith

four_decoded : (c : ℕ) → c ≤ 0x10FFFF → four_of (0xF0 + c / 262144 % 8) (0x80 + c / 4096 % 64) (0x80 + c / 64 % 64) (0x80 + c % 64) ≡ c
four_decoded c h =
    let e : (0xF0 + c / 262144 % 8) % 8 ≡ c / 262144 = omega arith in
    rw (e, six_bits (c / 4096), six_bits (c / 64), six_bits c) (simp div-div-eq-div-mul at (digits c))

module _ (c : ℕ) (t : List ℕ) where
  one_front : c < 0x80 → InFront c t
  unfolding utf8 decoded
  one_front p = rw (lt-ltb c 0x80 p) (record { wide = width_ascii (c ∷ t) 0 p; is = refl })

  two_front : 0x80 ≤ c → c < 0x800 → InFront c t
  unfolding utf8 width decoded follow table37
  two_front p q =
      let x = 0xC0 + c / 64 in
      let f : following table37 x ≡ some (0x80 to 0xBF ∷ []) = past 1 table37 x (omega arith) ∙ found _ _ _ _ x (omega arith) in
      rw (le-ltb c 0x80 p, lt-ltb c 0x800 q)
      (record { wide = rw (f, inside_yes 0x80 0xBF (0x80 + c % 64) (omega arith) (omega arith), width); is = omega arith })

  -- of the row whose second bytes are low to high
  three_front : (low high : ℕ) → (0x800 ≤ c) × (c < 0x10000) × (low ≤ 0x80 + c / 64 % 64) × (0x80 + c / 64 % 64 ≤ high) → following table37 (0xE0 + c / 4096) ≡ some (low to high ∷ 0x80 to 0xBF ∷ []) → InFront c t
  unfolding utf8 width decoded follow
  three_front low high h f =
      rw (le-ltb c 0x80 (omega arith), le-ltb c 0x800 h.0, lt-ltb c 0x10000 h.1)
      (record { wide = rw (f, inside_yes low high (0x80 + c / 64 % 64) h.2 h.3, inside_yes 0x80 0xBF (0x80 + c % 64) (omega arith) (omega arith), width); is = omega arith })

  four_front : (low high : ℕ) → (0x10000 ≤ c) × (c ≤ 0x10FFFF) × (low ≤ 0x80 + c / 4096 % 64) × (0x80 + c / 4096 % 64 ≤ high) → following table37 (0xF0 + c / 262144 % 8) ≡ some (low to high ∷ 0x80 to 0xBF ∷ 0x80 to 0xBF ∷ []) → InFront c t
  unfolding utf8 width decoded follow
  four_front low high h f =
      rw (le-ltb c 0x80 (omega arith), le-ltb c 0x800 (omega arith), le-ltb c 0x10000 h.0)
      (record { wide = rw (f, inside_yes low high (0x80 + c / 4096 % 64) h.2 h.3, inside_yes 0x80 0xBF (0x80 + c / 64 % 64) (omega arith) (omega arith), inside_yes 0x80 0xBF (0x80 + c % 64) (omega arith) (omega arith), width); is = four_decoded c h.1 })

  -- the rows of three and of four bytes
  e0_front : 0x800 ≤ c → c < 0x1000 → InFront c t
  unfolding table37
  e0_front p q = let x = 0xE0 + c / 4096 in three_front 0xA0 0xBF (omega arith) (past 2 table37 x (omega arith) ∙ found _ _ _ _ x (omega arith))

  e1_front : 0x1000 ≤ c → c < 0xD000 → InFront c t
  unfolding table37
  e1_front p q = let x = 0xE0 + c / 4096 in three_front 0x80 0xBF (omega arith) (past 3 table37 x (omega arith) ∙ found _ _ _ _ x (omega arith))

  ed_front : 0xD000 ≤ c → c < 0xD800 → InFront c t
  unfolding table37
  ed_front p q = let x = 0xE0 + c / 4096 in three_front 0x80 0x9F (omega arith) (past 4 table37 x (omega arith) ∙ found _ _ _ _ x (omega arith))

  ee_front : 0xE000 ≤ c → c < 0x10000 → InFront c t
  unfolding table37
  ee_front p q = let x = 0xE0 + c / 4096 in three_front 0x80 0xBF (omega arith) (past 5 table37 x (omega arith) ∙ found _ _ _ _ x (omega arith))

  f0_front : 0x10000 ≤ c → c < 0x40000 → InFront c t
  unfolding table37
  f0_front p q = let x = 0xF0 + c / 262144 % 8 in four_front 0x90 0xBF (omega arith) (past 6 table37 x (omega arith) ∙ found _ _ _ _ x (omega arith))

  f1_front : 0x40000 ≤ c → c < 0x100000 → InFront c t
  unfolding table37
  f1_front p q = let x = 0xF0 + c / 262144 % 8 in four_front 0x80 0xBF (omega arith) (past 7 table37 x (omega arith) ∙ found _ _ _ _ x (omega arith))

  f4_front : 0x100000 ≤ c → c ≤ 0x10FFFF → InFront c t
  unfolding table37
  f4_front p q = let x = 0xF0 + c / 262144 % 8 in four_front 0x80 0x8F (omega arith) (past 8 table37 x (omega arith) ∙ found _ _ _ _ x (omega arith))

  -- by the size of the code
  small_front : c < 0xD800 → InFront c t
  small_front h =
      cases (ltb c 0x80) (λ e. one_front (ltb-true _ _ e))
      (λ e. cases (ltb c 0x800) (λ f. two_front (ltb-false _ _ e) (ltb-true _ _ f))
      (λ f. cases (ltb c 0x1000) (λ g. e0_front (ltb-false _ _ f) (ltb-true _ _ g))
      (λ g. cases (ltb c 0xD000) (λ k. e1_front (ltb-false _ _ g) (ltb-true _ _ k)) (λ k. ed_front (ltb-false _ _ k) h))))

  large_front : 0xE000 ≤ c → c ≤ 0x10FFFF → InFront c t
  large_front h k =
      cases (ltb c 0x10000) (λ e. ee_front h (ltb-true _ _ e))
      (λ e. cases (ltb c 0x40000) (λ f. f0_front (ltb-false _ _ e) (ltb-true _ _ f))
      (λ f. cases (ltb c 0x100000) (λ g. f1_front (ltb-false _ _ f) (ltb-true _ _ g)) (λ g. f4_front (ltb-false _ _ g) k)))

  front : Scalar c → InFront c t
  front (below h) = small_front h
  front (above h k) = large_front h k

-- WHAT TABLE 3-6 GIVES: where the bytes of a scalar value stand, table 3-7 has a character of that width, and it decodes to that value
module _ (c : ℕ) (scalar : Scalar c) (s : List ℕ) (i : ℕ) (t : List ℕ) (stands : drop i s ≡ utf8 c ++ t) where
  pub scalar_width : width s i ≡ length (utf8 c)
  scalar_width = sym (width_drop s i) ∙ rw stands (front c t scalar).wide

  pub scalar_code : code s i ≡ c
  scalar_code =
      let w = scalar_width in
      code_here s i (rw w (some_bytes c)) ∙ rw (w, stands) (front c t scalar).is
