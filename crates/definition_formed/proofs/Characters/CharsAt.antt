-- WHERE A CHARACTER BEGINS in well-formed text: the next one begins there too, and so does every ASCII byte; what lies between are whole characters. Assumes nothing.
use mathlib.Core.Path.{◌≡◌, refl, sym, ◌∙◌, ap, ap₂}
use mathlib.Core.List.{List, [], ◌++◌}
use Prim.Native.Nat.{ℕ, zero, suc, ◌+◌, ◌≤◌, ◌<◌}
use native.Mathlib.Nat.{sub_self, add-zero, add-sub_cancel_left}
use native.Mathlib.Omega.{arith, by_contra}
use lib.Dec.{ltb, eqb}
use lib.ListN.{length, take, drop, length-append, length-drop, take-append-drop}
use lib.Seq.{drop-drop, drop-append_seam, take-append_seam, length-take-le}
use borrow.Author.Tests.{le-leb, lt-leb, ltb-true, ltb-false, eqb-true, eqb-false}
use Rattle.definition.specs.Chars.{byte, part, width, next, char}
use Rattle.definition.proofs.Moves.CharLaws.{cases, next_past, between}
use Rattle.definition_laws.proofs.Moves.Adds.{part_split}
use Rattle.definition_formed.proofs.Characters.WholeChars.{Chars, no_char, more, chars_append, chars_one, width_front, width_after}

module _ (s : List ℕ) where
  -- a character begins at i, or the text ends there
  abbrev pub At : ℕ → Type 0
  At i = Chars (drop i s)

  width_drop : (i : ℕ) → i ≤ length s → width s i ≡ width (drop i s) 0
  width_drop i h =
      let e : length (take i s) + 0 ≡ i = omega (arith, length-take-le i s h) in
      ap₂ width (sym (take-append-drop i s)) (sym e) ∙ width_after (take i s) (drop i s) 0

  pub record Step (i : ℕ) : Type 0 where
    pub taken : Chars (char s i)
    pub rest : At (next s i)

  next_is : (i n : ℕ) → i < length s → width s i ≡ n → 0 < n → next s i ≡ i + n
  unfolding next
  next_is i n h e k = rw (lt-leb (length s) i h, e) (omega arith)

  next_end : (i : ℕ) → length s ≤ i → next s i ≡ i
  unfolding next
  next_end i h = rw (le-leb (length s) i h) refl

  char_is : (i n : ℕ) (c t : List ℕ) → next s i ≡ i + n → drop i s ≡ c ++ t → length c ≡ n → char s i ≡ c
  unfolding char
  char_is i n c t e f g = rw (e, add-sub_cancel_left, f, ← g) (take-append_seam c t)

  step : (i : ℕ) (l : List ℕ) → Chars l → drop i s ≡ l → Step i
  step i l no_char e =
      let d = ap length e in
      let h : length s ≤ i = omega (arith, length-drop i s) in
      let n : next s i ≡ i + 0 = next_end i h ∙ sym (add-zero i) in
      record { taken = rw (char_is i 0 [] [] n e refl) no_char; rest = rw (next_end i h, e) no_char }
  step i l (more c t w p) e =
      let b = w.some_bytes in
      let d = ap length e in
      let h : i < length s = omega (arith, length-drop i s, length-append c t) in
      let v : width s i ≡ length c = width_drop i (omega arith) ∙ ap (λ l. width l 0) e ∙ width_front c t w in
      let n : next s i ≡ i + length c = next_is i (length c) h v b in
      let r : drop (next s i) s ≡ t = ap (λ k. drop k s) n ∙ sym (drop-drop (length c) i s) ∙ ap (drop (length c)) e ∙ drop-append_seam c t in
      record { taken = rw (char_is i (length c) c t n e refl) (chars_one c w); rest = rw r p }

  pub at_step : (i : ℕ) → At i → Step i
  at_step i p = step i (drop i s) p refl

  -- AN ASCII BYTE is a character of its own: from a beginning up to it whole characters lie
  pub record Between (i j : ℕ) : Type 0 where
    pub passed : Chars (part s i j)
    pub there : At j

  same_place : (i j : ℕ) → i ≡ j → At i → Between i j
  same_place i j e p = record { passed = rw (e, sub_self j) no_char; there = rw e at p }

  pub to_ascii : (n i j : ℕ) → j ≤ i + n → At i → i ≤ j → j < length s → byte s j < 0x80 → Between i j
  unfolding char
  to_ascii zero i j f p h l b = same_place i j (omega arith) p
  to_ascii (suc n) i j f p h l b =
      cases (eqb i j) (λ e. same_place i j (eqb-true i j e) p)
      (λ e.
      let k = eqb-false i j e in
      let m : i < j = ne-lt i j h k in
      let q = at_step i p in
      let past = next_past s i (omega arith) in
      cases (ltb j (next s i))
      (λ t. let z = between s i j m (ltb-true j (next s i) t) in absurd (omega arith))
      (λ t.
      let o = ltb-false j (next s i) t in
      let r = to_ascii n (next s i) j (omega arith) q.rest o l b in
      record { passed = rw (part_split s i (next s i) j (omega arith) o) (chars_append (char s i) (part s (next s i) j) q.taken r.passed); there = r.there }))
    where
      ne-lt : (i j : ℕ) → i ≤ j → (i ≡ j → ⊥) → i < j
      ne-lt i j h k = by_contra (suc i) j (λ z. k (omega arith))
