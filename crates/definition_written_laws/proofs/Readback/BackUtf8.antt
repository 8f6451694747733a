-- The spelling of well-formed texts is well-formed. Assumes nothing.
use mathlib.Core.Path.{◌≡◌, refl, sym, ◌∙◌, ap, subst}
use mathlib.Core.Bool.{true}
use mathlib.Core.List.{List, [], ◌∷◌, ◌++◌, append_assoc, append-nil}
use Prim.Native.Nat.{ℕ, zero, suc, ◌≤◌, ◌<◌}
use native.Mathlib.Omega.{arith}
use lib.Dec.{ltb, eqb}
use lib.ListN.{length}
use borrow.Author.Tests.{ltb-true, ltb-false, leb-true, lt-leb, ne_eqb}
use Rattle.definition.specs.Chars.{◌is◌, byte, next, well_formed}
use Rattle.definition.specs.Words.{is_conversion}
use Rattle.definition_formed.specs.Formed.{is_utf8}
use Rattle.definition_written.specs.Written.{Content, empty, says, puts, forms, Where, top, early, late, past_field, spelled_byte, spelled_text, spelled_conversion, spelled}
use Rattle.definition.proofs.Moves.CharLaws.{cases, between, width_ascii}
use Rattle.definition_laws.proofs.Moves.Adds.{one_of_lem}
use Rattle.definition_formed.proofs.Characters.WholeChars.{Whole, Chars, no_char, more, chars_append, chars_one, chars_utf8}

-- an ASCII byte in front
ascii_more : (b : ℕ) {t : List ℕ} → b < 0x80 → Chars t → Chars (b ∷ t)
ascii_more b {t} h r = more (b ∷ []) t (record { some_bytes = omega arith; wide = width_ascii (b ∷ []) 0 h }) r

-- SPELLED TEXT
pub spelled_append : (w : Where) (s t : List ℕ) → spelled_text w (s ++ t) ≡ spelled_text w s ++ spelled_text w t
unfolding spelled_text
spelled_append w [] t = refl
spelled_append w (b ∷ s) t = ap (λ z. spelled_byte w b ++ z) (spelled_append w s t) ∙ sym (append_assoc (spelled_byte w b) (spelled_text w s) (spelled_text w t))

high_spelled : (w : Where) (b : ℕ) → 0x80 ≤ b → spelled_byte w b ≡ b ∷ []
unfolding spelled_byte
high_spelled top b h = rw (ne_eqb b 123 (omega arith), ne_eqb b 125 (omega arith), ne_eqb b 92 (omega arith)) refl
high_spelled early b h = refl
high_spelled late b h = rw (ne_eqb b 123 (omega arith), ne_eqb b 125 (omega arith), ne_eqb b 92 (omega arith)) refl

highs_spelled : (w : Where) (c : List ℕ) → ((k : ℕ) → k < length c → 0x80 ≤ byte c k) → spelled_text w c ≡ c
unfolding spelled_text
highs_spelled w [] h = refl
highs_spelled w (b ∷ c) h = rw (high_spelled w b (h 0 (omega arith)), highs_spelled w c (λ k l. h (suc k) (omega arith))) refl

byte_chars : (w : Where) (b : ℕ) → b < 0x80 → Chars (spelled_byte w b)
unfolding spelled_byte
byte_chars top b h = cases (b is "{}\\") (λ e. rw e (ascii_more b h (ascii_more b h no_char))) (λ e. rw e (ascii_more b h no_char))
byte_chars early b h = ascii_more b h no_char
byte_chars late b h =
    cases (eqb b 92) (λ e. rw e (ascii_more b h (ascii_more b h no_char)))
    (λ e. cases (eqb b 123) (λ f. rw (e, f) (hex 98 (omega arith))) (λ f. cases (eqb b 125) (λ g. rw (e, f, g) (hex 100 (omega arith))) (λ g. rw (e, f, g) (ascii_more b h no_char))))
  where
    hex : (c : ℕ) → c < 0x80 → Chars (92 ∷ 120 ∷ 55 ∷ c ∷ [])
    hex c a = ascii_more 92 (omega arith) (ascii_more 120 (omega arith) (ascii_more 55 (omega arith) (ascii_more c a no_char)))

-- a character is one ASCII byte, or bytes above
char_chars : (w : Where) (c : List ℕ) → Whole c → Chars (spelled_text w c)
unfolding spelled_text next
char_chars w [] h = absurd (omega (arith, h.some_bytes))
char_chars w (b ∷ c) h =
    cases (ltb b 0x80)
    (λ t. low (ltb-true b 0x80 t) c (sym h.wide ∙ width_ascii (b ∷ c) 0 (ltb-true b 0x80 t)))
    (λ t. subst Chars (sym (highs_spelled w (b ∷ c) (highs (ltb-false b 0x80 t)))) (chars_one (b ∷ c) h))
  where
    low : b < 0x80 → (c : List ℕ) → length (b ∷ c) ≡ 1 → Chars (spelled_text w (b ∷ c))
    low a [] e = subst Chars (sym (append-nil (spelled_byte w b))) (byte_chars w b a)
    low a (x ∷ c) e = absurd (omega arith)

    here : next (b ∷ c) 0 ≡ length (b ∷ c)
    here = rw (lt-leb (length (b ∷ c)) 0 (omega arith), h.wide) (omega arith)

    highs : 0x80 ≤ b → (k : ℕ) → k < length (b ∷ c) → 0x80 ≤ byte (b ∷ c) k
    highs a zero l = a
    highs a (suc k) l = (between (b ∷ c) 0 (suc k) (omega arith) (omega (arith, here))).0

text_chars : (w : Where) {t : List ℕ} → Chars t → Chars (spelled_text w t)
unfolding spelled_text
text_chars w no_char = no_char
text_chars w (more c t h r) = subst Chars (sym (spelled_append w c t)) (chars_append _ _ (char_chars w c h) (text_chars w r))

conversion_chars : (c : ℕ) → is_conversion c ≡ true → Chars (spelled_conversion c)
unfolding spelled_conversion
conversion_chars zero h = no_char
conversion_chars (suc c) h =
    let u : (suc c is "sar") ≡ true = rw (ne_eqb (suc c) 0 (λ z. omega arith)) at h in
    ascii_more 33 (omega arith) (ascii_more (suc c) (one_of_lem (λ x. x < 0x80) "sar" (suc c) (omega arith, (omega arith, (omega arith, tt))) u) no_char)

-- ALL THAT IS HELD: texts and expressions are well-formed, and conversions are such
abbrev pub Proper : Content → Type 0
Proper empty = Unit {0}
Proper (says t p) = Chars t × Proper p
Proper (puts e c p) = Chars e × (is_conversion c ≡ true) × Proper p
Proper (forms e c q p) = Chars e × (is_conversion c ≡ true) × Proper q × Proper p

spelled_chars : (w : Where) (p : Content) → Proper p → Chars (spelled w p)
unfolding spelled
spelled_chars w empty h = no_char
spelled_chars w (says t p) h = chars_append _ _ (text_chars w h.0) (spelled_chars w p h.1)
spelled_chars w (puts e c p) h =
    ascii_more 123 (omega arith) (chars_append _ _ h.0 (chars_append _ _ (conversion_chars c h.1) (ascii_more 125 (omega arith) (spelled_chars (past_field w) p h.2))))
spelled_chars w (forms e c q p) h =
    ascii_more 123 (omega arith) (chars_append _ _ h.0 (chars_append _ _ (conversion_chars c h.1) (ascii_more 58 (omega arith) (chars_append _ _ (spelled_chars early q h.2) (ascii_more 125 (omega arith) (spelled_chars (past_field w) p h.3))))))

pub spelled_formed : (p : Content) → Proper p → length (spelled top p) ≤ well_formed (spelled top p)
unfolding is_utf8
spelled_formed p h = leb-true (length (spelled top p)) (well_formed (spelled top p)) (chars_utf8 (spelled top p) (spelled_chars top p h))
