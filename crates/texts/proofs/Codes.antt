-- The escapes of a letter and of digits: by the bytes of a body. Assumes nothing.
use mathlib.Core.Path.{◌≡◌, refl, sym, ◌∙◌, ap}
use mathlib.Core.Bool.{true, ◌&&◌, not}
use mathlib.Core.List.{List}
use Prim.Native.Nat.{ℕ, ◌+◌, ◌-◌, ◌*◌, ◌≤◌, ◌<◌}
use native.Mathlib.Omega.{arith}
use borrow.Author.Tests.{lt-leb, ltb-true, ltb-false, leb-true, leb-false, eqb-true}
use lib.Dec.{ltb, leb, eqb}
use lib.ListN.{length}
use Rattle.definition.specs.Numbers.{is_raw}
use Rattle.definition.specs.Chars.{◌is◌, ◌to◌, inside, byte, code}
use Rattle.definition.specs.Escapes.{Naming, got, stands, simple, hex, octal_digit, octal_from, hex_digit, hex_from, escape, meant}
use Rattle.definition.specs.Body.{with_escape, string_case, string_move}
use Rattle.definition.proofs.Moves.CharLaws.{cases, no, inside_true, inside_yes, inside_not, next_ascii, code_ascii, code_wide}
use Rattle.utf8.proofs.Steps.{Stepped}
use Rattle.escapes.proofs.Digits.{hex_more, octal_end, octal_more}
use Rattle.escapes.proofs.Letters.{octal_escape}
use Rattle.std.specs.Prelude.{Option, Some, None, IfSome}
use Rattle.texts.specs.declared.Coded.{Coded}
use Rattle.texts.specs.Codes.{Asks, HexIs, OctalIs, CodedIs}

-- an ASCII byte is a character
stepped : (s : List ℕ) (i : ℕ) → i < length s → byte s i < 0x80 → Stepped s i (byte s i) (record { at = i + 1 })
stepped s i h b = record { there = h; code_is = code_ascii s i b; next_is = next_ascii s i b }

-- a hex digit is one
digit_ascii : (b : ℕ) → hex_digit b < 16 → b < 0x80
unfolding hex_digit
digit_ascii b h = cases (ltb b 0x80) (λ t. ltb-true _ _ t) (λ t. wide (ltb-false _ _ t))
  where
    wide : 0x80 ≤ b → b < 0x80
    wide l =
        let e : hex_digit b ≡ 16 = rw (inside_not 48 57 b (λ p q. omega arith), inside_not 65 70 b (λ p q. omega arith), inside_not 97 102 b (λ p q. omega arith)) in
        absurd (omega arith)

-- one hex digit more
pub digit_more : (n v : ℕ) (s : List ℕ) (i d letter : ℕ) → 0 < n → i < length s → d ≡ hex_digit (byte s i) → d < 16 → hex_from n v s i letter ≡ hex_from (n - 1) (v * 16 + d) s (i + 1) letter
digit_more n v s i d letter h l e b = hex_more n v s i letter d h (stepped s i l (digit_ascii (byte s i) (omega arith))) e b

-- octal digits
module _ (s : List ℕ) (i : ℕ) where
  pub octal_high : 55 < byte s i → octal_digit (code s i) ≡ 8
  unfolding octal_digit
  octal_high h =
      cases (ltb (byte s i) 0x80)
      (λ t. let l = ltb-true (byte s i) 0x80 t in rw (code_ascii s i l, inside_not 48 55 (byte s i) (λ p q. omega arith)))
      (λ t. let l = code_wide s i (ltb-false _ _ t) in rw (inside_not 48 55 (code s i) (λ p q. omega arith)))

  module _ (d : ℕ) (e : d ≡ octal_digit (code s i)) (b : d < 8) where
    octal_range : (48 ≤ code s i) × (code s i ≤ 55)
    unfolding octal_digit
    octal_range =
        cases (inside (48 to 55) (code s i)) (λ t. inside_true 48 55 (code s i) t)
        (λ t. let z : octal_digit (code s i) ≡ 8 = rw t in absurd (omega arith))

    octal_stepped : Stepped s i (code s i) (record { at = i + 1 })
    octal_stepped =
        let l : i < length s = cases (leb (length s) i) (λ t. let z = octal_end s i (leb-true _ _ t) in absurd (omega arith)) (λ t. leb-false _ _ t) in
        let a : byte s i < 0x80 = cases (ltb (byte s i) 0x80) (λ t. ltb-true _ _ t) (λ t. let z = octal_high (omega (arith, ltb-false (byte s i) 0x80 t)) in absurd (omega arith)) in
        record { there = l; code_is = refl; next_is = next_ascii s i a }

    octal_is : code s i - 48 ≡ d
    unfolding octal_digit
    octal_is = sym (rw (inside_yes 48 55 (code s i) octal_range.0 octal_range.1) at e)

    pub octal_first : (look : Naming) (kind : ℕ) → escape look kind s i ≡ octal_from 2 d s (i + 1)
    octal_first look kind = octal_escape look kind s i (code s i) _ octal_stepped octal_range.0 octal_range.1 ∙ ap (λ v. octal_from 2 v s (i + 1)) octal_is

    pub octal_then : (n v : ℕ) → 0 < n → octal_from n v s i ≡ octal_from (n - 1) (v * 8 + d) s (i + 1)
    octal_then n v h = octal_more n v s i d h octal_stepped e b

module _ (kind : ℕ) (s : List ℕ) (i : ℕ) (h : i + 1 < length s) (t : (byte s i is "\\" && not (is_raw kind)) ≡ true) (b : byte s (i + 1) < 0x80) where
  backslash : byte s i < 0x80
  backslash = cases (eqb (byte s i) 92) (λ e. let q = eqb-true (byte s i) 92 e in omega arith) (λ e. no (rw e at t))

  pub coded_by : (c j : ℕ) → ((look : Naming) → escape look kind s (i + 1) ≡ got (stands c) j) → CodedIs kind s i c j
  unfolding string_move string_case with_escape meant
  coded_by c j e look =
      let l : i < length s = omega arith in
      rw (lt-leb _ _ l, code_ascii s i backslash, t, string_move, string_case, next_ascii s i backslash, e look, with_escape, meant)

  pub coded_letter : (c : ℕ) → Asks kind (byte s (i + 1)) (simple c) → CodedIs kind s i c (i + 1 + 1)
  unfolding escape
  coded_letter c a = coded_by c (i + 1 + 1) (λ look. rw (a s (i + 1) h (code_ascii s (i + 1) b), next_ascii s (i + 1) b, escape))

  pub coded_hex : (n c : ℕ) → Asks kind (byte s (i + 1)) (hex n) → HexIs n s (i + 1 + 1) c → CodedIs kind s i c (i + 1 + 1 + n)
  unfolding escape
  coded_hex n c a x = coded_by c (i + 1 + 1 + n) (λ look. rw (a s (i + 1) h (code_ascii s (i + 1) b), next_ascii s (i + 1) b, escape) (x (i + 1 + 1)))

  -- digits, if any stand there
  pub coded_octal : (x : Option Coded) → IfSome x (λ y. OctalIs s i y.code y.to) → IfSome x (λ y. CodedIs kind s i y.code y.to)
  coded_octal None e = tt
  coded_octal (Some y) e = coded_by y.code y.to (λ look. e look kind)
