-- Laws of the definition's digits: one more, none, and the last; and how large a value gets.
-- Assumes nothing.
use mathlib.Core.Path.{◌≡◌, refl, sym}
use mathlib.Core.List.{List}
use Prim.Native.Nat.{ℕ, zero, suc, ◌+◌, ◌-◌, ◌*◌, ◌^◌, ◌≤◌, ◌<◌}
use native.Mathlib.Nat.{pow-suc, pow-le-pow_right, mul-le-mul_right, suc-mul, lt_of_lt_of_le}
use native.Mathlib.Numerals.{sub-one}
use native.Mathlib.Omega.{arith}
use borrow.Author.Tests.{lt-ltb, le-ltb}
use lib.Dec.{lit≤}
use lib.ListN.{length}
use Rattle.utf8.specs.declared.Cursor.{Cursor}
use Rattle.definition.proofs.Moves.CharLaws.{code_end}
use Rattle.utf8.proofs.Steps.{Stepped}
use Rattle.definition.specs.Numbers.{unicode_error}
use Rattle.definition.specs.Chars.{code}
use Rattle.definition.specs.Escapes.{fault, got, refused, stands, octal_digit, octal_from, hex_digit, scalar, hex_from}

-- the shared fact of the digits, over their count: k digits in the base b are below b ^ k
pub digits_below : (b k p d : ℕ) → p < b ^ k → d < b → p * b + d < b ^ suc k
digits_below b k p d hp hd = rw pow-suc (let h = mul-le-mul_right b hp in omega (arith, suc-mul p b))

-- so as many as m of them are below b ^ m
pub digits_fit : (b k m p d : ℕ) → 0 < b → k < m → p < b ^ k → d < b → p * b + d < b ^ m
digits_fit b k m p d hb hk hp hd = lt_of_lt_of_le (digits_below b k p d hp hd) (pow-le-pow_right hb hk)

-- past the end there is no digit
module _ (s : List ℕ) (i : ℕ) (h : length s ≤ i) where
  pub hex_end : 16 ≤ hex_digit (code s i)
  unfolding hex_digit
  hex_end = rw (code_end s i h) (lit≤ tt)

  pub octal_end : 8 ≤ octal_digit (code s i)
  unfolding octal_digit
  octal_end = rw (code_end s i h) (lit≤ tt)

-- n digits from i on, after digits of the value v
pub hex_done : (n v : ℕ) (s : List ℕ) (i letter : ℕ) → n ≤ 0 → hex_from n v s i letter ≡ scalar v i letter
unfolding hex_from
hex_done zero v s i letter h = refl
hex_done (suc n) v s i letter h = absurd (omega arith)

pub hex_none : (n v : ℕ) (s : List ℕ) (i letter : ℕ) → 0 < n → 16 ≤ hex_digit (code s i) → hex_from n v s i letter ≡ refused (fault unicode_error letter)
unfolding hex_from
hex_none zero v s i letter h b = absurd (omega arith)
hex_none (suc n) v s i letter h b = rw (le-ltb _ _ b, hex_from)

pub hex_more : (n v : ℕ) (s : List ℕ) (i letter d : ℕ) {c : ℕ} {k : Cursor} → 0 < n → Stepped s i c k → d ≡ hex_digit c → d < 16 → hex_from n v s i letter ≡ hex_from (n - 1) (v * 16 + d) s k.at letter
unfolding hex_from
hex_more zero v s i letter d h t e b = absurd (omega arith)
hex_more (suc n) v s i letter d h t e b =
    let q : hex_digit (code s i) ≡ d = rw t.code_is (sym e) in
    rw (lt-ltb (hex_digit (code s i)) 16 (rw q b), hex_from) (rw (q, t.next_is, sub-one))

pub octal_done : (n v : ℕ) (s : List ℕ) (i : ℕ) → n ≤ 0 → octal_from n v s i ≡ got (stands v) i
unfolding octal_from
octal_done zero v s i h = refl
octal_done (suc n) v s i h = absurd (omega arith)

pub octal_none : (n v : ℕ) (s : List ℕ) (i : ℕ) → 0 < n → 8 ≤ octal_digit (code s i) → octal_from n v s i ≡ got (stands v) i
unfolding octal_from
octal_none zero v s i h b = absurd (omega arith)
octal_none (suc n) v s i h b = rw (le-ltb _ _ b, octal_from)

pub octal_more : (n v : ℕ) (s : List ℕ) (i d : ℕ) {c : ℕ} {k : Cursor} → 0 < n → Stepped s i c k → d ≡ octal_digit c → d < 8 → octal_from n v s i ≡ octal_from (n - 1) (v * 8 + d) s k.at
unfolding octal_from
octal_more zero v s i d h t e b = absurd (omega arith)
octal_more (suc n) v s i d h t e b =
    let q : octal_digit (code s i) ≡ d = rw t.code_is (sym e) in
    rw (lt-ltb (octal_digit (code s i)) 8 (rw q b), octal_from) (rw (q, t.next_is, sub-one))
