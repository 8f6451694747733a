-- What the character after a backslash asks for, where no single key tells it.
-- Assumes nothing.
use mathlib.Core.Logic.{◌⊎◌, inl, inr}
use Rattle.std.specs.Prelude.{if◌then◌else◌}
use mathlib.Core.Path.{◌≡◌, refl}
use mathlib.Core.Bool.{Bool, true, false, ◌&&◌}
use mathlib.Core.List.{List, [], ◌∷◌}
use Prim.Native.Nat.{ℕ, ◌+◌, ◌-◌, ◌≤◌, ◌<◌}
use native.Mathlib.Omega.{arith}
use borrow.Author.Tests.{lt-leb, ne_eqb}
use lib.Dec.{T, leb, eqb, lit≤}
use Rattle.definition.specs.Numbers.{is_bytes, non_ascii_in_bytes}
use Rattle.definition.specs.Chars.{ascii, ◌is◌}
use Rattle.definition.specs.Escapes.{stands, Naming, fault, got, refused, stays, octal_digit, octal_from, octal, foreign, other, escape_case, escape}
use Rattle.utf8.specs.declared.Cursor.{Cursor}
use Rattle.definition.proofs.Moves.CharLaws.{inside_yes}
use Rattle.utf8.proofs.Steps.{Stepped}
use Rattle.utf8.proofs.Table.{at}

-- a test that holds is true
holds : (b : Bool) → T b → b ≡ true
holds true t = refl
holds false t = absurd t

-- the octal digits are a range
octal_text : (d : ℕ) → d < 8 → (48 + d) is "01234567" ≡ true
unfolding ascii
octal_text d h = holds _ (at (λ k x. (48 + k) is "01234567") (ascii "01234567") tt d h)

octal_is : (c : ℕ) → 48 ≤ c → c ≤ 55 → c is "01234567" ≡ true
octal_is c l h =
    let e : 48 + (c - 48) ≡ c = omega arith in
    rw e at (octal_text (c - 48) (omega arith))

-- a character outside of it is none
abbrev pub NoDigit : ℕ → Type 0
NoDigit c = 48 ≤ c → c ≤ 55 → ⊥

octal_not : (c : ℕ) → NoDigit c → c is "01234567" ≡ false
octal_not c n =
    let not : (m : ℕ) → 48 ≤ m → m ≤ 55 → eqb c m ≡ false = λ m l h. ne_eqb c m (λ e. n (omega arith) (omega arith)) in
    rw (
      not 48 (lit≤ tt) (lit≤ tt),
      not 49 (lit≤ tt) (lit≤ tt),
      not 50 (lit≤ tt) (lit≤ tt),
      not 51 (lit≤ tt) (lit≤ tt),
      not 52 (lit≤ tt) (lit≤ tt),
      not 53 (lit≤ tt) (lit≤ tt),
      not 54 (lit≤ tt) (lit≤ tt),
      not 55 (lit≤ tt) (lit≤ tt),
    )

pub below : (c : ℕ) → c < 48 → NoDigit c
below c h l m = omega arith

pub above : (c : ℕ) → 56 ≤ c → NoDigit c
above c h l m = omega arith

-- the character stands for itself
abbrev pub Same : ℕ → Type 0
Same c = (c ≡ 34) ⊎ ((c ≡ 39) ⊎ (c ≡ 92))

-- the number is none of these nor of the list
abbrev pub Not : ℕ → List ℕ → Type 0
Not c [] = Unit {0} × (Same c → ⊥)
Not c (m ∷ ms) = Not c ms × (c ≡ m → ⊥)

-- the keys of the other escapes, the last first
abbrev pub keys : List ℕ
keys = 10 ∷ 78 ∷ 85 ∷ 117 ∷ 120 ∷ 118 ∷ 116 ∷ 114 ∷ 110 ∷ 102 ∷ 98 ∷ 97 ∷ []

-- the escape of the character c, with k after it
module _ (look : Naming) (kind : ℕ) (s : List ℕ) (i c : ℕ) (k : Cursor) (t : Stepped s i c k) where
  octal_case : 48 ≤ c → c ≤ 55 → escape_case kind s i ≡ octal
  unfolding escape_case
  octal_case l h =
      rw (
        lt-leb _ _ t.there,
        t.code_is,
        ne_eqb c 92 (omega arith),
        ne_eqb c 39 (omega arith),
        ne_eqb c 34 (omega arith),
        ne_eqb c 97 (omega arith),
        ne_eqb c 98 (omega arith),
        ne_eqb c 102 (omega arith),
        ne_eqb c 110 (omega arith),
        ne_eqb c 114 (omega arith),
        ne_eqb c 116 (omega arith),
        ne_eqb c 118 (omega arith),
        octal_is c l h,
      )

  other_case : Not c keys → NoDigit c → escape_case kind s i ≡ (if leb 0x80 c && is_bytes kind then foreign else other)
  unfolding escape_case
  other_case (((((((((((((u, z), d), e), f), g), h), j), l), m), n), o), p), q) r =
      rw (
        lt-leb _ _ t.there,
        t.code_is,
        ne_eqb c 92 (λ x. z (inr (inr x))),
        ne_eqb c 39 (λ x. z (inr (inl x))),
        ne_eqb c 34 (λ x. z (inl x)),
        ne_eqb c 97 d,
        ne_eqb c 98 e,
        ne_eqb c 102 f,
        ne_eqb c 110 g,
        ne_eqb c 114 h,
        ne_eqb c 116 j,
        ne_eqb c 118 l,
        octal_not c r,
        ne_eqb c 120 m,
        ne_eqb c 117 n,
        ne_eqb c 85 o,
        ne_eqb c 78 p,
        ne_eqb c 10 q,
      )

  pub same_escape : Same c → escape look kind s i ≡ got (stands c) k.at
  unfolding escape escape_case
  same_escape (inl e) = rw (lt-leb _ _ t.there, t.code_is, e, t.next_is, escape, escape_case)
  same_escape (inr (inl e)) = rw (lt-leb _ _ t.there, t.code_is, e, t.next_is, escape, escape_case)
  same_escape (inr (inr e)) = rw (lt-leb _ _ t.there, t.code_is, e, t.next_is, escape, escape_case)

  pub octal_escape : 48 ≤ c → c ≤ 55 → escape look kind s i ≡ octal_from 2 (c - 48) s k.at
  unfolding escape octal_digit
  octal_escape l h = rw (octal_case l h, escape) (rw (t.code_is, t.next_is, inside_yes 48 55 c l h))

  pub other_escape : Not c keys → NoDigit c → (b : Bool) → (leb 0x80 c && is_bytes kind) ≡ b → escape look kind s i ≡ (if b then refused (fault non_ascii_in_bytes k.at) else got stays k.at)
  unfolding escape
  other_escape n d true e = rw (other_case n d, e, escape) (rw t.next_is)
  other_escape n d false e = rw (other_case n d, e, escape) (rw t.next_is)
