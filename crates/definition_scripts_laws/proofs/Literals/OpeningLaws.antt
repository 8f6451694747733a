-- What stands where a literal opens: the letters of its prefix, and its quote. Assumes nothing.
use Rattle.std.specs.Prelude.{if◌then◌else◌}
use mathlib.Core.Path.{◌≡◌, refl, sym, subst, ◌∙◌}
use mathlib.Core.Bool.{Bool, true, false, ◌&&◌, ◌||◌}
use mathlib.Core.List.{List}
use Prim.Native.Nat.{ℕ, suc, ◌+◌, ◌≤◌, ◌<◌}
use native.Mathlib.Omega.{arith}
use borrow.Author.Tests.{eqb-true, eqb-false, ltb-true, ltb-false}
use lib.Dec.{eqb, ltb, lit≤}
use lib.ListN.{length}
use Rattle.definition.specs.Numbers.{prefix}
use Rattle.definition.specs.Chars.{◌is◌, byte, ◌to◌, inside}
use Rattle.definition_scripts.specs.Opening.{is_quote, no_kind, one_letter, two_letters, opens, quotes_of, quote_of, is_word}
use Rattle.definition.proofs.Moves.CharLaws.{cases, no, either, inside_true, byte_in}
use Rattle.definition_laws.proofs.Moves.Cases.{and_both}

-- a quote is 39 or 34
pub quote_within : (c : ℕ) → is_quote c ≡ true → (34 ≤ c) × (c ≤ 39) × (c ≡ 35 → ⊥)
quote_within c e =
    either (eqb c 39) (eqb c 34) e (λ t. let h = eqb-true c 39 t in (omega arith, omega arith, λ z. omega arith))
    (λ t. let h = eqb-true c 34 t in (omega arith, omega arith, λ z. omega arith))

pub word_within : (c : ℕ) → is_word c ≡ true → (48 ≤ c) × (c ≤ 122)
word_within c e =
    either (inside (48 to 57) c || inside (65 to 90) c || inside (97 to 122) c) (c is "_") e
    (λ e. either (inside (48 to 57) c || inside (65 to 90) c) (inside (97 to 122) c) e
    (λ e. either (inside (48 to 57) c) (inside (65 to 90) c) e (λ t. let h = inside_true 48 57 c t in (omega arith, omega arith)) (λ t. let h = inside_true 65 90 c t in (omega arith, omega arith)))
    (λ t. let h = inside_true 97 122 c t in (omega arith, omega arith)))
    (λ t. let h = eqb-true c 95 t in (omega arith, omega arith))

-- no letter is a quote
pub word_no_quote : (c : ℕ) → is_word c ≡ true → is_quote c ≡ false
word_no_quote c w =
    cases (is_quote c) (λ q. let x = quote_within c q in let y = word_within c w in absurd (omega arith)) (λ q. q)

-- the letters of prefixes
letter : (a x y : ℕ) → (eqb a x || eqb a y) ≡ true → is_word x ≡ true → is_word y ≡ true → is_word a ≡ true
letter a x y e f g = either (eqb a x) (eqb a y) e (λ t. subst (λ (b : ℕ). is_word b ≡ true) (sym (eqb-true a x t)) f) (λ t. subst (λ (b : ℕ). is_word b ≡ true) (sym (eqb-true a y t)) g)

abbrev Single : ℕ → ℕ → Type 0
Single a k = (prefix k ≡ 1) × (is_word a ≡ true) × (1 ≤ k)

one_letter_lem : (a : ℕ) → one_letter a ≤ 6 → Single a (one_letter a)
unfolding one_letter prefix
one_letter_lem a h = go (a is "fF") (a is "bB") (a is "rR") (a is "uU") refl refl refl refl h
  where
    go : (x y z w : Bool) → (a is "fF") ≡ x → (a is "bB") ≡ y → (a is "rR") ≡ z → (a is "uU") ≡ w
        → (if x then 1 else if y then 2 else if z then 3 else if w then 6 else no_kind) ≤ 6 → Single a (if x then 1 else if y then 2 else if z then 3 else if w then 6 else no_kind)
    go true y z w e f g k h = (refl, letter a 102 70 e refl refl, lit≤ tt)
    go false true z w e f g k h = (refl, letter a 98 66 f refl refl, lit≤ tt)
    go false false true w e f g k h = (refl, letter a 114 82 g refl refl, lit≤ tt)
    go false false false true e f g k h = (refl, letter a 117 85 k refl refl, lit≤ tt)
    go false false false false e f g k h = absurd (omega arith)

abbrev Double : ℕ → ℕ → ℕ → Type 0
Double a b k = (prefix k ≡ 2) × (is_word a ≡ true) × (is_word b ≡ true) × (1 ≤ k)

two_letters_lem : (a b : ℕ) → two_letters a b ≤ 6 → Double a b (two_letters a b)
unfolding two_letters prefix
two_letters_lem a b h = go (a is "fF" && b is "rR" || a is "rR" && b is "fF") (a is "bB" && b is "rR" || a is "rR" && b is "bB") refl refl h
  where
    letters : (x y z w : ℕ) → is_word x ≡ true → is_word y ≡ true → is_word z ≡ true → is_word w ≡ true
        → ((eqb a x || eqb a y) && (eqb b z || eqb b w)) ≡ true → (is_word a ≡ true) × (is_word b ≡ true)
    letters x y z w f g k l e = let t = and_both (eqb a x || eqb a y) (eqb b z || eqb b w) e in (letter a x y t.0 f g, letter b z w t.1 k l)

    go : (x y : Bool) → (a is "fF" && b is "rR" || a is "rR" && b is "fF") ≡ x → (a is "bB" && b is "rR" || a is "rR" && b is "bB") ≡ y
        → (if x then 4 else if y then 5 else no_kind) ≤ 6 → Double a b (if x then 4 else if y then 5 else no_kind)
    go true y e f h = let w = either (a is "fF" && b is "rR") (a is "rR" && b is "fF") e (λ t. letters 102 70 114 82 refl refl refl refl t) (λ t. letters 114 82 102 70 refl refl refl refl t) in (refl, w.0, w.1, lit≤ tt)
    go false true e f h = let w = either (a is "bB" && b is "rR") (a is "rR" && b is "bB") f (λ t. letters 98 66 114 82 refl refl refl refl t) (λ t. letters 114 82 98 66 refl refl refl refl t) in (refl, w.0, w.1, lit≤ tt)
    go false false e f h = absurd (omega arith)

-- A LITERAL OF KIND k THAT OPENS AT i has letters for a prefix and a quote after them; its kind is 0 exactly if it has no prefix
pub record Opening (s : List ℕ) (i k : ℕ) : Type 0 where
  pub quote : is_quote (byte s (i + prefix k)) ≡ true
  pub letters : (m : ℕ) → i ≤ m → m < i + prefix k → is_word (byte s m) ≡ true
  pub bare : is_quote (byte s i) ≡ true → k ≡ 0
  pub prefixed : is_quote (byte s i) ≡ false → 1 ≤ k

pub opened : (s : List ℕ) (i : ℕ) → opens s i ≤ 6 → Opening s i (opens s i)
unfolding opens prefix
opened s i h = go (is_quote (byte s i)) (is_quote (byte s (i + 1))) (is_quote (byte s (i + 2))) refl refl refl h
  where
    moved : (test : ℕ → Bool) (m n : ℕ) → m ≡ n → test (byte s m) ≡ true → test (byte s n) ≡ true
    moved test m n e h = rw (← e) h

    one : ℕ
    one = one_letter (byte s i)

    two : ℕ
    two = two_letters (byte s i) (byte s (i + 1))

    go : (x y z : Bool) → is_quote (byte s i) ≡ x → is_quote (byte s (i + 1)) ≡ y → is_quote (byte s (i + 2)) ≡ z
        → (if x then 0 else if y then one else if z then two else no_kind) ≤ 6 → Opening s i (if x then 0 else if y then one else if z then two else no_kind)
    go true y z e f g h = record {
      quote = moved is_quote i (i + prefix 0) (omega arith) e;
      letters = λ m l k. absurd (omega arith);
      bare = λ t. refl;
      prefixed = λ t. no (sym t ∙ e);
    }
    go false true z e f g h =
        let w = one_letter_lem (byte s i) h in
        let p : prefix one ≡ 1 = w.0 in
        record {
          quote = moved is_quote (i + 1) (i + prefix one) (omega arith) f;
          letters = λ m l k. moved is_word i m (omega arith) w.1;
          bare = λ t. no (sym e ∙ t);
          prefixed = λ t. w.2;
        }
    go false false true e f g h =
        let w = two_letters_lem (byte s i) (byte s (i + 1)) h in
        let p : prefix two ≡ 2 = w.0 in
        record {
          quote = moved is_quote (i + 2) (i + prefix two) (omega arith) g;
          letters = λ m l k. cases (eqb m i) (λ t. let e = eqb-true m i t in moved is_word i m (omega arith) w.1) (λ t. let n = eqb-false m i t in moved is_word (i + 1) m (omega arith) w.2);
          bare = λ t. no (sym e ∙ t);
          prefixed = λ t. w.3;
        }
    go false false false e f g h = absurd (omega arith)

pub quote_of_lem : (s : List ℕ) (i : ℕ) → opens s i ≤ 6 → is_quote (quote_of s i) ≡ true
unfolding quotes_of
quote_of_lem s i h = (opened s i h).quote

pub opens_in : (s : List ℕ) (i : ℕ) → opens s i ≤ 6 → i < length s
unfolding quotes_of
opens_in s i h =
    let q = quote_within (quote_of s i) (quote_of_lem s i h) in
    omega (arith, byte_in s (quotes_of s i) (omega arith))

-- below a number, or at it
pub below_or_at : {P : Type 0} (m n : ℕ) → m < suc n → (m < n → P) → (m ≡ n → P) → P
below_or_at m n h f g = cases (ltb m n) (λ t. f (ltb-true m n t)) (λ t. let k = ltb-false m n t in g (omega arith))

-- each byte of an opening, from its prefix to its quote
pub record Shows (c : ℕ) : Type 0 where
  pub least : 34 ≤ c
  pub most : c ≤ 122
  pub no_sign : c ≡ 35 → ⊥

pub opening_shows : (s : List ℕ) (i m : ℕ) → opens s i ≤ 6 → i ≤ m → m ≤ i + prefix (opens s i) → Shows (byte s m)
opening_shows s i m h l k =
    below_or_at m (i + prefix (opens s i)) (omega arith)
    (λ b. let w = word_within (byte s m) ((opened s i h).letters m l b) in record { least = omega arith; most = omega arith; no_sign = λ e. omega arith })
    (λ e. let w = quote_within (byte s m) (rw e (opened s i h).quote) in record { least = omega arith; most = omega arith; no_sign = w.2 })
