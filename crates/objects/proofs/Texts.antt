-- Laws of writing bytes after bytes, of decimal numbers and of escaped text. Assumes nothing.
use Rattle.std.specs.Prelude.{if◌then◌else◌}
use mathlib.Core.Path.{◌≡◌, refl, sym, ◌∙◌, ap}
use mathlib.Core.Bool.{Bool, true, false}
use mathlib.Core.List.{List, [], ◌∷◌, ◌++◌, append_assoc, append-nil}
use Prim.Native.Nat.{ℕ, zero, suc, ◌+◌, ◌*◌, ◌/◌, ◌%◌, ◌≤◌, ◌<◌}
use native.Mathlib.Numerals.{add-one}
use native.Mathlib.Omega.{arith}
use borrow.Author.Tests.{ltb-false, lt-ltb, le-ltb}
use lib.Dec.{ltb}
use lib.ListN.{length, take, drop, get_or, length-append, take-append-drop}
use lib.Seq.{take-suc}
use Rattle.definition.specs.Chars.{ascii, ◌is◌}
use Rattle.buffers.proofs.Over.{over_nil, over_append}
use Rattle.definition_lines.specs.Lines.{decimal_n, decimal, hex_code, escaped, escaped_text}
use Rattle.objects.specs.Written.{Adds}

-- nothing, and one run after another
pub nothing : (b : List ℕ) (u : ℕ) → Adds [] b u b u
nothing b u = record { wrote = sym (over_nil b u); up = omega arith }

pub and_then : {xs ys b b' b'' : List ℕ} {u u' u'' : ℕ} → Adds xs b u b' u' → Adds ys b' u' b'' u'' → Adds (xs ++ ys) b u b'' u''
and_then {xs} {ys} {b} {b'} {b''} {u} p q =
    record { wrote = q.wrote ∙ rw (p.wrote, p.up) (over_append b u xs ys); up = omega (arith, length-append xs ys) }

-- NUMBERS: how many digits are allowed does not matter
digits_fuel : (m k n : ℕ) → n < m → n < k → decimal_n m n ≡ decimal_n k n
unfolding decimal_n
digits_fuel zero k n h g = absurd (omega arith)
digits_fuel (suc m) zero n h g = absurd (omega arith)
digits_fuel (suc m) (suc k) n h g = go (ltb n 10) refl (λ l. digits_fuel m k (n / 10) (omega arith) (omega arith))
  where
    go : (t : Bool) → ltb n 10 ≡ t → (10 ≤ n → decimal_n m (n / 10) ≡ decimal_n k (n / 10)) → decimal_n (suc m) n ≡ decimal_n (suc k) n
    go true e p = rw (e, decimal_n)
    go false e p = rw (e, decimal_n, p (ltb-false n 10 e))

pub digit_one : (n : ℕ) → n < 10 → decimal n ≡ (48 + n) ∷ []
unfolding decimal decimal_n
digit_one n h = rw (lt-ltb n 10 h, decimal_n)

pub digit_more : (n : ℕ) → 10 ≤ n → decimal n ≡ decimal (n / 10) ++ ((48 + n % 10) ∷ [])
unfolding decimal decimal_n
digit_more n h = rw (le-ltb n 10 h, decimal_n, digits_fuel n (suc (n / 10)) (n / 10) (omega arith) (omega arith))

-- 10, 100 and so on
tens : ℕ → ℕ
tens zero = 10
tens (suc k) = 10 * tens k

digits_short : (k m n : ℕ) → n < tens k → length (decimal_n m n) ≤ suc k
unfolding decimal_n tens
digits_short k zero n h = omega arith
digits_short k (suc m) n h = go k (ltb n 10) refl h (λ j. digits_short j m (n / 10))
  where
    go : (k : ℕ) (t : Bool) → ltb n 10 ≡ t → n < tens k → ((j : ℕ) → n / 10 < tens j → length (decimal_n m (n / 10)) ≤ suc j) → length (decimal_n (suc m) n) ≤ suc k
    go k true e h p = rw (e, decimal_n) (omega arith)
    go zero false e h p = absurd (omega (arith, ltb-false n 10 e))
    go (suc j) false e h p = rw (e, decimal_n) (omega (arith, length-append (decimal_n m (n / 10)) ((48 + n % 10) ∷ []), p j (omega arith)))

pub decimal_short : (n : ℕ) → n < 4294967296 → length (decimal n) ≤ 10
unfolding decimal tens
decimal_short n h = digits_short 9 (suc n) n (omega arith)

-- ESCAPED TEXT
module _ (b : ℕ) where
  pub escaped_marked : (b is "\"\\") ≡ true → escaped b ≡ 92 ∷ b ∷ []
  unfolding escaped
  escaped_marked m = rw m

  pub escaped_control : (b is "\"\\") ≡ false → b < 32 → escaped b ≡ ascii "\\u00" ++ (hex_code (b / 16) ∷ hex_code (b % 16) ∷ [])
  unfolding escaped
  escaped_control m h = rw (m, lt-ltb b 32 h)

  pub escaped_plain : (b is "\"\\") ≡ false → 32 ≤ b → escaped b ≡ b ∷ []
  unfolding escaped
  escaped_plain m h = rw (m, le-ltb b 32 h)

escaped_append : (s t : List ℕ) → escaped_text (s ++ t) ≡ escaped_text s ++ escaped_text t
unfolding escaped_text
escaped_append [] t = refl
escaped_append (b ∷ s) t = rw (escaped_append s t, append_assoc)

-- one byte more
pub escaped_more : (t : List ℕ) (i : ℕ) → i < length t → escaped_text (take (i + 1) t) ≡ escaped_text (take i t) ++ escaped (get_or t i 0)
unfolding escaped_text
escaped_more t i h = rw (add-one i, take-suc t i 0 h, escaped_append (take i t) (get_or t i 0 ∷ []), append-nil)

-- a part of a text is no longer than the text
pub escaped_part : (t : List ℕ) (i : ℕ) → length (escaped_text (take i t)) ≤ length (escaped_text t)
escaped_part t i =
    let e = ap (λ l. length (escaped_text l)) (sym (take-append-drop i t)) ∙ ap length (escaped_append (take i t) (drop i t)) ∙ length-append (escaped_text (take i t)) (escaped_text (drop i t)) in
    omega (arith, e)

byte_short : (b : ℕ) → length (escaped b) ≤ 6
unfolding escaped ascii
byte_short b = go (b is "\"\\") (ltb b 32)
  where
    go : (x y : Bool) → length (if x then 92 ∷ b ∷ [] else if y then ascii "\\u00" ++ (hex_code (b / 16) ∷ hex_code (b % 16) ∷ []) else b ∷ []) ≤ 6
    go true y = omega arith
    go false true = omega arith
    go false false = omega arith

pub escaped_short : (t : List ℕ) → length (escaped_text t) ≤ 6 * length t
unfolding escaped_text
escaped_short [] = omega arith
escaped_short (b ∷ t) = omega (arith, length-append (escaped b) (escaped_text t), byte_short b, escaped_short t)
