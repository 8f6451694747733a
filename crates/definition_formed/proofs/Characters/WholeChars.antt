-- TEXTS OF WHOLE CHARACTERS are UTF-8. Assumes nothing.
use mathlib.Core.Path.{◌≡◌, refl, sym, ◌∙◌, ap, ap₂}
use mathlib.Core.Bool.{true, ◌&&◌}
use mathlib.Core.List.{List, [], ◌∷◌, ◌++◌, append_assoc, append-nil}
use mathlib.Core.Option.{Option, none, some}
use Prim.Native.Nat.{ℕ, zero, suc, ◌+◌, ◌≤◌, ◌<◌}
use native.Mathlib.Omega.{arith}
use lib.Dec.{ltb}
use lib.ListN.{length, take, drop, length-append, length-drop, take-append-drop, drop_of_length-le, get_or-append}
use lib.Seq.{get_or-append-add, length-take-le, drop-drop}
use borrow.Author.Tests.{leb-true, le-leb}
use Rattle.definition.specs.Chars.{byte, Range, inside, table37, following, follow, width, formed_from, well_formed, utf8}
use Rattle.definition_formed.specs.Formed.{is_utf8}
use Rattle.definition.proofs.Moves.CharLaws.{cases, width_end, width_in}
use Rattle.definition_laws.proofs.Characters.Utf8.{Scalar, scalar_width}

-- one character
pub record Whole (c : List ℕ) : Type 0 where
  pub some_bytes : 0 < length c
  pub wide : width c 0 ≡ length c

pub data Chars : List ℕ → Type 0 where
  no_char : Chars []
  more : (c t : List ℕ) → Whole c → Chars t → Chars (c ++ t)

pub chars_append : (a b : List ℕ) → Chars a → Chars b → Chars (a ++ b)
chars_append a b no_char q = q
chars_append a b (more c t w p) q = rw append_assoc (more c (t ++ b) w (chars_append t b p q))

pub chars_one : (c : List ℕ) → Whole c → Chars c
chars_one c w = rw append-nil at (more c [] w no_char)

-- the same bytes in front of others
byte_front : (c t : List ℕ) (k : ℕ) → k < length c → byte (c ++ t) k ≡ byte c k
byte_front c t k h = get_or-append c t 256 k h

follow_front : (c t : List ℕ) (rs : List Range) (k : ℕ) → k + length rs ≤ length c → follow rs (c ++ t) k ≡ follow rs c k
unfolding follow
follow_front c t [] k h = refl
follow_front c t (r ∷ rs) k h = ap₂ (λ b f. inside r b && f) (byte_front c t k (omega arith)) (follow_front c t rs (k + 1) (omega arith))

pub width_front : (c t : List ℕ) → Whole c → width (c ++ t) 0 ≡ length c
unfolding width
width_front c t w = row (following table37 (byte c 0)) refl
  where
    row : (o : Option (List Range)) → following table37 (byte c 0) ≡ o → width (c ++ t) 0 ≡ length c
    row none f = let p = w.some_bytes in let z = rw (f, width) at w.wide in absurd (omega arith)
    row (some rs) f =
        let p = w.some_bytes in
        cases (follow rs c 1)
        (λ g.
        let z : suc (length rs) ≡ length c = rw (f, g, width) at w.wide in
        rw (byte_front c t 0 p, f, follow_front c t rs 1 (omega arith), g, width) z)
        (λ g. let z = rw (f, g, width) at w.wide in absurd (omega arith))

-- and after others
follow_after : (c t : List ℕ) (rs : List Range) (j k : ℕ) → j ≡ length c + k → follow rs (c ++ t) j ≡ follow rs t k
unfolding follow
follow_after c t [] j k e = refl
follow_after c t (r ∷ rs) j k e = ap₂ (λ b f. inside r b && f) (ap (byte (c ++ t)) e ∙ get_or-append-add c t k 256) (follow_after c t rs (j + 1) (k + 1) (omega arith))

pub width_after : (c t : List ℕ) (i : ℕ) → width (c ++ t) (length c + i) ≡ width t i
unfolding width
width_after c t i = row (following table37 (byte t i)) refl
  where
    row : (o : Option (List Range)) → following table37 (byte t i) ≡ o → width (c ++ t) (length c + i) ≡ width t i
    row none f = rw (get_or-append-add c t i 256, f, width) refl
    row (some rs) f = rw (get_or-append-add c t i 256, f, follow_after c t rs (length c + i + 1) (i + 1) (omega arith), width) refl

-- all of it is well formed
formed_after : (n : ℕ) (c t : List ℕ) (j i : ℕ) → j ≡ length c + i → formed_from n (c ++ t) j ≡ length c + formed_from n t i
unfolding formed_from
formed_after zero c t j i e = e
formed_after (suc n) c t j i e = go (λ j i e. formed_after n c t j i e) (width t i) refl
  where
    go : ((j i : ℕ) → j ≡ length c + i → formed_from n (c ++ t) j ≡ length c + formed_from n t i) → (w : ℕ) → width t i ≡ w → formed_from (suc n) (c ++ t) j ≡ length c + formed_from (suc n) t i
    go ih zero f = rw (e, width_after c t i, f, formed_from) e
    go ih (suc w) f = rw (e, width_after c t i, f, formed_from) (ih (j + suc w) (i + suc w) (omega arith))

none_formed : (n : ℕ) → formed_from n [] 0 ≡ 0
unfolding formed_from
none_formed zero = refl
none_formed (suc n) = rw (width_end [] 0 (omega arith), formed_from) refl

chars_formed : (t : List ℕ) → Chars t → (n : ℕ) → length t ≤ n → formed_from n t 0 ≡ length t
unfolding formed_from
chars_formed t no_char n h = none_formed n
chars_formed t (more c u w p) n h = go n (length c) refl (λ n h. chars_formed u p n h) (omega (arith, length-append c u))
  where
    go : (n k : ℕ) → length c ≡ k → ((n : ℕ) → length u ≤ n → formed_from n u 0 ≡ length u) → k + length u ≤ n → formed_from n (c ++ u) 0 ≡ length (c ++ u)
    go n zero e ih h = let q = w.some_bytes in absurd (omega arith)
    go zero (suc k) e ih h = absurd (omega arith)
    go (suc n) (suc k) e ih h =
        rw (width_front c u w ∙ e, formed_from)
        (formed_after n c u (0 + suc k) 0 (omega arith) ∙ ap (λ m. length c + m) (ih n (omega arith)) ∙ sym (length-append c u))

-- CHARACTERS ARE UTF-8
pub chars_utf8 : (t : List ℕ) → Chars t → is_utf8 t ≡ true
unfolding is_utf8 well_formed
chars_utf8 t p = rw (chars_formed t p (length t) (omega arith)) (le-leb (length t) (length t) (omega arith))

-- A SCALAR VALUE'S BYTES are one character
some_byte : (c : ℕ) → 0 < length (utf8 c)
unfolding utf8
some_byte c =
    cases (ltb c 0x80) (λ e. rw e (omega arith))
    (λ e. cases (ltb c 0x800) (λ f. rw (e, f) (omega arith)) (λ f. cases (ltb c 0x10000) (λ g. rw (e, f, g) (omega arith)) (λ g. rw (e, f, g) (omega arith))))

pub utf8_whole : (c : ℕ) → Scalar c → Whole (utf8 c)
utf8_whole c p = record { some_bytes = some_byte c; wide = scalar_width c p (utf8 c) 0 [] (sym (append-nil (utf8 c))) }

-- AND WHAT IS UTF-8 is characters
width_back : (c t : List ℕ) (n : ℕ) → width (c ++ t) 0 ≡ suc n → length c ≡ suc n → width c 0 ≡ suc n
unfolding width
width_back c t n e l = row (following table37 (byte (c ++ t) 0)) refl
  where
    row : (o : Option (List Range)) → following table37 (byte (c ++ t) 0) ≡ o → width c 0 ≡ suc n
    row none f = let z = rw (f, width) at e in absurd (omega arith)
    row (some rs) f =
        cases (follow rs (c ++ t) 1)
        (λ g.
        let z : suc (length rs) ≡ suc n = rw (f, g, width) at e in
        rw (← byte_front c t 0 (omega arith), f, ← follow_front c t rs 1 (omega arith), g, width) z)
        (λ g. let z = rw (f, g, width) at e in absurd (omega arith))

pub width_at : (s : List ℕ) (i : ℕ) → i ≤ length s → width s i ≡ width (drop i s) 0
width_at s i h =
    let e : length (take i s) + 0 ≡ i = omega (arith, length-take-le i s h) in
    ap₂ width (sym (take-append-drop i s)) (sym e) ∙ width_after (take i s) (drop i s) 0

from_formed : (n : ℕ) (s : List ℕ) (i : ℕ) → i ≤ length s → length s ≤ formed_from n s i → Chars (drop i s)
unfolding formed_from
from_formed zero s i h k = rw (drop_of_length-le s k) no_char
from_formed (suc n) s i h k = go (λ j a b. from_formed n s j a b) (width s i) refl
  where
    go : ((j : ℕ) → j ≤ length s → length s ≤ formed_from n s j → Chars (drop j s)) → (w : ℕ) → width s i ≡ w → Chars (drop i s)
    go ih zero e = let z : length s ≤ i = rw (e, formed_from) at k in rw (drop_of_length-le s z) no_char
    go ih (suc w) e =
        let z : length s ≤ formed_from n s (i + suc w) = rw (e, formed_from) at k in
        let m = width_in s i h in
        let l : i + suc w ≤ length s = omega arith in
        let c = take (suc w) (drop i s) in
        let t = drop (suc w) (drop i s) in
        let d : length c ≡ suc w = length-take-le (suc w) (drop i s) (omega (arith, length-drop i s)) in
        let v : width (c ++ t) 0 ≡ suc w = ap (λ x. width x 0) (take-append-drop (suc w) (drop i s)) ∙ sym (width_at s i h) ∙ e in
        let b : Whole c = record { some_bytes = omega arith; wide = width_back c t w v d ∙ sym d } in
        let r : Chars t = rw (drop-drop (suc w) i s) (ih (i + suc w) l z) in
        rw (take-append-drop (suc w) (drop i s)) at (more c t b r)

pub utf8_chars : (s : List ℕ) → length s ≤ well_formed s → Chars s
unfolding well_formed
utf8_chars s h = from_formed (length s) s 0 (omega arith) h

-- the test says exactly that
pub is_chars : (t : List ℕ) → is_utf8 t ≡ true → Chars t
unfolding is_utf8
is_chars t h = utf8_chars t (leb-true (length t) (well_formed t) h)
