-- Each move goes ahead and stays in the body, and each refusal has a number of 10 to 28 and that number's details. Assumes nothing.
use Rattle.std.specs.Prelude.{if◌then◌else◌}
use mathlib.Core.Path.{◌≡◌, refl}
use mathlib.Core.Bool.{Bool, true, false, ◌&&◌, not, false≢true}
use mathlib.Core.List.{List, [], ◌∷◌, ◌++◌}
use mathlib.Core.Option.{Option, none, some}
use Prim.Native.Nat.{ℕ, zero, suc, ◌+◌, ◌-◌, ◌*◌, ◌/◌, ◌%◌, ◌≤◌, ◌<◌}
use native.Mathlib.Omega.{arith}
use lib.Dec.{T, ltb, leb, eqb}
use lib.ListN.{length, drop, length-append, length-take, length-replicate}
use borrow.Author.Tests.{leb-true, leb-false}
use Rattle.definition.specs.Numbers.{is_bytes, is_raw, of_body, detailed, unicode_error, name_not_held, string_error, empty_expression, too_many_brackets, mismatched_delimiter, unterminated_string}
use Rattle.definition.specs.Chars.{◌is◌, part, no_code, at_end, inside, ◌to◌, code, next, char, utf8, before}
use Rattle.definition.specs.Escapes.{Naming, Fault, fault, Read, got, refused, Meaning, stands, stays, vanishes, octal_digit, octal_from, hex_digit, scalar, hex_from, named, unicode_name, EscapeCase, ended, simple, octal, hex, name, newline, foreign, other, escape_case, escape, encode, meant}
use Rattle.definition.specs.Body.{Signs, Piece, literal, field, spec, Bracket, wrong, Move, goes, stops, calls, ends, with_escape, StringCase, string_case, string_move, TextCase, deep, opens, last, doubled, lone, text_case, text_move, Field, state, with_equals, with_close, is_blank, add, documented, formatted, spaced, FieldCase, pair, converts, documents, formats, opener, closes, closer, quote, space, backslash, stray, outside, field_case, case_of, conversion_move, open_move, matching, close_move, quote_move, field_move, filled, finished, specified, self_documenting, field_pieces, conversion_of}
use Rattle.definition.proofs.Moves.CharLaws.{next_past, next_in, next_from}
use Rattle.definition_laws.proofs.Moves.Adds.{sees_char, adds_pair, closing, adds_quoted}
use Rattle.definition_laws.proofs.Moves.Cases.{Tells, told}
use Rattle.definition_laws.proofs.Moves.OpenBrackets.{Level, Open, Wrong, open_on, open_more, open_less, closes_wrong}

-- the number is one of a body's, with its details
abbrev pub OfBody : (number a b : ℕ) → Type 0
OfBody number a b = T (of_body number && detailed number a b)

-- WHERE A BRACKET WAS OPENED is said by 23 alone
abbrev pub Names : List ℕ → Fault → Bool → Type 0
Names s x true = Wrong s x.taken x.opened x.a x.b
Names s x false = x.opened ≡ 0

-- what a fault in a body says
abbrev pub Says : List ℕ → Fault → Type 0
Says s x = OfBody x.number x.a x.b × Names s x (eqb x.number mismatched_delimiter)

-- a reading from i on, with the brackets o open, ends in the body, at i or later, or is refused in the body by a number of 10 to 28
abbrev pub SoundIn : {A : Type 0} → List Bracket → List ℕ → ℕ → Read A → Type 0
SoundIn o s i (got v j) = (i ≤ j) × (j ≤ length s)
SoundIn o s i (refused x) = (Open s i o → Says s x) × (x.taken ≤ length s)

abbrev pub Sound : {A : Type 0} → List ℕ → ℕ → Read A → Type 0
Sound = SoundIn []

-- a text's size, and that of pieces: twice what a text will weigh, and a record for each piece
abbrev pub text_size : List ℕ → ℕ
text_size text = length text + length text

abbrev pub weight : List Piece → ℕ
weight [] = 0
weight (literal d t ∷ ps) = 1 + length t + weight ps
weight (field d e c n i g ∷ ps) = 1 + length e + weight ps
weight (spec n ∷ ps) = 1 + weight ps

-- a move at i from a state of size w with the brackets o open: past i, with at most four more for each byte; C is what holds where it calls, and E
-- where it ends
abbrev pub AheadIn : {A : Type 0} → (A → List Bracket) → List Bracket → (A → ℕ) → ℕ → Type 0 → Type 0 → List ℕ → ℕ → Move A → Type 0
AheadIn brackets o size w C E s i (goes j a) = (i < j) × (j ≤ length s) × (size a + 4 * i ≤ w + 4 * j) × (Open s i o → Open s j (brackets a))
AheadIn brackets o size w C E s i (stops x) = (Open s i o → Says s x) × (x.taken ≤ length s)
AheadIn brackets o size w C E s i calls = C
AheadIn brackets o size w C E s i ends = E

-- where nothing can be open
abbrev pub Ahead : {A : Type 0} → (A → ℕ) → ℕ → Type 0 → Type 0 → List ℕ → ℕ → Move A → Type 0
Ahead size = AheadIn (λ a. []) [] size

-- from a later place on is from an earlier one on
pub later : {A : Type 0} (o o' : List Bracket) (s : List ℕ) (i j : ℕ) (r : Read A) → i ≤ j → (Open s i o → Open s j o') → SoundIn o' s j r → SoundIn o s i r
later o o' s i j (got v k) h c p = (omega arith, p.1)
later o o' s i j (refused x) h c p = (λ q. p.0 (c q), p.1)

pub onward : {A : Type 0} (s : List ℕ) (i j : ℕ) (r : Read A) → i ≤ j → Sound s j r → Sound s i r
onward s i j r h p = later [] [] s i j r h (λ q. q) p

-- ESCAPES
pub octal_sound : (n v : ℕ) (s : List ℕ) (i : ℕ) → i ≤ length s → Sound s i (octal_from n v s i)
unfolding octal_from
octal_sound zero v s i h = (omega arith, h)
octal_sound (suc n) v s i h =
    go (ltb (octal_digit (code s i)) 8) refl (octal_sound n (v * 8 + octal_digit (code s i)) s (next s i) (next_in s i h))
  where
    more : Read Meaning
    more = octal_from n (v * 8 + octal_digit (code s i)) s (next s i)

    go : (t : Bool) → ltb (octal_digit (code s i)) 8 ≡ t → Sound s (next s i) more → Sound s i (octal_from (suc n) v s i)
    go true e p = rw (e, octal_from) (onward s i (next s i) more (next_from s i) p)
    go false e p = rw (e, octal_from) (omega arith, h)

scalar_sound : (v : ℕ) (s : List ℕ) (i j letter : ℕ) → i ≤ j → j ≤ length s → letter ≤ length s → Sound s i (scalar v j letter)
unfolding scalar
scalar_sound v s i j letter h k l = go (inside (0xD800 to 0xDFFF) v) (leb v 0x10FFFF)
  where
    go : (x y : Bool) → Sound s i (if x then got (stands 0xFFFD) j else if y then got (stands v) j else refused (fault unicode_error letter))
    go true y = (h, k)
    go false true = (h, k)
    go false false = (λ q. (tt, refl), l)

pub hex_sound : (n v : ℕ) (s : List ℕ) (i letter : ℕ) → i ≤ length s → letter ≤ length s → Sound s i (hex_from n v s i letter)
unfolding hex_from
hex_sound zero v s i letter h l = scalar_sound v s i i letter (omega arith) h l
hex_sound (suc n) v s i letter h l =
    go (ltb (hex_digit (code s i)) 16) refl (hex_sound n (v * 16 + hex_digit (code s i)) s (next s i) letter (next_in s i h) l)
  where
    more : Read Meaning
    more = hex_from n (v * 16 + hex_digit (code s i)) s (next s i) letter

    go : (t : Bool) → ltb (hex_digit (code s i)) 16 ≡ t → Sound s (next s i) more → Sound s i (hex_from (suc n) v s i letter)
    go true e p = rw (e, hex_from) (onward s i (next s i) more (next_from s i) p)
    go false e p = rw (e, hex_from) (λ q. (tt, refl), l)

pub named_sound : (look : Naming) → (s : List ℕ) (i m : ℕ) → i + m < length s → Sound s i (named look s i m)
unfolding named
named_sound look s i m h = go (ltb 88 m) (eqb (look (part s i (i + m))) no_code)
  where
    c : ℕ
    c = look (part s i (i + m))

    go : (x y : Bool) → Sound s i (if x then refused (fault unicode_error (i + m + 1)) else if y then refused (fault name_not_held i) else got (stands c) (i + m + 1))
    go true y = (λ q. (tt, refl), omega arith)
    go false true = (λ q. (tt, refl), omega arith)
    go false false = (omega arith, omega arith)

inner_in : (s : List ℕ) (i : ℕ) → at_end s i ≡ false → i < length s
inner_in s i e = leb-false (length s) i e

name_sound : (look : Naming) → (s : List ℕ) (i : ℕ) → i ≤ length s → Sound s i (unicode_name look s i)
unfolding unicode_name
name_sound look s i h = go (not (code s i is "{")) (at_end s (a + m)) refl
  where
    a : ℕ
    a = next s i

    m : ℕ
    m = before (λ b. b is "}") (drop a s)

    go : (x y : Bool) → at_end s (a + m) ≡ y → Sound s i (if x then refused (fault string_error i) else if y then refused (fault string_error (length s)) else named look s a m)
    go true y e = (λ q. (tt, refl), h)
    go false true e = (λ q. (tt, refl), omega arith)
    go false false e = onward s i a (named look s a m) (next_from s i) (named_sound look s a m (inner_in s (a + m) e))

escape_at_end : (kind : ℕ) (s : List ℕ) (i : ℕ) → at_end s i ≡ true → escape_case kind s i ≡ ended
unfolding escape_case
escape_at_end kind s i e = rw e

-- an escape takes a character
pub escape_sound : (look : Naming) → (kind : ℕ) (s : List ℕ) (i : ℕ) → i ≤ length s → Sound s (i + 1) (escape look kind s i)
unfolding escape
escape_sound look kind s i l = at_end_lem (at_end s i) refl
  where
    a : ℕ
    a = next s i

    k : a ≤ length s
    k = next_in s i l

    on : {A : Type 0} (r : Read A) → i < length s → Sound s a r → Sound s (i + 1) r
    on r h p = onward s (i + 1) a r (omega (arith, next_past s i h)) p

    go : (x : EscapeCase) → escape_case kind s i ≡ x → i < length s → Sound s (i + 1) (escape look kind s i)
    go ended e h = rw (e, escape) (λ q. (tt, refl), l)
    go (simple c) e h = rw (e, escape) (omega (arith, next_past s i h), k)
    go octal e h = rw (e, escape) (on (octal_from 2 (octal_digit (code s i)) s a) h (octal_sound 2 (octal_digit (code s i)) s a k))
    go (hex n) e h = rw (e, escape) (on (hex_from n 0 s a a) h (hex_sound n 0 s a a k k))
    go name e h = rw (e, escape) (on (unicode_name look s a) h (name_sound look s a k))
    go newline e h = rw (e, escape) (omega (arith, next_past s i h), k)
    go foreign e h = rw (e, escape) (λ q. (tt, refl), k)
    go other e h = rw (e, escape) (omega (arith, next_past s i h), k)

    at_end_lem : (t : Bool) → at_end s i ≡ t → Sound s (i + 1) (escape look kind s i)
    at_end_lem true e = rw (escape_at_end kind s i e, escape) (λ q. (tt, refl), l)
    at_end_lem false e = go (escape_case kind s i) refl (inner_in s i e)

-- what is taken as it stands is no longer than what was taken
pub part_short : (s : List ℕ) (i j : ℕ) → length (part s i j) ≤ j - i
part_short s i j = omega (arith, length-take (j - i) (drop i s))

pub utf8_short : (c : ℕ) → length (utf8 c) ≤ 4
unfolding utf8
utf8_short c = go (ltb c 0x80) (ltb c 0x800) (ltb c 0x10000)
  where
    go : (x y z : Bool)
        → length (if x then c ∷ [] else if y then (0xC0 + c / 64) ∷ (0x80 + c % 64) ∷ [] else if z then (0xE0 + c / 4096) ∷ (0x80 + c / 64 % 64) ∷ (0x80 + c % 64) ∷ [] else (0xF0 + c / 262144 % 8) ∷ (0x80 + c / 4096 % 64) ∷ (0x80 + c / 64 % 64) ∷ (0x80 + c % 64) ∷ []) ≤ 4
    go true y z = omega arith
    go false true z = omega arith
    go false false true = omega arith
    go false false false = omega arith

meant_short : (kind : ℕ) (s : List ℕ) (i j : ℕ) (m : Meaning) → i + 2 ≤ j → length (meant kind s i j m) ≤ 2 * (j - i)
unfolding meant encode
meant_short kind s i j (stands c) h = go (is_bytes kind)
  where
    go : (t : Bool) → length (if t then c % 256 ∷ [] else utf8 c) ≤ 2 * (j - i)
    go true = omega arith
    go false = omega (arith, utf8_short c)
meant_short kind s i j stays h = omega (arith, part_short s i j)
meant_short kind s i j vanishes h = omega arith

-- the escape of a backslash at i
escaped : (look : Naming) → (C E : Type 0) (kind : ℕ) (s : List ℕ) (i : ℕ) (text : List ℕ) → i < length s → Ahead text_size (text_size text) C E s i (with_escape kind s i text (escape look kind s (next s i)))
unfolding with_escape
escaped look C E kind s i text h = go (escape look kind s (next s i)) (escape_sound look kind s (next s i) (next_in s i (omega arith)))
  where
    go : (r : Read Meaning) → Sound s (next s i + 1) r → Ahead text_size (text_size text) C E s i (with_escape kind s i text r)
    go (got m j) p =
        let n = next_past s i h in
        (omega arith, p.1, omega (arith, meant_short kind s i j m (omega arith), length-append text (meant kind s i j m)), λ q. q)
    go (refused x) p = p

-- one character further, with it or without
on_by_one : (s : List ℕ) (i : ℕ) → i < length s → (i < next s i) × (next s i ≤ length s)
on_by_one s i h = (next_past s i h, next_in s i (omega arith))

-- two characters further
on_by_two : (s : List ℕ) (i : ℕ) → i < length s → (i < next s (next s i)) × (next s (next s i) ≤ length s)
on_by_two s i h =
    (omega (arith, next_past s i h, next_from s (next s i)), next_in s (next s i) (next_in s i (omega arith)))

char_short : (s : List ℕ) (i : ℕ) (text : List ℕ) → length (text ++ char s i) + i ≤ length text + next s i
unfolding char
char_short s i text = omega (arith, next_from s i, part_short s i (next s i), length-append text (part s i (next s i)))

with_char : (s : List ℕ) (i j : ℕ) (text : List ℕ) → (i < j) × (j ≤ length s) → next s i ≤ j → (i < j) × (j ≤ length s) × (text_size (text ++ char s i) + 4 * i ≤ text_size text + 4 * j) × (Open s i [] → Open s j [])
with_char s i j text h l = (h.0, h.1, omega (arith, char_short s i text), λ q. q)

-- STRING AND BYTES BODIES
string_at_end : (kind : ℕ) (s : List ℕ) (i : ℕ) → at_end s i ≡ true → string_case kind s i ≡ StringCase.over
unfolding string_case
string_at_end kind s i e = rw e

string_inside : (kind : ℕ) (s : List ℕ) (i : ℕ) → at_end s i ≡ false → string_case kind s i ≡ StringCase.over → ⊥
unfolding string_case
string_inside kind s i e h = go (code s i is "\\" && not (is_raw kind)) refl (is_bytes kind && leb 0x80 (code s i)) refl
  where
    go : (a : Bool) → (code s i is "\\" && not (is_raw kind)) ≡ a → (b : Bool) → (is_bytes kind && leb 0x80 (code s i)) ≡ b → ⊥
    go true p b q = let k = rw (e, p) at h in let z : ◌≡◌ {A = ℕ} 0 1 = cc in omega arith
    go false p true q = let k = rw (e, p, q) at h in let z : ◌≡◌ {A = ℕ} 0 1 = cc in omega arith
    go false p false q = let k = rw (e, p, q) at h in let z : ◌≡◌ {A = ℕ} 0 1 = cc in omega arith

-- it ends only where the body does
pub string_ahead : (look : Naming) → (kind : ℕ) (s : List ℕ) (i : ℕ) (text : List ℕ) → Ahead text_size (text_size text) ⊥ (length s ≤ i) s i (string_move look kind s i text)
unfolding string_move
string_ahead look kind s i text = at_end_lem (at_end s i) refl
  where
    go : (x : StringCase) → string_case kind s i ≡ x → at_end s i ≡ false → i < length s → Ahead text_size (text_size text) ⊥ (length s ≤ i) s i (string_move look kind s i text)
    go StringCase.over e f h = absurd (string_inside kind s i f e)
    go StringCase.escapes e f h = rw (e, string_move) (escaped look ⊥ (length s ≤ i) kind s i text h)
    go StringCase.foreign e f h = rw (e, string_move) (λ q. (tt, refl), next_in s i (omega arith))
    go StringCase.plain e f h = rw (e, string_move) (with_char s i (next s i) text (on_by_one s i h) (omega arith))

    at_end_lem : (t : Bool) → at_end s i ≡ t → Ahead text_size (text_size text) ⊥ (length s ≤ i) s i (string_move look kind s i text)
    at_end_lem true e = rw (string_at_end kind s i e, string_move) (leb-true _ _ e)
    at_end_lem false e = go (string_case kind s i) refl e (inner_in s i e)

-- F-STRING TEXT
text_at_end : (kind : ℕ) (s : List ℕ) (depth i : ℕ) → at_end s i ≡ true → text_case kind s depth i ≡ (if leb 2 depth then deep else TextCase.over)
unfolding text_case
text_at_end kind s depth i e = rw e

pub text_ahead : (look : Naming) → (kind : ℕ) (s : List ℕ) (depth i : ℕ) (text : List ℕ) → i ≤ length s → Ahead text_size (text_size text) (i < length s) (Unit {0}) s i (text_move look kind s depth i text)
unfolding text_move
text_ahead look kind s depth i text l = at_end_lem (at_end s i) refl
  where
    deep-or-over : (t : Bool) → text_case kind s depth i ≡ (if t then deep else TextCase.over) → Ahead text_size (text_size text) (i < length s) (Unit {0}) s i (text_move look kind s depth i text)
    deep-or-over true e = rw (e, text_move) (λ q. (tt, refl), l)
    deep-or-over false e = rw (e, text_move) tt

    go : (x : TextCase) → text_case kind s depth i ≡ x → i < length s → Ahead text_size (text_size text) (i < length s) (Unit {0}) s i (text_move look kind s depth i text)
    go deep e h = rw (e, text_move) (λ q. (tt, refl), l)
    go TextCase.over e h = rw (e, text_move) tt
    go opens e h = rw (e, text_move) h
    go last e h = rw (e, text_move) (λ q. (tt, refl), next_in s i l)
    go doubled e h = rw (e, text_move) (with_char s i (next s (next s i)) text (on_by_two s i h) (next_from s (next s i)))
    go lone e h = rw (e, text_move) (λ q. (tt, refl), next_in s i l)
    go TextCase.escapes e h = rw (e, text_move) (escaped look (i < length s) (Unit {0}) kind s i text h)
    go TextCase.plain e h = rw (e, text_move) (with_char s i (next s i) text (on_by_one s i h) (omega arith))

    at_end_lem : (t : Bool) → at_end s i ≡ t → Ahead text_size (text_size text) (i < length s) (Unit {0}) s i (text_move look kind s depth i text)
    at_end_lem true e = deep-or-over (leb 2 depth) (text_at_end kind s depth i e)
    at_end_lem false e = go (text_case kind s depth i) refl (inner_in s i e)

-- A FIELD, which ends at its `}`
-- the brackets that are open
abbrev pub brackets_of : Field → List Bracket
brackets_of (state e b o c d w g) = o

field_at_end : (s : List ℕ) (i : ℕ) (f : Field) → at_end s i ≡ true → case_of s i f ≡ FieldCase.over
unfolding case_of field_case
field_at_end s i (state e b o c d w g) h = rw h

-- the size of a field's state: the expression, the spaces and the `=`, four times, so that each byte adds one
abbrev pub field_size : Field → ℕ
field_size (state e b o c d w g) = 4 * (length e + w + (if d then 1 else 0))

add_size : (t : List ℕ) (b : Bool) (f : Field) → field_size (add t b f) ≡ field_size f + 4 * length t
unfolding add
add_size t b' (state e b o c d w g) = omega (arith, length-append e t)

add_open : (t : List ℕ) (b : Bool) (f : Field) → brackets_of (add t b f) ≡ brackets_of f
unfolding add
add_open t b' (state e b o c d w g) = refl

-- outside brackets none is open
pub none_open : (o : List Bracket) → outside o ≡ true → o ≡ []
unfolding outside
none_open [] h = refl
none_open (a ∷ o) h = absurd (false≢true h)

-- a field's move at i from a state
abbrev pub FieldAhead : List ℕ → ℕ → Field → Move Field → Type 0
FieldAhead s i f = AheadIn brackets_of (brackets_of f) field_size (field_size f) (i < length s) (i < length s) s i

module _ (s : List ℕ) (i : ℕ) (h : i < length s) where
  -- more of the expression, up to j
  with_part : (f : Field) (j : ℕ) (b : Bool) → (i < j) × (j ≤ length s) → Level (part s i j) → FieldAhead s i f (goes j (add (part s i j) b f))
  with_part f j b k l =
      (k.0, k.1, omega (arith, add_size (part s i j) b f, part_short s i j), λ q. rw (add_open (part s i j) b f) (open_on s i j (brackets_of f) (omega arith) l q))

  quote_ahead : (f : Field) → (code s i is "\"'") ≡ true → FieldAhead s i f (quote_move s i f)
  unfolding quote_move
  quote_ahead f p = go (at_end s (closing s i)) refl
    where
      go : (t : Bool) → at_end s (closing s i) ≡ t → FieldAhead s i f (if t then stops (fault unterminated_string (length s)) else goes (closing s i + 1) (add (part s i (closing s i + 1)) false f))
      go true e = (λ q. (tt, refl), omega arith)
      go false e =
          let c : closing s i < length s = inner_in s (closing s i) e in
          with_part f (closing s i + 1) false (omega (arith, next_from s i), omega arith) (λ o. (adds_quoted s i p c o).sees)

  module _ (e : List ℕ) (b : Bool) (o : List Bracket) (c : ℕ) (d : Bool) (w : ℕ) (g : Signs) where
    abbrev Goes : Move Field → Type 0
    Goes = FieldAhead s i (state e b o c d w g)

    conversion_ahead : outside o ≡ true → Goes (conversion_move s i (state e b o c d w g))
    unfolding conversion_move
    conversion_ahead out = go b refl (at_end s a) refl (not (code s a is "sar")) refl (code s (next s a) is "}:") refl
      where
        a : ℕ
        a = next s i

        go : (x : Bool) → b ≡ x → (y : Bool) → at_end s a ≡ y → (z : Bool) → not (code s a is "sar") ≡ z → (t : Bool) → (code s (next s a) is "}:") ≡ t → Goes (conversion_move s i (state e b o c d w g))
        go true p y q z r t u = rw p (λ q. (tt, refl), (on_by_one s i h).1)
        go false p true q z r t u = rw (p, q) (λ q. (tt, refl), (on_by_one s i h).1)
        go false p false q true r t u = rw (p, q, r) (λ q. (tt, refl), (on_by_two s i h).1)
        go false p false q false r true u = let k = on_by_two s i h in rw (p, q, r, u) (k.0, k.1, omega arith, λ v. rw (none_open o out) tt)
        go false p false q false r false u = rw (p, q, r, u) (λ q. (tt, refl), (on_by_two s i h).1)

    -- a bracket goes into the expression
    with_bracket : (o' : List Bracket) → (Open s i o → Open s (next s i) o') → Goes (goes (next s i) (state (e ++ char s i) false o' c d w g))
    with_bracket o' t = let k = on_by_one s i h in (k.0, k.1, omega (arith, char_short s i e), t)

    open_ahead : (code s i is "([{") ≡ true → Goes (open_move s i (state e b o c d w g))
    unfolding open_move
    open_ahead p = go (ltb (length o) 64)
      where
        more : List Bracket
        more = record { bracket = code s i; taken = next s i } ∷ o

        go : (x : Bool) → Goes (if x then goes (next s i) (state (e ++ char s i) false more c d w g) else stops (fault too_many_brackets (next s i)))
        go true = with_bracket more (open_more s i o p)
        go false = (λ q. (tt, refl), (on_by_one s i h).1)

    -- the state goes on as it is, but for its `=` or its spaces
    skipping : (d' : Bool) (w' : ℕ) (g' : Signs) → field_size (state e b o c d' w' g') ≤ field_size (state e b o c d w g) + 4 → (Open s i o → Open s (next s i) o) → Goes (goes (next s i) (state e b o c d' w' g'))
    skipping d' w' g' l t = let k = on_by_one s i h in (k.0, k.1, omega arith, t)

  close_ahead : (e : List ℕ) (b : Bool) (o : List Bracket) (c : ℕ) (d : Bool) (w : ℕ) (g : Signs) → (code s i is ")]}") ≡ true → Goes e b o c d w g (close_move s i (state e b o c d w g))
  unfolding close_move
  close_ahead e b [] c d w g p = (λ q. (rw p tt, refl), (on_by_one s i h).1)
  close_ahead e b (x ∷ o) c d w g p = go (matching x.bracket (code s i)) refl
    where
      go : (t : Bool) → matching x.bracket (code s i) ≡ t → Goes e b (x ∷ o) c d w g (if t then goes (next s i) (state (e ++ char s i) false o c d w g) else stops (wrong (next s i) x (code s i)))
      go true m = with_bracket e b (x ∷ o) c d w g o (open_less s i x o p m)
      go false m = (λ q. (rw (q.0.opens, p) tt, closes_wrong s i x q.0 p m), (on_by_one s i h).1)

  -- by the case of the character
  case_ahead : (e : List ℕ) (b : Bool) (o : List Bracket) (c : ℕ) (d : Bool) (w : ℕ) (g : Signs) → Goes e b o c d w g (field_move s i (state e b o c d w g))
  unfolding field_move case_of char documented spaced
  case_ahead e b o c d w g = go (field_case s i (outside o) d) refl
    where
      f : Field
      f = state e b o c d w g

      tells : (x : FieldCase) → field_case s i (outside o) d ≡ x → Tells s i (outside o) x
      tells = told s i (outside o) d

      go : (x : FieldCase) → field_case s i (outside o) d ≡ x → Goes e b o c d w g (field_move s i f)
      go FieldCase.over q = rw (q, field_move) (λ q. (tt, refl), omega arith)
      go pair q = let t = tells pair q in rw (q, field_move) (with_part f (next s (next s i)) false (on_by_two s i h) (λ o. (adds_pair s i t.0 t.1 o).sees))
      go converts q = rw (q, field_move) (conversion_ahead e b o c d w g (tells converts q).0)
      go documents q = rw (q, field_move) (skipping e b o c d w g true w (with_equals (next s i) g) (omega arith) (λ r. rw (none_open o (tells documents q).0) tt))
      go formats q = rw (q, field_move) h
      go opener q = rw (q, field_move) (open_ahead e b o c d w g (tells opener q))
      go closes q = rw (q, field_move) h
      go closer q = rw (q, field_move) (close_ahead e b o c d w g (tells closer q))
      go quote q = rw (q, field_move) (quote_ahead f (tells quote q))
      go space q =
          rw (q, field_move)
          (skipping e b o c d w g d (suc w) g (omega arith) (open_on s i (next s i) o (next_from s i) (λ o. sees_char s i h (rw (tells space q) (refl, refl, refl, refl)) o)))
      go backslash q = rw (q, field_move) (λ q. (tt, refl), (on_by_one s i h).1)
      go stray q = rw (q, field_move) (λ q. (tt, refl), (on_by_one s i h).1)
      go FieldCase.plain q = rw (q, field_move) (with_part f (next s i) (is_blank (code s i)) (on_by_one s i h) (λ o. sees_char s i h (tells FieldCase.plain q).1 o))

pub field_ahead : (s : List ℕ) (i : ℕ) (f : Field) → i ≤ length s → FieldAhead s i f (field_move s i f)
unfolding field_move
field_ahead s i (state e b o c d w g) l = go (at_end s i) refl
  where
    go : (t : Bool) → at_end s i ≡ t → FieldAhead s i (state e b o c d w g) (field_move s i (state e b o c d w g))
    go true p = rw (field_at_end s i (state e b o c d w g) p, field_move) (λ q. (tt, refl), l)
    go false p = case_ahead s i (inner_in s i p) e b o c d w g

pub finished_sound : (o : List Bracket) (s : List ℕ) (depth from i j : ℕ) (f : Field) (p : Option (List Piece)) → i ≤ j → j ≤ length s → SoundIn o s i (finished depth from j f p)
unfolding finished
finished_sound o' s depth from i j (state e b o c d w g) p h k = go b
  where
    go : (x : Bool) → SoundIn o' s i (if x then refused (fault empty_expression j) else got (self_documenting depth d e w ++ field_pieces depth e (conversion_of d c p) from (with_close j g) p) j)
    go true = (λ q. (tt, refl), k)
    go false = (h, k)

pub specified_sound : (o : List Bracket) (s : List ℕ) (depth from i j : ℕ) (f : Field) (ps : List Piece) → i ≤ j → j ≤ length s → SoundIn o s i (specified s depth from j f ps)
unfolding specified
specified_sound o s depth from i j f ps h k = go (at_end s j) refl
  where
    go : (t : Bool) → at_end s j ≡ t → SoundIn o s i (specified s depth from j f ps)
    go true e = rw e (λ q. (tt, refl), k)
    go false e = rw e (finished_sound o s depth from i (next s j) f (some ps) (omega (arith, next_from s j)) (next_in s j k))

-- what was read from i on weighs at most four for each byte taken, and w
abbrev pub Light : {A : Type 0} → (A → ℕ) → ℕ → ℕ → Read A → Type 0
Light size w i (got v j) = size v + 4 * i ≤ w + 4 * j
Light size w i (refused x) = Unit {0}

pub weight_append : (ps qs : List Piece) → weight (ps ++ qs) ≡ weight ps + weight qs
weight_append [] qs = omega arith
weight_append (literal d t ∷ ps) qs = omega (arith, weight_append ps qs)
weight_append (field d e c n i g ∷ ps) qs = omega (arith, weight_append ps qs)
weight_append (spec n ∷ ps) qs = omega (arith, weight_append ps qs)

pub filled_light : (depth : ℕ) (text : List ℕ) → weight (filled depth text) ≤ text_size text
unfolding filled
filled_light depth [] = omega arith
filled_light depth (b ∷ text) = omega arith

-- a spec's weight, if there is one
abbrev spec_weight : Option (List Piece) → ℕ
spec_weight none = 0
spec_weight (some ps) = weight ps

pub formatted_size : (j : ℕ) (f : Field) → field_size (formatted j f) ≡ field_size f
unfolding formatted
formatted_size j (state e b o c d w g) = refl

pub finished_light : (depth from i j : ℕ) (f : Field) (p : Option (List Piece)) → i < j → Light weight (field_size f + spec_weight p) i (finished depth from j f p)
unfolding finished self_documenting field_pieces
finished_light depth from i j (state e b o c d w g) p h = go b
  where
    c' : ℕ
    c' = conversion_of d c p

    pieces : (d : Bool) (p : Option (List Piece)) → weight (self_documenting depth d e w ++ field_pieces depth e c' from (with_close j g) p) + 4 * i ≤ 4 * (length e + w + (if d then 1 else 0)) + spec_weight p + 4 * j
    pieces true none = omega (arith, length-append e (61 ∷ []), length-replicate {A = ℕ} w 32)
    pieces true (some ps) = omega (arith, length-append e (61 ∷ []), length-replicate {A = ℕ} w 32)
    pieces false none = omega arith
    pieces false (some ps) = omega arith

    go : (x : Bool) → Light weight (field_size (state e b o c d w g) + spec_weight p) i (if x then refused (fault empty_expression j) else got (self_documenting depth d e w ++ field_pieces depth e c' from (with_close j g) p) j)
    go true = tt
    go false = pieces d p

pub specified_light : (s : List ℕ) (depth from i j : ℕ) (f : Field) (ps : List Piece) → i < j → weight ps + 4 * i ≤ 4 * j → Light weight (field_size f) i (specified s depth from j f ps)
unfolding specified
specified_light s depth from i j f ps h l = go (at_end s j) refl
  where
    less : (r : Read (List Piece)) → Light weight (field_size f + weight ps) j r → Light weight (field_size f) i r
    less (got qs k) q = omega arith
    less (refused x) q = tt

    go : (t : Bool) → at_end s j ≡ t → Light weight (field_size f) i (specified s depth from j f ps)
    go true e = rw e tt
    go false e = rw e (less (finished depth from (next s j) f (some ps)) (finished_light depth from j (next s j) f (some ps) (next_past s j (inner_in s j e))))
