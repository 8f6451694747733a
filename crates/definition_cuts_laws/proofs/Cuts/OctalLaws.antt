-- A cut among the digits of an octal escape changes the text: it never gets shorter, and it is not the same. Assumes nothing.
use mathlib.Core.Path.{◌≡◌, refl, sym, ◌∙◌, ap, subst}
use mathlib.Core.Bool.{Bool, true, false}
use mathlib.Core.List.{List, [], ◌∷◌, ◌++◌, append_assoc, append-nil}
use Prim.Native.Nat.{ℕ, zero, suc, ◌+◌, ◌*◌, ◌/◌, ◌%◌, ◌≤◌, ◌<◌}
use native.Mathlib.Omega.{arith}
use borrow.Author.Tests.{ltb-true, ltb-false, lt-ltb, le-ltb, leb-true, leb-false, ne_eqb}
use lib.Dec.{ltb, leb}
use lib.ListN.{length, length-append}
use Rattle.definition.specs.Chars.{inside, ◌to◌, code, next, char, utf8}
use Rattle.definition.specs.Escapes.{Naming, got, stands, octal_digit, octal_from}
use Rattle.definition.specs.Body.{Piece, literal, field, spec, goes, text_move, filled}
use Rattle.definition.specs.Records.{texts}
use Rattle.definition.proofs.Moves.CharLaws.{no, cases, inside_true, next_in, next_ascii, code_end}
use Rattle.definition_laws.proofs.Moves.Adds.{ascii_in, char_length}
use Rattle.definition_cuts_laws.proofs.Tokens.TokenSteps.{Eq, step, step_goes, Steps, here, more}
use Rattle.definition_cuts_laws.proofs.Tokens.TokenPaths.{plain_if}
use Rattle.definition_cuts_laws.proofs.Tokens.PieceLaws.{Small, small_more, small_64, octal_on}
use Rattle.definition_cuts_laws.proofs.Cuts.ShapeLaws.{heads, tails, text_of, norm_text}

-- the text of pieces
pub text_append : (ps qs : List Piece) → text_of (ps ++ qs) ≡ text_of ps ++ text_of qs
text_append [] qs = refl
text_append (literal d t ∷ ps) qs = ap (λ l. t ++ l) (text_append ps qs) ∙ sym (append_assoc t (text_of ps) (text_of qs))
text_append (field d e c n i g ∷ ps) qs = ap (λ l. e ++ l) (text_append ps qs) ∙ sym (append_assoc e (text_of ps) (text_of qs))
text_append (spec n ∷ ps) qs = text_append ps qs

pub text_filled : (t : List ℕ) → text_of (filled 0 t) ≡ t
unfolding filled
text_filled [] = refl
text_filled (x ∷ t) = append-nil (x ∷ t)

pub text_eq : (ps qs : List Piece) → Eq ps qs → text_of ps ≡ text_of qs
text_eq ps qs e = sym (norm_text ps) ∙ ap texts e ∙ norm_text qs

-- AN OCTAL DIGIT alone is a plain character of one byte
pub digit_code : (c : ℕ) → ltb (octal_digit c) 8 ≡ true → (48 ≤ c) × (c ≤ 55)
unfolding octal_digit
digit_code c h = cases (inside (48 to 55) c) (λ t. inside_true 48 55 c t) (λ t. no (rw t at h))

digit_there : (s : List ℕ) (x : ℕ) → code s x ≤ 55 → x < length s
digit_there s x h = cases (leb (length s) x) (λ t. let z = code_end s x (leb-true _ _ t) in absurd (omega arith)) (λ t. leb-false _ _ t)

pub digit_step : (look : Naming) (s : List ℕ) (x : ℕ) → ltb (octal_digit (code s x)) 8 ≡ true
    → (x < length s) × (next s x ≡ x + 1) × (length (char s x) ≡ 1) × (step look s x ≡ got (filled 0 (char s x)) (next s x))
unfolding text_move
digit_step look s x h =
    let d = digit_code (code s x) h in
    let l = digit_there s x d.1 in
    let n = next_ascii s x (ascii_in s x (omega arith)) in
    let q = plain_if s x l (ne_eqb (code s x) 123 (λ e. omega arith)) (ne_eqb (code s x) 125 (λ e. omega arith)) (ne_eqb (code s x) 92 (λ e. omega arith)) in
    let m : text_move look 1 s 0 x [] ≡ goes (next s x) (char s x) = rw (q, text_move) refl in
    (l, n, omega (arith, char_length s x l), step_goes look s x (next s x) (char s x) m)

-- digits, each alone: one byte of text for each
pub digits_steps : (look : Naming) (n w : ℕ) (s : List ℕ) (x v e : ℕ) → x ≤ length s → octal_from n w s x ≡ got (stands v) e
    → (ds : List Piece) × Steps look s x e ds × (length (text_of ds) + x ≡ e)
unfolding octal_from
digits_steps look zero w s x v e l f = let z : x ≡ e = cc in ([], subst (λ (k : ℕ). Steps look s x k []) z here, omega arith)
digits_steps look (suc n) w s x v e l f = go (ltb (octal_digit (code s x)) 8) refl (λ w x l f. digits_steps look n w s x v e l f)
  where
    go : (t : Bool) → ltb (octal_digit (code s x)) 8 ≡ t
        → ((w x : ℕ) → x ≤ length s → octal_from n w s x ≡ got (stands v) e → (ds : List Piece) × Steps look s x e ds × (length (text_of ds) + x ≡ e))
        → (ds : List Piece) × Steps look s x e ds × (length (text_of ds) + x ≡ e)
    go true t ih =
        let D = digit_step look s x t in
        let R = ih (w * 8 + octal_digit (code s x)) (next s x) (next_in s x l) (rw (t, octal_from) at f) in
        let c = filled 0 (char s x) in
        let len = ap length (text_append c R.0 ∙ ap (λ l. l ++ text_of R.0) (text_filled (char s x))) ∙ length-append (char s x) (text_of R.0) in
        (c ++ R.0, more D.0 D.3 R.1, omega (arith, D.1, D.2, R.2))
    go false t ih =
        let f' : got (stands w) x ≡ got (stands v) e = rw (t, octal_from) at f in
        let z : x ≡ e = cc in
        ([], subst (λ (k : ℕ). Steps look s x k []) z here, omega arith)

-- with a digit there is a byte
pub digits_more : (look : Naming) (n w : ℕ) (s : List ℕ) (x v e : ℕ) → octal_from (suc n) w s x ≡ got (stands v) e → ltb (octal_digit (code s x)) 8 ≡ true
    → (ds : List Piece) × Steps look s x e ds × (1 ≤ length (text_of ds)) × (x < e)
digits_more look n w s x v e f t =
    let D = digit_step look s x t in
    let l = D.0 in
    let R = digits_steps look n (w * 8 + octal_digit (code s x)) s (next s x) v e (next_in s x (omega arith)) (sym (octal_on n w s x t) ∙ f) in
    let c = filled 0 (char s x) in
    let len = ap length (text_append c R.0 ∙ ap (λ l. l ++ text_of R.0) (text_filled (char s x))) ∙ length-append (char s x) (text_of R.0) in
    (c ++ R.0, more l D.3 R.1, omega (arith, D.2), omega (arith, D.1, R.2))

octal_small : (n w : ℕ) (s : List ℕ) (x v e : ℕ) → Small n w → octal_from n w s x ≡ got (stands v) e → v < 512
unfolding octal_from
octal_small zero w s x v e h f = let y : w ≡ v = cc in omega arith
octal_small (suc n) w s x v e h f = go (ltb (octal_digit (code s x)) 8) refl (λ w x h f. octal_small n w s x v e h f)
  where
    go : (t : Bool) → ltb (octal_digit (code s x)) 8 ≡ t → ((w x : ℕ) → Small n w → octal_from n w s x ≡ got (stands v) e → v < 512) → v < 512
    go true t ih = ih (w * 8 + octal_digit (code s x)) (next s x) (small_more n w (octal_digit (code s x)) h (ltb-true (octal_digit (code s x)) 8 t)) (rw (t, octal_from) at f)
    go false t ih = let f' : got (stands w) x ≡ got (stands v) e = rw (t, octal_from) at f in let y : w ≡ v = cc in let z = small_64 n w h in omega arith

-- their UTF-8
one_byte : (v : ℕ) → v < 0x80 → utf8 v ≡ v ∷ []
unfolding utf8
one_byte v h = rw (lt-ltb v 0x80 h) refl

two_bytes : (v : ℕ) → 0x80 ≤ v → v < 0x800 → utf8 v ≡ (0xC0 + v / 64) ∷ (0x80 + v % 64) ∷ []
unfolding utf8
two_bytes v h l = rw (le-ltb v 0x80 h, lt-ltb v 0x800 l) refl

short_utf8 : (v : ℕ) → v < 512 → length (utf8 v) ≤ 2
short_utf8 v h =
    cases (ltb v 0x80) (λ t. rw (one_byte v (ltb-true v 0x80 t)) (omega arith))
    (λ t. rw (two_bytes v (ltb-false v 0x80 t) (omega arith)) (omega arith))

-- where the whole escape and its first digits begin alike, they are one byte each
same_start : (w v : ℕ) (q r : List ℕ) → w < 64 → v < 512 → utf8 v ++ r ≡ w ∷ q → r ≡ q
same_start w v q r a b e =
    cases (ltb v 0x80)
    (λ t. tails v w r q (sym (ap (λ l. l ++ r) (one_byte v (ltb-true v 0x80 t))) ∙ e))
    (λ t. let z = heads (0xC0 + v / 64) w _ q (sym (ap (λ l. l ++ r) (two_bytes v (ltb-false v 0x80 t) (omega arith))) ∙ e) in absurd (omega arith))

pub cancel : (t a b : List ℕ) → t ++ a ≡ t ++ b → a ≡ b
cancel [] a b e = e
cancel (x ∷ t) a b e = cancel t a b (tails x x (t ++ a) (t ++ b) e)

-- THE TEXTS DIFFER, and the pieces' is no shorter: t before the escape, r after it, q what is read from the cut on
module _ (n w : ℕ) (s : List ℕ) (x v e : ℕ) (small : Small (suc n) w) (f : octal_from (suc n) w s x ≡ got (stands v) e)
    (t r q : List ℕ) (longer : 1 + length r ≤ length q) where
  pub not_shorter : length (t ++ (utf8 v ++ r)) ≤ length (t ++ (utf8 w ++ q))
  not_shorter =
      let a = length-append t (utf8 v ++ r) in
      let b = length-append (utf8 v) r in
      let c = length-append t (utf8 w ++ q) in
      let d = length-append (utf8 w) q in
      let z = ap length (one_byte w (omega (arith, small_64 n w small))) in
      omega (arith, short_utf8 v (octal_small (suc n) w s x v e small f))

  pub differ : t ++ (utf8 v ++ r) ≡ t ++ (utf8 w ++ q) → ⊥
  differ h =
      let y = cancel t (utf8 v ++ r) (utf8 w ++ q) h ∙ ap (λ l. l ++ q) (one_byte w (omega (arith, small_64 n w small))) in
      let z = ap length (same_start w v q r (small_64 n w small) (octal_small (suc n) w s x v e small f) y) in
      omega arith
