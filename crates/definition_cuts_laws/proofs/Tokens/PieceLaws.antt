-- A piece of a body, read alone, and the body's tokens between its ends: the same, unless the piece ends among the digits of an octal escape.
-- Assumes nothing.
use mathlib.Core.Path.{◌≡◌, refl, sym, ◌∙◌, ap, ap₂, subst}
use mathlib.Core.Bool.{Bool, true, false, ◌&&◌, not}
use mathlib.Core.List.{List, [], ◌++◌, map, append_assoc, append-nil}
use mathlib.Core.Logic.{◌⊎◌, inl, inr}
use Prim.Native.Nat.{ℕ, zero, suc, ◌+◌, ◌-◌, ◌*◌, ◌≤◌, ◌<◌}
use native.Mathlib.Omega.{arith}
use borrow.Author.Tests.{ltb-true, ltb-false, eqb-true}
use lib.Dec.{ltb, leb, eqb}
use lib.ListN.{length, drop, length-drop}
use lib.Seq.{length-take-le, get_or-take, get_or-drop}
use Rattle.definition.specs.Chars.{◌is◌, byte, part, at_end, code, next, utf8}
use Rattle.definition.specs.Escapes.{Naming, Read, got, Meaning, stands, EscapeCase, ended, simple, octal, hex, name, newline, foreign, other, escape_case, octal_digit, octal_from, escape, encode, meant}
use Rattle.definition.specs.Body.{Piece, goes, with_escape, TextCase, deep, opens, last, doubled, lone, text_case, text_move, filled}
use Rattle.definition_cuts.specs.Tokens.{staying}
use Rattle.definition.proofs.Moves.CharLaws.{no, cases, next_past, next_in, Utf8}
use Rattle.definition_laws.proofs.Moves.Cases.{Told, chosen, and_both}
use Rattle.definition_laws.proofs.Moves.Moves.{octal_sound}
use Rattle.definition_cuts_laws.proofs.Windows.Window.{Window, At, in_right, is_like, next_like, code_like}
use Rattle.definition_cuts_laws.proofs.Windows.WindowEscapes.{got_later, digit_like, octal_high, octal_digit_in, edge_in, edge_end, escape_case_like}
use Rattle.definition_cuts_laws.proofs.Windows.WindowFields.{bare, Same, same_append}
use Rattle.definition_cuts_laws.proofs.Windows.WindowTexts.{text_case_like}
use Rattle.definition_cuts_laws.proofs.Tokens.TokenSteps.{top_told, step, step_goes, Steps, here, more, step_ahead}
use Rattle.definition_cuts_laws.proofs.Tokens.TokenWindow.{one_plain, Plain, step_like}
use Rattle.definition_cuts_laws.proofs.Tokens.TokenPaths.{plain_if, last_plain, Tokens, none, one, two, tokens_steps, steps_later, staying_next, staying_to}

-- a backslash that does not stay and that is plain is none
pub plain_no_backslash : (s : List ℕ) (p : ℕ) → staying s p ≡ false → text_case 1 s 0 p ≡ TextCase.plain → (code s p is "\\") ≡ false
unfolding staying
plain_no_backslash s p y q = go (code s p is "\\") (code s (next s p) is "{}") y (top_told s p TextCase.plain q).3
  where
    go : (x z : Bool) → (x && z) ≡ false → (x && not z) ≡ false → x ≡ false
    go true true e f = e
    go true false e f = f
    go false z e f = refl

-- a brace is not plain, nor an escape
pub brace_not_plain : {P : Type 0} (s : List ℕ) (p : ℕ) → (code s p is "{}") ≡ true → text_case 1 s 0 p ≡ TextCase.plain → P
brace_not_plain s p b q = let t = top_told s p TextCase.plain q in no (sym (rw (t.1, t.2) refl) ∙ b)

pub brace_not_escape : {P : Type 0} (s : List ℕ) (p : ℕ) → (code s p is "{}") ≡ true → text_case 1 s 0 p ≡ TextCase.escapes → P
brace_not_escape s p b q = let t = top_told s p TextCase.escapes q in no (rw t.1 at b)

-- THE WINDOW of a piece
module _ (s : List ℕ) (from c : ℕ) (h : from ≤ c) (l : c ≤ length s) where
  abbrev pub u : List ℕ
  u = part s from c

  pub piece_length : length (part s from c) ≡ c - from
  piece_length = length-take-le (c - from) (drop from s) (omega (arith, length-drop from s))

  pub piece_byte : (x : ℕ) → x < c - from → byte (part s from c) x ≡ byte s (from + x)
  piece_byte x k = get_or-take (c - from) (drop from s) x 256 k ∙ get_or-drop from s x 256

  pub outward : Utf8 (part s from c) → Window (part s from c) s from 0 0 (c - from)
  outward v = record {
    bytes = λ p p' e m k. piece_byte p k ∙ ap (byte s) (omega arith);
    within = omega (arith, piece_length);
    within' = omega arith;
    utf8 = v;
  }

  pub inward : Utf8 s → Window s (part s from c) 0 from from c
  inward v = record {
    bytes = λ p p' e m k. sym (piece_byte p' (omega arith) ∙ ap (byte s) (omega arith));
    within = l;
    within' = omega (arith, piece_length);
    utf8 = v;
  }

-- TOKENS OF THE BODY, up to a piece's end: steps of the piece
module _ (look : Naming) (s : List ℕ) (from c : ℕ) (h : from ≤ c) (l : c ≤ length s) (utf : Utf8 s) where
  W : Window s (part s from c) 0 from from c
  W = inward s from c h l utf

  abbrev InHere : (p p' : ℕ) → Type 0
  InHere p p' = At s (part s from c) 0 from from c W p p'

  ends_there : length (part s from c) + from ≡ c + 0
  ends_there = omega (arith, piece_length s from c h l)

  plain_in : (p p' : ℕ) → InHere p p' → p < c → staying s p ≡ false → Plain look s (part s from c) 0 from from c W p p'
  plain_in p p' m k y n q =
      let t = top_told s p TextCase.plain q in
      plain_if (part s from c) p' (in_right s (part s from c) 0 from from c W p p' m k)
      (sym (is_like s (part s from c) 0 from from c W p p' m k "{" (omega arith, tt)) ∙ t.1)
      (sym (is_like s (part s from c) 0 from from c W p p' m k "}" (omega arith, tt)) ∙ t.2)
      (sym (is_like s (part s from c) 0 from from c W p p' m k "\\" (omega arith, tt)) ∙ plain_no_backslash s p y q)

  pub piece_steps : (i k i' : ℕ) (ps : List Piece) → Tokens look s i k ps → i + 0 ≡ i' + from → from ≤ i → k ≤ c → i ≤ length s
      → (ps' : List Piece) × (k' : ℕ) × Steps look (part s from c) i' k' ps' × (k + 0 ≡ k' + from) × Same ps ps'
  piece_steps i k i' ps none m low e g = ([], i', here, m, refl)
  piece_steps i k i' ps (one {j = j} {ps = rs} {qs = qs} y a f T) m low e g =
      let b = step_ahead look s i j rs g f in
      let d = steps_later look s j k qs (tokens_steps look s j k qs T) b.1 in
      let pc : i < c = omega (arith, b.0, d.0) in
      let S = step_like look s (part s from c) 0 from from c W i i' rs j (m, low) g f (omega (arith, d.0)) (plain_in i i' (m, low) pc y) (λ x z. edge_end s (part s from c) 0 from from c W j (omega (arith, d.0)) ends_there) in
      let R = piece_steps j k S.1 qs T S.3 (omega (arith, b.0)) e b.1 in
      (S.0 ++ R.0, R.1, more (in_right s (part s from c) 0 from from c W i i' (m, low) pc) S.2 R.2, R.3, same_append rs S.0 qs R.0 S.4 R.4)
  piece_steps i k i' ps (two {j = j} {k = n} {ps = rs} {rs = ts} {qs = qs} y a a' f f' T) m low e g =
      let b = step_ahead look s i j rs g f in
      let b' = step_ahead look s j n ts b.1 f' in
      let d = steps_later look s n k qs (tokens_steps look s n k qs T) b'.1 in
      let z = staying_to look s i j rs a y f in
      let br : (code s j is "{}") ≡ true = subst (λ (x : ℕ). (code s x is "{}") ≡ true) (sym z) (staying_next look s i g y).2 in
      let pc : i < c = omega (arith, b.0, b'.0, d.0) in
      let jc : j < c = omega (arith, b'.0, d.0) in
      let S = step_like look s (part s from c) 0 from from c W i i' rs j (m, low) g f (omega arith) (λ x q. absurd (omega arith)) (λ x q. edge_end s (part s from c) 0 from from c W j (omega arith) ends_there) in
      let mj : InHere j S.1 = (S.3, omega (arith, b.0)) in
      let S' = step_like look s (part s from c) 0 from from c W j S.1 ts n mj b.1 f' (omega (arith, d.0)) (λ x q. brace_not_plain s j br q) (λ x q. brace_not_escape s j br x) in
      let R = piece_steps n k S'.1 qs T S'.3 (omega (arith, b.0, b'.0)) e b'.1 in (
        S.0 ++ (S'.0 ++ R.0),
        R.1,
        more (in_right s (part s from c) 0 from from c W i i' (m, low) pc) S.2 (more (in_right s (part s from c) 0 from from c W j S.1 mj jc) S'.2 R.2),
        R.3,
        same_append rs S.0 (ts ++ qs) (S'.0 ++ R.0) S.4 (same_append ts S'.0 qs R.0 S'.4 R.4),
      )

-- AN OCTAL ESCAPE: its value so far, where at most n digits may follow
abbrev pub Small : ℕ → ℕ → Type 0
Small zero w = w < 512
Small (suc zero) w = w < 64
Small (suc (suc zero)) w = w < 8
Small (suc (suc (suc n))) w = ⊥

pub small_more : (n w d : ℕ) → Small (suc n) w → d < 8 → Small n (w * 8 + d)
small_more zero w d h k = omega arith
small_more (suc zero) w d h k = omega arith
small_more (suc (suc n)) w d h k = absurd h

pub small_64 : (n w : ℕ) → Small (suc n) w → w < 64
small_64 zero w h = h
small_64 (suc zero) w h = omega arith
small_64 (suc (suc n)) w h = absurd h

pub octal_got : (n w : ℕ) (s : List ℕ) (i : ℕ) → (v : ℕ) × (e : ℕ) × (octal_from n w s i ≡ got (stands v) e)
unfolding octal_from
octal_got zero w s i = (w, i, refl)
octal_got (suc n) w s i = go (ltb (octal_digit (code s i)) 8) refl (octal_got n (w * 8 + octal_digit (code s i)) s (next s i))
  where
    go : (x : Bool) → ltb (octal_digit (code s i)) 8 ≡ x → (v : ℕ) × (e : ℕ) × (octal_from n (w * 8 + octal_digit (code s i)) s (next s i) ≡ got (stands v) e)
        → (v : ℕ) × (e : ℕ) × (octal_from (suc n) w s i ≡ got (stands v) e)
    go true x r = (r.0, r.1, rw (x, octal_from) r.2)
    go false x r = (w, i, rw (x, octal_from) refl)

pub octal_on : (n w : ℕ) (s : List ℕ) (i : ℕ) → ltb (octal_digit (code s i)) 8 ≡ true → octal_from (suc n) w s i ≡ octal_from n (w * 8 + octal_digit (code s i)) s (next s i)
unfolding octal_from
octal_on n w s i x = rw (x, octal_from) refl

octal_off : (n w : ℕ) (s : List ℕ) (i : ℕ) → ltb (octal_digit (code s i)) 8 ≡ false → octal_from (suc n) w s i ≡ got (stands w) i
unfolding octal_from
octal_off n w s i x = rw (x, octal_from) refl

-- the digits of the octal escape at t, after the first
abbrev pub digits_at : List ℕ → ℕ → Read Meaning
digits_at s t = octal_from 2 (octal_digit (code s (next s t))) s (next s (next s t))

-- the step of an octal escape
pub octal_step : (look : Naming) (s : List ℕ) (t v e : ℕ) → text_case 1 s 0 t ≡ TextCase.escapes → escape_case 1 s (next s t) ≡ octal → digits_at s t ≡ got (stands v) e → step look s t ≡ got (filled 0 (utf8 v)) e
unfolding text_move with_escape escape meant encode
octal_step look s t v e q o d =
    let x : text_move look 1 s 0 t [] ≡ goes e (utf8 v) = rw (q, o, d, text_move, escape) refl in
    step_goes look s t e (utf8 v) x

-- a cut at c among the digits of an octal escape at t: what is read before c, and what the whole escape gives
pub record Longer (look : Naming) (s : List ℕ) (c from : ℕ) (ps : List Piece) : Type 0 where
  pub at : ℕ
  pub front : List Piece
  pub path : Tokens look s from at front
  pub case : text_case 1 s 0 at ≡ TextCase.escapes
  pub kind : escape_case 1 s (next s at) ≡ octal
  pub early : next s (next s at) ≤ c
  pub more_digits : ℕ
  pub value : ℕ
  pub all : ℕ
  pub end : ℕ
  pub whole : step look s at ≡ got (filled 0 (utf8 all)) end
  pub rest : octal_from (suc more_digits) value s c ≡ got (stands all) end
  pub few : suc more_digits ≤ 2
  pub small : Small (suc more_digits) value
  pub digit : ltb (octal_digit (code s c)) 8 ≡ true
  pub front_same : Same ps (front ++ filled 0 (utf8 value))

-- more tokens in front
pub longer_after : (look : Naming) (s : List ℕ) (c i j : ℕ) (ps rs qs : List Piece) → ((k : ℕ) (ts : List Piece) → Tokens look s j k ts → Tokens look s i k (rs ++ ts)) → Same ps rs
    → Longer look s c j qs → Longer look s c i (ps ++ qs)
longer_after look s c i j ps rs qs f m L = record {
  at = L.at;
  front = rs ++ L.front;
  path = f L.at L.front L.path;
  case = L.case;
  kind = L.kind;
  early = L.early;
  more_digits = L.more_digits;
  value = L.value;
  all = L.all;
  end = L.end;
  whole = L.whole;
  rest = L.rest;
  few = L.few;
  small = L.small;
  digit = L.digit;
  front_same = same_append ps rs qs (L.front ++ filled 0 (utf8 L.value)) m L.front_same ∙ ap (map bare) (sym (append_assoc rs L.front (filled 0 (utf8 L.value))));
}

-- which cases they are
abbrev is_escapes : TextCase → Bool
is_escapes deep = false
is_escapes TextCase.over = false
is_escapes opens = false
is_escapes last = false
is_escapes doubled = false
is_escapes lone = false
is_escapes TextCase.escapes = true
is_escapes TextCase.plain = false

is_escapes_lem : (x : TextCase) → is_escapes x ≡ true → x ≡ TextCase.escapes
is_escapes_lem deep e = no e
is_escapes_lem TextCase.over e = no e
is_escapes_lem opens e = no e
is_escapes_lem last e = no e
is_escapes_lem doubled e = no e
is_escapes_lem lone e = no e
is_escapes_lem TextCase.escapes e = refl
is_escapes_lem TextCase.plain e = no e

abbrev is_octal : EscapeCase → Bool
is_octal ended = false
is_octal (simple c) = false
is_octal octal = true
is_octal (hex n) = false
is_octal name = false
is_octal newline = false
is_octal foreign = false
is_octal other = false

is_octal_lem : (x : EscapeCase) → is_octal x ≡ true → x ≡ octal
is_octal_lem ended e = no e
is_octal_lem (simple c) e = no e
is_octal_lem octal e = refl
is_octal_lem (hex n) e = no e
is_octal_lem name e = no e
is_octal_lem newline e = no e
is_octal_lem foreign e = no e
is_octal_lem other e = no e

-- an octal escape's first digit
module _ (s : List ℕ) (i : ℕ) where
  abbrev EscapeTells : EscapeCase → Type 0
  EscapeTells ended = Unit {0}
  EscapeTells (simple c) = Unit {0}
  EscapeTells octal = (code s i is "01234567") ≡ true
  EscapeTells (hex n) = Unit {0}
  EscapeTells name = Unit {0}
  EscapeTells newline = Unit {0}
  EscapeTells foreign = Unit {0}
  EscapeTells other = Unit {0}

  escape_tells : Told EscapeTells (escape_case 1 s i)
  unfolding escape_case
  escape_tells =
      let c = code s i in
      chosen EscapeTells (at_end s i) ended (λ t. tt) (λ t.
      chosen EscapeTells (c is "\\'\"") (simple c) (λ t. tt) (λ t.
      chosen EscapeTells (c is "a") (simple 7) (λ t. tt) (λ t.
      chosen EscapeTells (c is "b") (simple 8) (λ t. tt) (λ t.
      chosen EscapeTells (c is "f") (simple 12) (λ t. tt) (λ t.
      chosen EscapeTells (c is "n") (simple 10) (λ t. tt) (λ t.
      chosen EscapeTells (c is "r") (simple 13) (λ t. tt) (λ t.
      chosen EscapeTells (c is "t") (simple 9) (λ t. tt) (λ t.
      chosen EscapeTells (c is "v") (simple 11) (λ t. tt) (λ t.
      chosen EscapeTells (c is "01234567") octal (λ t. t) (λ t.
      chosen EscapeTells (c is "x") (hex 2) (λ t. tt) (λ t.
      chosen EscapeTells (c is "u" && true) (hex 4) (λ t. tt) (λ t.
      chosen EscapeTells (c is "U" && true) (hex 8) (λ t. tt) (λ t.
      chosen EscapeTells (c is "N" && true) name (λ t. tt) (λ t.
      chosen EscapeTells (c is "\n") newline (λ t. tt) (λ t.
      chosen EscapeTells (leb 0x80 c && false) foreign (λ t. tt) (λ t. record { it = tt }))))))))))))))))

  pub octal_is : escape_case 1 s i ≡ octal → (code s i is "01234567") ≡ true
  octal_is e = subst (λ (x : EscapeCase). EscapeTells x) e escape_tells.it

  pub octal_told : escape_case 1 s i ≡ octal → octal_digit (code s i) < 8
  unfolding octal_digit
  octal_told e = digit-of (code s i) (octal_is e)
    where
      digit-of : (c : ℕ) → (c is "01234567") ≡ true → octal_digit c < 8
      digit-of c t =
          cases (eqb c 48) (λ x. rw (eqb-true c 48 x) (omega arith)) (λ x0.
          cases (eqb c 49) (λ x. rw (eqb-true c 49 x) (omega arith)) (λ x1.
          cases (eqb c 50) (λ x. rw (eqb-true c 50 x) (omega arith)) (λ x2.
          cases (eqb c 51) (λ x. rw (eqb-true c 51 x) (omega arith)) (λ x3.
          cases (eqb c 52) (λ x. rw (eqb-true c 52 x) (omega arith)) (λ x4.
          cases (eqb c 53) (λ x. rw (eqb-true c 53 x) (omega arith)) (λ x5.
          cases (eqb c 54) (λ x. rw (eqb-true c 54 x) (omega arith)) (λ x6.
          cases (eqb c 55) (λ x. rw (eqb-true c 55 x) (omega arith)) (λ x7. no (rw (x0, x1, x2, x3, x4, x5, x6, x7) at t)))))))))

-- STEPS OF THE PIECE: tokens of the body, or the piece ends among octal digits
module _ (look : Naming) (s : List ℕ) (from c : ℕ) (h : from ≤ c) (l : c ≤ length s) (utf : Utf8 (part s from c)) where
  X : Window (part s from c) s from 0 0 (c - from)
  X = outward s from c h l utf

  abbrev OutHere : (p p' : ℕ) → Type 0
  OutHere p p' = At (part s from c) s from 0 0 (c - from) X p p'

  abbrev Compared : (n w p' : ℕ) → Meaning → Type 0
  Compared n w p' m =
      (octal_from n w s p' ≡ got m c)
      ⊎ ((r : ℕ) × (v : ℕ) × (suc r ≤ n) × (m ≡ stands v) × Small (suc r) v × (octal_from n w s p' ≡ octal_from (suc r) v s c) × (ltb (octal_digit (code s c)) 8 ≡ true))

  further : (n w w' p' q' : ℕ) (m : Meaning) → octal_from (suc n) w s p' ≡ octal_from n w' s q' → Compared n w' q' m → Compared (suc n) w p' m
  further n w w' p' q' m e (inl x) = inl (e ∙ x)
  further n w w' p' q' m e (inr (r, v, a, b, d, f, g)) = inr (r, v, omega arith, b, d, e ∙ f, g)

  compared : (n w p p' : ℕ) (m : Meaning) → OutHere p p' → p ≤ c - from → Small n w → octal_from n w (part s from c) p ≡ got m (c - from) → Compared n w p' m
  unfolding octal_from
  compared zero w p p' m t g k e = let z : stands w ≡ m = cc in let y : p ≡ c - from = cc in let x : p' ≡ c = omega (arith, t.0) in inl (ap₂ (λ a b. got a b) z x)
  compared (suc n) w p p' m t g k e = go (λ w p p' t g k e. compared n w p p' m t g k e) (ltb (octal_digit (code (part s from c) p)) 8) refl
    where
      w' : ℕ
      w' = w * 8 + octal_digit (code (part s from c) p)

      go : ((w p p' : ℕ) → OutHere p p' → p ≤ c - from → Small n w → octal_from n w (part s from c) p ≡ got m (c - from) → Compared n w p' m)
          → (x : Bool) → ltb (octal_digit (code (part s from c) p)) 8 ≡ x → Compared (suc n) w p' m
      go ih true x =
          let e' : octal_from n w' (part s from c) (next (part s from c) p) ≡ got m (c - from) = sym (octal_on n w (part s from c) p x) ∙ e in
          let pl = piece_length s from c h l in
          let k' = got_later (part s from c) (next (part s from c) p) (octal_from n w' (part s from c) (next (part s from c) p)) m (c - from) (octal_sound n w' (part s from c) (next (part s from c) p) (next_in (part s from c) p (omega arith))) e' in
          let d8 = ltb-true (octal_digit (code (part s from c) p)) 8 x in
          let u = next_past (part s from c) p (octal_digit_in (part s from c) s from 0 0 (c - from) X p (omega arith) d8) in
          let d = digit_like (part s from c) s from 0 0 (c - from) X octal_digit 8 p p' (octal_high (part s from c) s from 0 0 (c - from) X) t (omega arith) in
          let r = ih w' (next (part s from c) p) (next s p') (next_like (part s from c) s from 0 0 (c - from) X p p' t (omega arith) (omega arith)) (omega arith) (small_more n w (octal_digit (code (part s from c) p)) k d8) e' in
          further n w w' p' (next s p') m (octal_on n w s p' (ap (λ c. ltb c 8) (sym d) ∙ x) ∙ ap (λ y. octal_from n (w * 8 + y) s (next s p')) (sym d)) r
      go ih false x =
          let e' = sym (octal_off n w (part s from c) p x) ∙ e in
          let z : stands w ≡ m = cc in
          let y : p ≡ c - from = cc in
          let pc : p' ≡ c = omega (arith, t.0) in
          cases (ltb (octal_digit (code s c)) 8)
          (λ q. inr (n, w, omega arith, sym z, k, ap (λ i. octal_from (suc n) w s i) pc, q))
          (λ q. inl (ap (λ i. octal_from (suc n) w s i) pc ∙ octal_off n w s c q ∙ ap (λ a. got a c) z))

  staying_out : (p p' : ℕ) → OutHere p p' → p < c - from → next (part s from c) p < c - from → staying s p' ≡ staying (part s from c) p
  unfolding staying
  staying_out p p' m g n =
      let q = next_like (part s from c) s from 0 0 (c - from) X p p' m g (omega arith) in
      ap₂ ◌&&◌ (sym (is_like (part s from c) s from 0 0 (c - from) X p p' m g "\\" (omega arith, tt))) (sym (is_like (part s from c) s from 0 0 (c - from) X (next (part s from c) p) (next s p') q n "{}" (omega arith, (omega arith, tt))))

  staying_none : (p' : ℕ) → (code s p' is "\\") ≡ false → staying s p' ≡ false
  unfolding staying
  staying_none p' x = rw x refl

  plain_out : (p p' : ℕ) → OutHere p p' → p < c - from → Plain look (part s from c) s from 0 0 (c - from) X p p'
  plain_out p p' m g n q =
      let t = top_told (part s from c) p TextCase.plain q in
      let pl = piece_length s from c h l in
      plain_if s p' (in_right (part s from c) s from 0 0 (c - from) X p p' m g)
      (sym (is_like (part s from c) s from 0 0 (c - from) X p p' m g "{" (omega arith, tt)) ∙ t.1)
      (sym (is_like (part s from c) s from 0 0 (c - from) X p p' m g "}" (omega arith, tt)) ∙ t.2)
      (sym (is_like (part s from c) s from 0 0 (c - from) X p p' m g "\\" (omega arith, tt)) ∙ last_plain (part s from c) p (omega arith) q)

  -- the piece's last token
  abbrev Final : (p' : ℕ) → List Piece → Type 0
  Final p' ps = ((ps' : List Piece) × (step look s p' ≡ got ps' c) × Same ps ps') ⊎ Longer look s c p' ps

  final_octal : (p p' : ℕ) (ps : List Piece) (j : ℕ) → OutHere p p' → p ≤ length (part s from c) → step look (part s from c) p ≡ got ps j → j ≡ c - from
      → text_case 1 (part s from c) 0 p ≡ TextCase.escapes → escape_case 1 (part s from c) (next (part s from c) p) ≡ octal → Final p' ps
  final_octal p p' ps j m g e jt q o =
      let u = part s from c in
      let pl = piece_length s from c h l in
      let a = step_ahead look u p j ps g e in
      let D = octal_got 2 (octal_digit (code u (next u p))) u (next u (next u p)) in
      let f = sym (octal_step look u p D.0 D.1 q o D.2) ∙ e in
      let z : D.1 ≡ j = cc in
      let y : filled 0 (utf8 D.0) ≡ ps = cc in
      let np = next_past u p a.3 in
      let ni = next_in u p g in
      let dl = got_later u (next u (next u p)) (digits_at u p) (stands D.0) D.1 (octal_sound 2 (octal_digit (code u (next u p))) u (next u (next u p)) (next_in u (next u p) ni)) D.2 in
      let d8 = octal_told u (next u p) o in
      let qn = next_past u (next u p) (octal_digit_in u s from 0 0 (c - from) X (next u p) ni d8) in
      let pt : p < c - from = omega arith in
      let qt : next u p < c - from = omega arith in
      let mq = next_like u s from 0 0 (c - from) X p p' m pt (omega arith) in
      let mr = next_like u s from 0 0 (c - from) X (next u p) (next s p') mq qt (omega arith) in
      let q' = sym (text_case_like u s from 0 0 (c - from) X 1 0 p p' m pt qt) ∙ q in
      let o' = sym (escape_case_like u s from 0 0 (c - from) X 1 (next u p) (next s p') mq qt (omega arith)) ∙ o in
      let cd = code_like u s from 0 0 (c - from) X (next u p) (next s p') mq qt (omega arith) in
      let C = compared 2 (octal_digit (code u (next u p))) (next u (next u p)) (next s (next s p')) (stands D.0) mr (omega arith) d8 (D.2 ∙ ap (λ k. got (stands D.0) k) (z ∙ jt)) in
      decide p' ps D.0 q' o' y (omega (arith, mr.0)) (octal_digit (code u (next u p))) (ap octal_digit cd) C
    where
      decide : (p' : ℕ) (ps : List Piece) (v₀ : ℕ) → text_case 1 s 0 p' ≡ TextCase.escapes → escape_case 1 s (next s p') ≡ octal → filled 0 (utf8 v₀) ≡ ps → next s (next s p') ≤ c
          → (d : ℕ) → d ≡ octal_digit (code s (next s p')) → Compared 2 d (next s (next s p')) (stands v₀) → Final p' ps
      decide p' ps v₀ q o y en d de (inl x) = inl (filled 0 (utf8 v₀), octal_step look s p' v₀ c q o (ap (λ w. octal_from 2 w s (next s (next s p'))) (sym de) ∙ x), ap (map bare) (sym y))
      decide p' ps v₀ q o y en d de (inr (r, v, few, mv, small, x, digit)) =
          let R = octal_got (suc r) v s c in
          let vv : v₀ ≡ v = cc in
          inr (record {
            at = p';
            front = [];
            path = none;
            case = q;
            kind = o;
            early = en;
            more_digits = r;
            value = v;
            all = R.0;
            end = R.1;
            whole = octal_step look s p' R.0 R.1 q o (ap (λ w. octal_from 2 w s (next s (next s p'))) (sym de) ∙ x ∙ R.2);
            rest = R.2;
            few = few;
            small = small;
            digit = digit;
            front_same = ap (map bare) (sym y ∙ ap (λ w. filled 0 (utf8 w)) vv);
          })

  final : (p p' : ℕ) (ps : List Piece) (j : ℕ) → OutHere p p' → p ≤ length (part s from c) → step look (part s from c) p ≡ got ps j → j ≡ c - from → Final p' ps
  final p p' ps j m g e jt =
      let u = part s from c in
      let pl = piece_length s from c h l in
      let a = step_ahead look u p j ps g e in
      cases (is_escapes (text_case 1 u 0 p) && is_octal (escape_case 1 u (next u p)))
      (λ t. let b = and_both (is_escapes (text_case 1 u 0 p)) (is_octal (escape_case 1 u (next u p))) t in final_octal p p' ps j m g e jt (is_escapes_lem (text_case 1 u 0 p) b.0) (is_octal_lem (escape_case 1 u (next u p)) b.1))
      (λ t.
      let S = step_like look u s from 0 0 (c - from) X p p' ps j m g e (omega arith) (plain_out p p' m (omega (arith, a.0))) (λ x y. no (sym (rw (x, y) at t))) in
      let k : S.1 ≡ c = omega (arith, S.3) in
      inl (S.0, S.2 ∙ ap (λ n. got S.0 n) k, S.4))

  no_stay : (p p' : ℕ) (ps : List Piece) (j : ℕ) → OutHere p p' → p ≤ length (part s from c) → step look (part s from c) p ≡ got ps j → j ≤ c - from → staying (part s from c) p ≡ false → staying s p' ≡ false
  no_stay p p' ps j m g e jt y =
      let u = part s from c in
      let pl = piece_length s from c h l in
      let a = step_ahead look u p j ps g e in
      let pt : p < c - from = omega (arith, a.0) in
      cases (ltb (next u p) (c - from))
      (λ t. staying_out p p' m pt (ltb-true (next u p) (c - from) t) ∙ y)
      (λ t.
      let n : next u p ≡ j = omega (arith, a.2, ltb-false (next u p) (c - from) t) in
      let q = one_plain look u p ps j g e n in
      staying_none p' (sym (is_like u s from 0 0 (c - from) X p p' m pt "\\" (omega arith, tt)) ∙ last_plain u p (omega (arith, ltb-false (next u p) (c - from) t)) q))

  -- what a piece's steps are in the body
  abbrev pub Outcome : (i' : ℕ) → List Piece → Type 0
  Outcome i' ps = ((ps' : List Piece) × Tokens look s i' c ps' × Same ps ps') ⊎ Longer look s c i' ps

  -- with a token in front
  prepend : (i' j' : ℕ) (rs rs' qs : List Piece) → Same rs rs' → ((k : ℕ) (ts : List Piece) → Tokens look s j' k ts → Tokens look s i' k (rs' ++ ts)) → Outcome j' qs → Outcome i' (rs ++ qs)
  prepend i' j' rs rs' qs m f (inl (qs', T, n)) = inl (rs' ++ qs', f c qs' T, same_append rs rs' qs qs' m n)
  prepend i' j' rs rs' qs m f (inr L) = inr (longer_after look s c i' j' rs rs' qs f m L)

  -- the last token alone
  alone : (i' : ℕ) (rs : List Piece) → i' < length s → staying s i' ≡ false → Final i' rs → Outcome i' (rs ++ [])
  alone i' rs a y (inl (rs', e, m)) = inl (rs' ++ [], one y a e none, same_append rs rs' [] [] m refl)
  alone i' rs a y (inr L) = inr (subst (λ (l : List Piece). Longer look s c i' l) (sym (append-nil rs)) L)

  ended_path : {P : Type 0} (j k : ℕ) (qs : List Piece) → Tokens look (part s from c) j k qs → j ≡ c - from → (qs ≡ [] → P) → P
  ended_path j k qs none e f = f refl
  ended_path j k qs (one y a x T) e f = absurd (omega (arith, piece_length s from c h l))
  ended_path j k qs (two y a b x z T) e f = absurd (omega (arith, piece_length s from c h l))

  pub body_tokens : (i k i' : ℕ) (ps : List Piece) → Tokens look (part s from c) i k ps → k ≡ c - from → i + from ≡ i' + 0 → i ≤ length (part s from c) → Outcome i' ps
  body_tokens i k i' ps none e m g = let z : i' ≡ c = omega arith in inl ([], subst (λ (x : ℕ). Tokens look s i' x []) z none, refl)
  body_tokens i k i' ps (one {j = j} {ps = rs} {qs = qs} y a f T) e m g =
      let u = part s from c in
      let pl = piece_length s from c h l in
      let b = step_ahead look u i j rs g f in
      let mi : OutHere i i' = (m, omega arith) in
      let pt : i < c - from = omega (arith, b.0, b.1) in
      let y' = no_stay i i' rs j mi g f (omega (arith, b.1)) y in
      let a' = in_right u s from 0 0 (c - from) X i i' mi pt in
      cases (ltb j (c - from))
      (λ t.
      let jt = ltb-true j (c - from) t in
      let S = step_like look u s from 0 0 (c - from) X i i' rs j mi g f (omega arith) (λ n q. absurd (omega (arith, b.2))) (λ x z. edge_in u s from 0 0 (c - from) X j jt) in
      prepend i' S.1 rs S.0 qs S.4 (λ k ts R. one y' a' S.2 R) (body_tokens j k S.1 qs T e S.3 b.1))
      (λ t.
      let jt : j ≡ c - from = omega (arith, b.1, ltb-false j (c - from) t) in
      ended_path j k qs T jt (λ z. subst (λ (l : List Piece). Outcome i' (rs ++ l)) (sym z) (alone i' rs a' y' (final i i' rs j mi g f jt))))
  body_tokens i k i' ps (two {j = j} {k = n} {ps = rs} {rs = ts} {qs = qs} y a b f f' T) e m g =
      let u = part s from c in
      let pl = piece_length s from c h l in
      let p = step_ahead look u i j rs g f in
      let p' = step_ahead look u j n ts p.1 f' in
      let mi : OutHere i i' = (m, omega arith) in
      let it : i < c - from = omega arith in
      let jt : j < c - from = omega arith in
      let z = staying_to look u i j rs a y f in
      let br : (code u j is "{}") ≡ true = subst (λ (x : ℕ). (code u x is "{}") ≡ true) (sym z) (staying_next look u i g y).2 in
      let y' = staying_out i i' mi it (omega arith) ∙ y in
      let S = step_like look u s from 0 0 (c - from) X i i' rs j mi g f (omega arith) (λ x q. absurd (omega arith)) (λ x q. edge_in u s from 0 0 (c - from) X j jt) in
      let mj : OutHere j S.1 = (S.3, omega arith) in
      let S' = step_like look u s from 0 0 (c - from) X j S.1 ts n mj p.1 f' (omega (arith, p'.1)) (λ x q. brace_not_plain u j br q) (λ x q. brace_not_escape u j br x) in
      let a' = in_right u s from 0 0 (c - from) X i i' mi it in
      let b' = in_right u s from 0 0 (c - from) X j S.1 mj jt in
      let R = body_tokens n k S'.1 qs T e S'.3 p'.1 in
      subst (λ (l : List Piece). Outcome i' l) (append_assoc rs ts qs)
      (prepend i' S'.1 (rs ++ ts) (S.0 ++ S'.0) qs (same_append rs S.0 ts S'.0 S.4 S'.4)
      (λ k ts R. subst (λ (l : List Piece). Tokens look s i' k l) (sym (append_assoc S.0 S'.0 ts)) (two y' a' b' S.2 S'.2 R)) R)
