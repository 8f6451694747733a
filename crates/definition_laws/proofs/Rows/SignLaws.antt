-- A FIELD'S SIGNS: each place is just after its `=`, `!`, `:` or `}`, past the field's beginning and in the body; exactly one reason fits, and the
-- conversion is what it says. Assumes nothing.
use Rattle.std.specs.Prelude.{if◌then◌else◌}
use mathlib.Core.Path.{◌≡◌, refl, sym, ◌∙◌, subst}
use mathlib.Core.Bool.{Bool, true, false, not}
use mathlib.Core.List.{List, [], ◌∷◌, ◌++◌}
use mathlib.Core.Option.{Option, none, some}
use Prim.Native.Nat.{ℕ, zero, suc, ◌+◌, ◌-◌, ◌≤◌, ◌<◌}
use native.Mathlib.Omega.{arith}
use borrow.Author.Tests.{leb-false, eqb-true, eqb-false, ne_eqb, not-false}
use lib.Dec.{ltb, eqb}
use lib.ListN.{length, drop, length-drop}
use lib.Seq.{get_or-drop}
use Rattle.definition.specs.Numbers.{is_fstring, empty_expression}
use Rattle.definition.specs.Chars.{◌is◌, byte, part, at_end, code, next, char, before}
use Rattle.definition.specs.Escapes.{Naming, Fault, fault, Read, got, refused, Meaning, escape}
use Rattle.definition.specs.Body.{Signs, Piece, literal, field, spec, Move, goes, stops, calls, ends, with_escape, TextCase, deep, opens, last, doubled, lone, text_case, text_move, filled, Field, state, with_equals, with_bang, with_colon, with_close, fresh, add, documented, spaced, formatted, FieldCase, pair, converts, documents, formats, opener, closes, closer, quote, space, backslash, stray, outside, field_case, case_of, conversion_move, open_move, matching, close_move, quote_move, field_move, conversion_of, field_pieces, self_documenting, finished, specified, plain_run, first_end, text_n, field_n, spec_n, string_n, enough, alone, read_body}
use Rattle.definition.specs.Rows.{reason, sign_at, signs_at}
use Rattle.definition.proofs.Moves.CharLaws.{cases, no, either, byte_in, next_in, next_from, next_ascii, code_ascii, code_is, before_in}
use Rattle.definition_laws.proofs.Moves.Adds.{ascii_in}
use Rattle.definition_laws.proofs.Moves.Cases.{Tells, told, text_told}
use Rattle.definition_laws.proofs.Moves.Moves.{Ahead, text_size, text_ahead, FieldAhead, field_ahead}
use Rattle.definition_laws.proofs.Moves.Steps.{text_goes, text_stops, text_ends, text_got, text_refused, field_goes, field_stops, field_ends, field_got, field_refused, first_piece, spec_calls, spec_ends}

-- A REASON FITS, by the words of RULES 7.2
pub data Fits (g : Signs) : ℕ → Type 0 where
  written : 1 ≤ g.bang → Fits g 1
  neither : g.bang ≡ 0 → g.equals ≡ 0 → Fits g 2
  by_repr : g.bang ≡ 0 → 1 ≤ g.equals → g.colon ≡ 0 → Fits g 3
  by_spec : g.bang ≡ 0 → 1 ≤ g.equals → 1 ≤ g.colon → Fits g 4

-- is it 0 or more
none_or : {P : Type 0} (n : ℕ) → (eqb n 0 ≡ true → n ≡ 0 → P) → (eqb n 0 ≡ false → 1 ≤ n → P) → P
none_or n p q = cases (eqb n 0) (λ e. p e (eqb-true n 0 e)) (λ e. q e (let m = eqb-false n 0 e in omega arith))

-- EXACTLY ONE DOES
pub reason_fits : (g : Signs) → Fits g (reason g)
unfolding reason
reason_fits g =
    none_or g.bang
    (λ e b. none_or g.equals (λ f z. rw (e, f) (neither b z)) (λ f q. none_or g.colon (λ h z. rw (e, f, h) (by_repr b q z)) (λ h z. rw (e, f, h) (by_spec b q z))))
    (λ e b. rw e (written b))

pub one_reason : (g : Signs) (n : ℕ) → Fits g n → n ≡ reason g
unfolding reason
one_reason g n (written b) = rw (ne_eqb g.bang 0 (omega arith))
one_reason g n (neither b e) = rw (b, e)
one_reason g n (by_repr b e c) = rw (b, ne_eqb g.equals 0 (omega arith), c)
one_reason g n (by_spec b e c) = rw (b, ne_eqb g.equals 0 (omega arith), ne_eqb g.colon 0 (omega arith))

-- and it is the same by the places in a script
pub reason_at : (base : ℕ) (g : Signs) → reason (signs_at base g) ≡ reason g
unfolding reason signs_at sign_at
reason_at base g = rw (same g.equals, same g.bang, same g.colon)
  where
    same : (n : ℕ) → eqb (sign_at base n) 0 ≡ eqb n 0
    same zero = refl
    same (suc n) = ne_eqb (base + suc n) 0 (omega arith) ∙ sym (ne_eqb (suc n) 0 (omega arith))

-- the place j is just after the byte c, past `from`
abbrev pub After : List ℕ → (from c j : ℕ) → Type 0
After s from c j = (from < j) × (j ≤ length s) × (byte s (j - 1) ≡ c)

-- the signs of a field that began at `from`
pub record Met (s : List ℕ) (from : ℕ) (g : Signs) : Type 0 where
  pub opened : After s 0 123 from
  pub equals_after : 1 ≤ g.equals → After s from 61 g.equals
  pub bang_after : 1 ≤ g.bang → After s from 33 g.bang
  pub colon_after : 1 ≤ g.colon → After s from 58 g.colon

-- WHAT A CONVERSION IS by its reason: what was written after `!`, none, repr, none
pub record Says (s : List ℕ) (g : Signs) (c reason : ℕ) : Type 0 where
  pub as_written : reason ≡ 1 → (c ≡ code s g.bang) × ((c is "sar") ≡ true)
  pub as_neither : reason ≡ 2 → c ≡ 0
  pub as_repr : reason ≡ 3 → c ≡ 114
  pub as_spec : reason ≡ 4 → c ≡ 0

-- EVERY FIELD of pieces has its signs so
abbrev pub Signed : List ℕ → List Piece → Type 0
Signed s [] = Unit {0}
Signed s (literal d t ∷ ps) = Signed s ps
Signed s (field d e c n i g ∷ ps) = (Met s i g × After s i 125 g.close × Says s g c (reason g)) × Signed s ps
Signed s (spec n ∷ ps) = Signed s ps

-- how the conversion and the mark of an `=` so far go with the signs
pub record Tied (s : List ℕ) (c : ℕ) (d : Bool) (g : Signs) : Type 0 where
  converted : 1 ≤ g.bang → (c ≡ code s g.bang) × ((c is "sar") ≡ true)
  unconverted : g.bang ≡ 0 → c ≡ 0
  marked : d ≡ true → 1 ≤ g.equals
  unmarked : d ≡ false → g.equals ≡ 0

-- a field has a `:` exactly if it has a spec
abbrev pub ColonOf : Option (List Piece) → Signs → Type 0
ColonOf none g = g.colon ≡ 0
ColonOf (some ps) g = 1 ≤ g.colon

abbrev pub EndField : List ℕ → ℕ → Option (List Piece) → Field → Type 0
EndField s from q (state e b o c d w g) = Met s from g × Tied s c d g × ColonOf q g

abbrev pub MetField : List ℕ → ℕ → Field → Type 0
MetField s from f = EndField s from none f

not_none : (c : ℕ) → (c is "sar") ≡ true → eqb c 0 ≡ false
not_none c e = ne_eqb c 0 (λ z. let h : (0 is "sar") ≡ true = rw z at e in no h)

says : (s : List ℕ) (c : ℕ) (d : Bool) (g : Signs) (q : Option (List Piece)) → Tied s c d g → ColonOf q g → Says s g (conversion_of d c q) (reason g)
unfolding reason conversion_of
says s c d g q y k = go (eqb g.bang 0) refl d q refl k
  where
    kept : (d : Bool) (q : Option (List Piece)) → eqb c 0 ≡ false → conversion_of d c q ≡ c
    kept false q z = refl
    kept true none z = rw z
    kept true (some ps) z = refl

    go : (t : Bool) → eqb g.bang 0 ≡ t → (d' : Bool) (q : Option (List Piece)) → d ≡ d' → ColonOf q g → Says s g (conversion_of d' c q) (reason g)
    go false e d' q z k =
        let n = eqb-false g.bang 0 e in
        let w = y.converted (omega arith) in
        rw (e, kept d' q (not_none c w.1))
        (record { as_written = λ h. w; as_neither = λ h. absurd (omega arith); as_repr = λ h. absurd (omega arith); as_spec = λ h. absurd (omega arith) })
    go true e false q z k =
        let u = y.unconverted (eqb-true g.bang 0 e) in
        rw (e, y.unmarked z)
        (record { as_written = λ h. absurd (omega arith); as_neither = λ h. u; as_repr = λ h. absurd (omega arith); as_spec = λ h. absurd (omega arith) })
    go true e true none z k =
        let n = y.marked z in
        rw (e, ne_eqb g.equals 0 (omega arith), k, y.unconverted (eqb-true g.bang 0 e))
        (record { as_written = λ h. absurd (omega arith); as_neither = λ h. absurd (omega arith); as_repr = λ h. refl; as_spec = λ h. absurd (omega arith) })
    go true e true (some ps) z k =
        let n = y.marked z in
        let u = y.unconverted (eqb-true g.bang 0 e) in
        rw (e, ne_eqb g.equals 0 (omega arith), ne_eqb g.colon 0 (omega arith))
        (record { as_written = λ h. absurd (omega arith); as_neither = λ h. absurd (omega arith); as_repr = λ h. absurd (omega arith); as_spec = λ h. u })

-- an ASCII character stands at i
pub after : (s : List ℕ) (from i c : ℕ) → c < 0x80 → from ≤ i → code s i ≡ c → After s from c (next s i)
after s from i c h l e =
    let a = ascii_in s i (omega arith) in
    let n = next_ascii s i a in
    let b : byte s i ≡ c = sym (code_ascii s i a) ∙ e in
    let z : i + 1 - 1 ≡ i = omega arith in
    let k = byte_in s i (omega arith) in
    (omega arith, omega arith, rw (n, z) b)

-- THE MOVES OF A FIELD keep its signs
pub data MetMove (s : List ℕ) (from i : ℕ) : Move Field → Type 0 where
  on : {j : ℕ} {f : Field} → MetField s from f → MetMove s from i (goes j f)
  stopped : {x : Fault} → MetMove s from i (stops x)
  at_colon : code s i ≡ 58 → MetMove s from i calls
  at_brace : code s i ≡ 125 → MetMove s from i ends

-- one that is chosen by a test
by_test : {s : List ℕ} {from i : ℕ} (t : Bool) {m m' : Move Field} → (t ≡ true → MetMove s from i m) → (t ≡ false → MetMove s from i m') → MetMove s from i (if t then m else m')
by_test true p q = p refl
by_test false p q = q refl

module _ (s : List ℕ) (from i : ℕ) (l : from ≤ i) where
  add_met : (t : List ℕ) (b : Bool) (f : Field) → MetField s from f → MetField s from (add t b f)
  unfolding add
  add_met t b' (state e b o c d w g) m = m

  spaced_met : (f : Field) → MetField s from f → MetField s from (spaced f)
  unfolding spaced
  spaced_met (state e b o c d w g) m = m

  documented_met : (f : Field) → code s i ≡ 61 → MetField s from f → MetField s from (documented (next s i) f)
  unfolding documented with_equals
  documented_met (state e b o c d w g) p m = go g.equals refl
    where
      x : Met s from g
      x = m.0

      y : Tied s c d g
      y = m.1

      a : After s from 61 (next s i)
      a = after s from i 61 (omega arith) l p

      go : (n : ℕ) → g.equals ≡ n → MetField s from (state e b o c true w (record { equals = if eqb n 0 then next s i else n; bang = g.bang; colon = g.colon; close = g.close }))
      go zero z = (
        record { opened = x.opened; equals_after = λ h. a; bang_after = x.bang_after; colon_after = x.colon_after },
        record { converted = y.converted; unconverted = y.unconverted; marked = λ h. let b = a.0 in omega arith; unmarked = λ h. cc },
        m.2,
      )
      go (suc n) z = rw (ne_eqb (suc n) 0 (omega arith)) (
        record { opened = x.opened; equals_after = rw z at x.equals_after; bang_after = x.bang_after; colon_after = x.colon_after },
        record { converted = y.converted; unconverted = y.unconverted; marked = λ h. omega arith; unmarked = λ h. cc },
        m.2,
      )

  formatted_met : (ps : List Piece) (f : Field) → code s i ≡ 58 → MetField s from f → EndField s from (some ps) (formatted (next s i) f)
  unfolding formatted with_colon
  formatted_met ps (state e b o c d w g) p m =
      let x = m.0 in
      let y = m.1 in
      let a = after s from i 58 (omega arith) l p in (
        record { opened = x.opened; equals_after = x.equals_after; bang_after = x.bang_after; colon_after = λ h. a },
        record { converted = y.converted; unconverted = y.unconverted; marked = y.marked; unmarked = y.unmarked },
        (let b = a.0 in omega arith),
      )

  conversion_met : (f : Field) → code s i ≡ 33 → MetField s from f → MetMove s from i (conversion_move s i f)
  unfolding conversion_move with_bang
  conversion_met (state e b o c d w g) p m =
      let flag = next s i in
      let x = m.0 in
      let y = m.1 in
      let a = after s from i 33 (omega arith) l p in
      let pos = a.0 in
      by_test b (λ t. stopped) (λ t.
      by_test (at_end s flag) (λ t. stopped) (λ t.
      by_test (not (code s flag is "sar")) (λ t. stopped) (λ t.
      by_test (code s (next s flag) is "}:")
      (λ u. on (
        record { opened = x.opened; equals_after = x.equals_after; bang_after = λ h. a; colon_after = x.colon_after },
        record { converted = λ h. (refl, not-false (code s flag is "sar") t); unconverted = λ h. absurd (omega arith); marked = y.marked; unmarked = y.unmarked },
        m.2,
      ))
      (λ u. stopped))))

  open_met : (f : Field) → MetField s from f → MetMove s from i (open_move s i f)
  unfolding open_move
  open_met (state e b o c d w g) m = by_test (ltb (length o) 64) (λ t. on m) (λ t. stopped)

  close_met : (f : Field) → MetField s from f → MetMove s from i (close_move s i f)
  unfolding close_move
  close_met (state e b [] c d w g) m = stopped
  close_met (state e b (a ∷ o) c d w g) m = by_test (matching a.bracket (code s i)) (λ t. on m) (λ t. stopped)

  quote_met : (f : Field) → MetField s from f → MetMove s from i (quote_move s i f)
  unfolding quote_move
  quote_met f m =
      let close = next s i + before (λ b. eqb b (code s i)) (drop (next s i) s) in
      by_test (at_end s close) (λ t. stopped) (λ t. on (add_met (part s i (close + 1)) false f m))

  pub field_met : (f : Field) → MetField s from f → MetMove s from i (field_move s i f)
  unfolding field_move case_of
  field_met (state e b o c d w g) m = go (field_case s i (outside o) d) refl
    where
      f : Field
      f = state e b o c d w g

      tells : (x : FieldCase) → field_case s i (outside o) d ≡ x → Tells s i (outside o) x
      tells = told s i (outside o) d

      go : (x : FieldCase) → field_case s i (outside o) d ≡ x → MetMove s from i (field_move s i f)
      go FieldCase.over e = rw (e, field_move) stopped
      go pair e = rw (e, field_move) (on (add_met (part s i (next s (next s i))) false f m))
      go converts e = rw (e, field_move) (conversion_met f (tells converts e).1 m)
      go documents e = rw (e, field_move) (on (documented_met f (tells documents e).1 m))
      go formats e = rw (e, field_move) (at_colon (tells formats e).1)
      go opener e = rw (e, field_move) (open_met f m)
      go closes e = rw (e, field_move) (at_brace (tells closes e).1)
      go closer e = rw (e, field_move) (close_met f m)
      go quote e = rw (e, field_move) (quote_met f m)
      go space e = rw (e, field_move) (on (spaced_met f m))
      go backslash e = rw (e, field_move) stopped
      go stray e = rw (e, field_move) stopped
      go FieldCase.plain e = rw (e, field_move) (on (add_met (char s i) _ f m))

-- WHERE TEXT OPENS A FIELD stands a `{`, and where it ends a `}` or the body's end
abbrev pub TextMet : List ℕ → ℕ → Move (List ℕ) → Type 0
TextMet s i (goes j t) = Unit {0}
TextMet s i (stops x) = Unit {0}
TextMet s i calls = code s i ≡ 123
TextMet s i ends = i < length s → code s i ≡ 125

escape_met : (kind : ℕ) (s : List ℕ) (i : ℕ) (text : List ℕ) (r : Read Meaning) → TextMet s i (with_escape kind s i text r)
unfolding with_escape
escape_met kind s i text (got m j) = tt
escape_met kind s i text (refused x) = tt

pub text_met : (look : Naming) → (kind : ℕ) (s : List ℕ) (depth i : ℕ) (text : List ℕ) → TextMet s i (text_move look kind s depth i text)
unfolding text_move
text_met look kind s depth i text = go (text_case kind s depth i) refl
  where
    go : (x : TextCase) → text_case kind s depth i ≡ x → TextMet s i (text_move look kind s depth i text)
    go deep e = rw (e, text_move) tt
    go TextCase.over e = rw (e, text_move) (text_told s i kind depth TextCase.over e)
    go opens e = rw (e, text_move) (text_told s i kind depth opens e)
    go last e = rw (e, text_move) tt
    go doubled e = rw (e, text_move) tt
    go lone e = rw (e, text_move) tt
    go TextCase.escapes e = rw (e, text_move) (escape_met kind s i text (escape look kind s (next s i)))
    go TextCase.plain e = rw (e, text_move) tt

-- READINGS: what a field gives, and what a text gives
abbrev pub FieldReads : List ℕ → ℕ → Read (List Piece) → Type 0
FieldReads s i (got ps j) = Signed s ps × (i ≤ j) × (j ≤ length s)
FieldReads s i (refused x) = Unit {0}

abbrev pub TextReads : List ℕ → ℕ → Read (List Piece) → Type 0
TextReads s i (got ps j) = Signed s ps × (i ≤ j) × (j ≤ length s) × (j < length s → code s j ≡ 125)
TextReads s i (refused x) = Unit {0}

text_later : (s : List ℕ) (i j : ℕ) (r : Read (List Piece)) → i ≤ j → TextReads s j r → TextReads s i r
text_later s i j (got ps k) h p = (p.0, omega arith, p.2, p.3)
text_later s i j (refused x) h p = tt

signed_append : (s : List ℕ) (ps qs : List Piece) → Signed s ps → Signed s qs → Signed s (ps ++ qs)
signed_append s [] qs h k = k
signed_append s (literal d t ∷ ps) qs h k = signed_append s ps qs h k
signed_append s (field d e c n i g ∷ ps) qs h k = (h.0, signed_append s ps qs h.1 k)
signed_append s (spec n ∷ ps) qs h k = signed_append s ps qs h k

pub filled_signed : (s : List ℕ) (depth : ℕ) (text : List ℕ) → Signed s (filled depth text)
unfolding filled
filled_signed s depth [] = tt
filled_signed s depth (b ∷ text) = tt

abbrev SignedIn : List ℕ → Option (List Piece) → Type 0
SignedIn s none = Unit {0}
SignedIn s (some ps) = Signed s ps

ended_signed : (s : List ℕ) (depth from i : ℕ) → from ≤ i → code s i ≡ 125 → (f : Field) (q : Option (List Piece)) → EndField s from q f → SignedIn s q → FieldReads s from (finished depth from (next s i) f q)
unfolding finished field_pieces self_documenting with_close reason
ended_signed s depth from i l p (state e b o c d w g) q m r = go b d q r (says s c d g q m.1 m.2)
  where
    x : Met s from (with_close (next s i) g)
    x = let y = m.0 in record { opened = y.opened; equals_after = y.equals_after; bang_after = y.bang_after; colon_after = y.colon_after }

    z : After s from 125 (next s i)
    z = after s from i 125 (omega arith) l p

    past : from ≤ next s i
    past = let a = z.0 in omega arith

    closed : {c n : ℕ} → Says s g c n → Says s (with_close (next s i) g) c n
    closed k = record { as_written = k.as_written; as_neither = k.as_neither; as_repr = k.as_repr; as_spec = k.as_spec }

    go : (t y : Bool) (q : Option (List Piece)) → SignedIn s q → Says s g (conversion_of d c q) (reason g)
        → FieldReads s from (if t then refused (fault empty_expression (next s i)) else got (self_documenting depth y e w ++ field_pieces depth e (conversion_of d c q) from (with_close (next s i) g) q) (next s i))
    go true y q r k = tt
    go false true none r k = (((x, z, closed k), tt), past, z.1)
    go false false none r k = (((x, z, closed k), tt), past, z.1)
    go false true (some ps) r k = (((x, z, closed k), r), past, z.1)
    go false false (some ps) r k = (((x, z, closed k), r), past, z.1)

specified_signed : (s : List ℕ) (depth from j : ℕ) (f : Field) (ps : List Piece) → from ≤ j → (j < length s → code s j ≡ 125) → EndField s from (some ps) f → Signed s ps → FieldReads s from (specified s depth from j f ps)
unfolding specified
specified_signed s depth from j f ps l p m q = go (at_end s j) refl
  where
    go : (t : Bool) → at_end s j ≡ t → FieldReads s from (specified s depth from j f ps)
    go true e = rw e tt
    go false e = rw e (ended_signed s depth from j l (p (leb-false (length s) j e)) f (some ps) m q)

-- the byte at which a run before a test ends passes it
pub before_passes : (test : ℕ → Bool) (s : List ℕ) → before test s < length s → test (byte s (before test s)) ≡ true
unfolding before
before_passes test [] h = absurd (omega arith)
before_passes test (b ∷ s) h = cases (test b) (λ e. rw (e, before) e) (λ e. rw (e, before) (before_passes test s (let k = rw (e, before) at h in omega arith)))

pub first_ends : (s : List ℕ) (i : ℕ) → i ≤ length s → (code s (first_end s i) is "{") ≡ false → first_end s i < length s → code s (first_end s i) ≡ 125
unfolding plain_run
first_ends s i l e h =
    either (byte s j is "{") (byte s j is "}") passes
    (λ t. no (sym e ∙ code_is s j 123 (omega arith) ∙ t))
    (λ t. eqb-true _ _ (code_is s j 125 (omega arith) ∙ t))
  where
    j : ℕ
    j = first_end s i

    passes : (byte s j is "{}") ≡ true
    passes =
        let p = before_passes (λ b. b is "{}") (drop i s) (omega (arith, length-drop i s)) in
        subst (λ (b : ℕ). (b is "{}") ≡ true) (get_or-drop i s (before (λ b. b is "{}") (drop i s)) 256) p

pub none_yet : (s : List ℕ) (i : ℕ) → After s 0 123 i → MetField s i fresh
unfolding fresh
none_yet s i o = (
  record { opened = o; equals_after = λ h. absurd (omega arith); bang_after = λ h. absurd (omega arith); colon_after = λ h. absurd (omega arith) },
  record { converted = λ h. absurd (omega arith); unconverted = λ h. refl; marked = λ h. no h; unmarked = λ h. refl },
  refl,
)

pub record Signings (look : Naming) (n : ℕ) : Type 0 where
  pub text : (kind : ℕ) (s : List ℕ) (depth i : ℕ) (text : List ℕ) (ps : List Piece) → i ≤ length s → Signed s ps → TextReads s i (text_n look n kind s depth i text ps)
  pub field : (kind : ℕ) (s : List ℕ) (depth from i : ℕ) (f : Field) → from ≤ i → i ≤ length s → MetField s from f → FieldReads s from (field_n look n kind s depth from i f)
  spec : (kind : ℕ) (s : List ℕ) (depth i : ℕ) → i ≤ length s → TextReads s i (spec_n look n kind s depth i)

module _ (look : Naming) (n : ℕ) (D : Signings look n) (kind : ℕ) (s : List ℕ) (depth : ℕ) where
  text_signed : (i : ℕ) (text : List ℕ) (ps : List Piece) → i ≤ length s → Signed s ps → TextReads s i (text_n look (suc n) kind s depth i text ps)
  text_signed i text ps l h = go (text_move look kind s depth i text) refl (text_ahead look kind s depth i text l) (text_met look kind s depth i text)
    where
      a : ℕ
      a = next s i

      whole : Signed s (ps ++ filled depth text)
      whole = signed_append s ps (filled depth text) h (filled_signed s depth text)

      Goal : Type 0
      Goal = TextReads s i (text_n look (suc n) kind s depth i text ps)

      after_field : (r : Read (List Piece)) → field_n look n kind s depth a a fresh ≡ r → FieldReads s a r → text_move look kind s depth i text ≡ calls → Goal
      after_field (got qs j) f k e =
          let b = next_from s i in
          rw (text_got look n kind s depth i text ps qs j e f)
          (text_later s i j (text_n look n kind s depth j [] (ps ++ filled depth text ++ qs)) (omega arith)
          (D.text kind s depth j [] (ps ++ filled depth text ++ qs) k.2 (signed_append s (ps ++ filled depth text) qs whole k.0)))
      after_field (refused x) f k e = rw (text_refused look n kind s depth i text ps x e f) tt

      go : (x : Move (List ℕ)) → text_move look kind s depth i text ≡ x → Ahead text_size (text_size text) (i < length s) (Unit {0}) s i x → TextMet s i x → Goal
      go (goes j text') e k p = rw (text_goes look n kind s depth i text ps j text' e) (text_later s i j (text_n look n kind s depth j text' ps) (omega arith) (D.text kind s depth j text' ps k.1 h))
      go (stops x) e k p = rw (text_stops look n kind s depth i text ps x e) tt
      go calls e k p = after_field (field_n look n kind s depth a a fresh) refl (D.field kind s depth a a fresh (omega arith) (next_in s i l) (none_yet s a (after s 0 i 123 (omega arith) (omega arith) p))) e
      go ends e k p = rw (text_ends look n kind s depth i text ps e) (whole, omega arith, l, p)

  field_signed : (from i : ℕ) (f : Field) → from ≤ i → i ≤ length s → MetField s from f → FieldReads s from (field_n look (suc n) kind s depth from i f)
  field_signed from i f b l m = go (field_move s i f) refl (field_ahead s i f l) (field_met s from i b f m)
    where
      Goal : Type 0
      Goal = FieldReads s from (field_n look (suc n) kind s depth from i f)

      after_spec : (r : Read (List Piece)) → spec_n look n kind s depth (next s i) ≡ r → TextReads s (next s i) r → field_move s i f ≡ calls → code s i ≡ 58 → Goal
      after_spec (got ps j) g k e p =
          let c = next_from s i in
          rw (field_got look n kind s depth from i f ps j e g)
          (specified_signed s depth from j (formatted (next s i) f) ps (omega arith) k.3 (formatted_met s from i b ps f p m) k.0)
      after_spec (refused x) g k e p = rw (field_refused look n kind s depth from i f x e g) tt

      go : (x : Move Field) → field_move s i f ≡ x → FieldAhead s i f x → MetMove s from i x → Goal
      go (goes j f') e k (on p) = rw (field_goes look n kind s depth from i f j f' e) (D.field kind s depth from j f' (omega arith) k.1 p)
      go (stops x) e k stopped = rw (field_stops look n kind s depth from i f x e) tt
      go calls e k (at_colon p) = after_spec (spec_n look n kind s depth (next s i)) refl (D.spec kind s depth (next s i) (next_in s i l)) e p
      go ends e k (at_brace p) = rw (field_ends look n kind s depth from i f e) (ended_signed s depth from i b p f none m tt)

  spec_signed : (i : ℕ) → i ≤ length s → TextReads s i (spec_n look (suc n) kind s depth i)
  unfolding plain_run
  spec_signed i l = go (code s (first_end s i) is "{") refl
    where
      first : Signed s (first_piece s depth i)
      first = filled_signed s (suc depth) _

      within : first_end s i ≤ length s
      within = before_in (λ b. b is "{}") s i l

      go : (t : Bool) → (code s (first_end s i) is "{") ≡ t → TextReads s i (spec_n look (suc n) kind s depth i)
      go true e = rw (spec_calls look n kind s depth i e) (text_later s i (first_end s i) (text_n look n kind s (suc depth) (first_end s i) [] (first_piece s depth i)) (omega arith) (D.text kind s (suc depth) (first_end s i) [] (first_piece s depth i) within first))
      go false e = rw (spec_ends look n kind s depth i e) (first, omega arith, within, first_ends s i l e)

pub signings : (look : Naming) → (n : ℕ) → Signings look n
unfolding text_n
signings look zero = record { text = λ kind s depth i text ps l h. tt; field = λ kind s depth from i f b l m. tt; spec = λ kind s depth i l. tt }
signings look (suc n) = record {
  text = λ kind s depth. text_signed look n (signings look n) kind s depth;
  field = λ kind s depth. field_signed look n (signings look n) kind s depth;
  spec = λ kind s depth. spec_signed look n (signings look n) kind s depth;
}

-- THE SIGNS OF EVERY FIELD OF A BODY
pub body_signed : (look : Naming) → (kind : ℕ) (s : List ℕ) (ps : List Piece) (j : ℕ) → read_body look kind s ≡ got ps j → Signed s ps
unfolding read_body alone
body_signed look kind s ps j e = go (is_fstring kind) refl
  where
    plain : (r : Read (List ℕ)) → alone r ≡ got ps j → Signed s ps
    plain (got t k) f = let z : ps ≡ literal 0 t ∷ [] = cc in rw z tt
    plain (refused x) f = let z : ◌≡◌ {A = ℕ} 0 1 = cc in absurd (omega arith)

    go : (t : Bool) → is_fstring kind ≡ t → Signed s ps
    go true t = (rw (rw (t, read_body) at e) at ((signings look (enough s)).text kind s 0 0 [] [] (omega arith) tt)).0
    go false t = plain (string_n look (enough s) kind s 0 []) (rw (t, read_body) at e)
