-- A field's moves, from the states of the code.
-- Assumes nothing.
use mathlib.Core.Path.{◌≡◌, refl, sym, subst, ap, ◌∙◌}
use mathlib.Core.Bool.{Bool, true, false, ◌&&◌}
use mathlib.Core.List.{List, [], ◌++◌, append-nil, append_assoc}
use Prim.Native.Nat.{ℕ, ◌+◌, ◌-◌, ◌≤◌, ◌<◌}
use native.Mathlib.Nat.{sub_self}
use native.Mathlib.Numerals.{add-one}
use native.Mathlib.Omega.{arith}
use borrow.Author.Tests.{ltb-true, ltb-false, lt-ltb, le-ltb, le-leb, lt-leb, eq-eqb, ne_eqb, eqb-true, eqb-false}
use lib.Dec.{ltb, eqb}
use lib.ListN.{length, get_or, set, drop, length-take, length-drop}
use lib.Seq.{take-add, drop-drop}
use Rattle.definition.specs.Numbers.{unclosed_lbrace, invalid_conversion_flag, empty_expression, unmatched, unterminated_string, too_many_brackets, after_bang, after_conversion, after_equals, in_field}
use Rattle.definition.specs.Chars.{◌is◌, byte, part, code, next, char, before}
use Rattle.definition.specs.Escapes.{fault, detail}
use Rattle.definition.specs.Body.{Bracket, wrong, Move, goes, stops, calls, ends, Field, state, with_equals, with_bang, is_blank, add, documented, spaced, FieldCase, pair, converts, documents, formats, opener, closes, closer, quote, space, backslash, stray, field_case, case_of, conversion_move, open_move, matching, close_move, quote_move, field_move}
use Rattle.definition.proofs.Moves.CharLaws.{cases, no, byte_in, code_is, next_ascii, next_past, next_in}
use Rattle.definition_laws.proofs.Moves.Cases.{Tells, told}
use Rattle.utf8.specs.declared.Cursor.{Cursor}
use Rattle.utf8.proofs.Steps.{Stepped}
use Rattle.buffers.specs.Over.{over}
use Rattle.buffers.proofs.Over.{over_nil}
use Rattle.brackets.specs.Brackets.{unpacked, brackets}
use Rattle.brackets.proofs.Places.{length_brackets, outside_brackets, brackets_more, brackets_less}
use Rattle.heads.specs.declared.State.{State}
use Rattle.records.specs.declared.Head.{Head}
use Rattle.heads.specs.declared.Turn.{Turn}
use Rattle.heads.specs.declared.Turn.TheVariants as turn
use Rattle.heads.specs.FieldTurns.{is_marked, first_of, pending, Room, Fits, kept_to, skipped_to, head_at, state_of, Mover, Went, Stopped, TurnIs}

pub and_false : (b : Bool) → (b && false) ≡ false
and_false true = refl
and_false false = refl

pub and_true : (b : Bool) → (b && true) ≡ b
and_true true = refl
and_true false = refl

-- the cursor after a character is past it, and in the body
pub ahead : {s : List ℕ} {i c : ℕ} {k : Cursor} → Stepped s i c k → (i < k.at) × (k.at ≤ length s)
ahead {s} {i} h = (rw h.next_is at (next_past s i h.there), rw h.next_is at (next_in s i (omega (arith, h.there))))

-- PARTS of the body: two that touch, none, and the length
part_join : (s : List ℕ) (i j k : ℕ) → i ≤ j → j ≤ k → part s i j ++ part s j k ≡ part s i k
part_join s i j k h l =
    let e : k - i ≡ (j - i) + (k - j) = omega arith in
    let d : i + (j - i) ≡ j = omega arith in
    rw (e, take-add (j - i) (k - j) (drop i s), drop-drop (j - i) i s, d)

pub part_none : (s : List ℕ) (i : ℕ) → part s i i ≡ []
part_none s i = rw sub_self

pub length_part : (s : List ℕ) (i j : ℕ) → j ≤ length s → length (part s i j) ≡ j - i
length_part s i j h = omega (arith, length-take (j - i) (drop i s), length-drop i s)

-- TURNS, of a reader m of the definition
-- the state with other spaces, conversion and signs
abbrev pub changed : (spaces conversion equals bang : ℕ) → State → State
changed spaces conversion equals bang f =
    record { at = f.at; run = f.run; used = f.used; depth = f.depth; spaces = spaces; equals = equals; bang = bang; conversion = conversion; blank = f.blank }

-- the first of two places that is none is one, if the second is
marked_first : (a b : ℕ) → 0 < b → is_marked (first_of a b) ≡ true
marked_first a b h = cases (eqb a 0) (λ e. rw e (lt-ltb 0 b h)) (λ e. let n = eqb-false a 0 e in rw e (lt-ltb 0 a (omega arith)))

pub first_in_lem : (a b n : ℕ) → a ≤ n → b ≤ n → first_of a b ≤ n
first_in_lem a b n h k = cases (eqb a 0) (λ e. rw e k) (λ e. rw e h)

module _ {m : Mover} {s : List ℕ} {f : State} {places text : List ℕ} (r : Room s f) where
  -- with the bytes up to `to`, and nothing written
  pub keeps : {g : State} (places' : List ℕ) (to depth : ℕ) (blank : Bool)
      → f.at ≤ to
      → depth ≤ 64
      → length places' ≡ length places
      → g ≡ kept_to f to depth blank
      → ((e : List ℕ) → m s f.at (state_of e f places) ≡ goes to (state_of (e ++ part s f.at to) (kept_to f to depth blank) places'))
      → Went m s f g places places' text text
  keeps places' to depth blank h d k e moves =
      subst (λ (x : State). Went m s f x places places' text text) (sym e)
      record {
        added = [];
        moves = λ e. moves (e ++ pending s f) ∙ rw (append-nil, append_assoc e (pending s f) (part s f.at to), part_join s f.run f.at to r.run h);
        run = omega (arith, r.run);
        wrote = sym (over_nil text f.used);
        grown = omega arith;
        deep = d;
        equals_in = omega (arith, r.equals_in);
        bang_in = omega (arith, r.bang_in);
        full = k;
      }

  -- without them, and with what the expression has so far written
  pub skips : {g : State} {text' : List ℕ} (to spaces conversion equals bang : ℕ)
      → (equals ≤ to) × (bang ≤ to)
      → text' ≡ over text f.used (pending s f)
      → g ≡ changed spaces conversion equals bang (skipped_to s f to)
      → ((e : List ℕ) → m s f.at (state_of e f places) ≡ goes to (state_of e (changed spaces conversion equals bang f) places))
      → Went m s f g places places text text'
  skips {text' = text'} to spaces conversion equals bang l w e moves =
      subst (λ (x : State). Went m s f x places places text text') (sym e)
      record {
        added = pending s f;
        moves = λ e. moves (e ++ pending s f) ∙ rw (part_none s to, append-nil);
        run = omega arith;
        wrote = w;
        grown = refl;
        deep = r.deep;
        equals_in = l.0;
        bang_in = l.1;
        full = refl;
      }

-- by the character at the state's place
module _ {s : List ℕ} {f : State} {c : ℕ} {k : Cursor} (p : Fits s f c k) (places e : List ℕ) where
  pub open_full : 64 ≤ f.depth → open_move s f.at (state_of e f places) ≡ stops (fault too_many_brackets k.at)
  unfolding open_move
  open_full d = rw (length_brackets f.depth places, le-ltb _ _ d, p.here.next_is)

  pub open_goes : (x : ℕ) → unpacked x ≡ record { bracket = c; taken = k.at } → f.depth < 64 → length places ≡ 64 → open_move s f.at (state_of e f places) ≡ goes k.at (state_of (e ++ part s f.at k.at) (kept_to f k.at (f.depth + 1) false) (set places f.depth x))
  unfolding open_move char
  open_goes x q d l =
      rw (length_brackets f.depth places, lt-ltb _ _ d, p.here.next_is, p.here.code_is, brackets_more f.depth x places (omega arith), ap (λ (b : Bracket). b.bracket) q, ap (λ (b : Bracket). b.taken) q)

  pub close_none : f.depth ≡ 0 → close_move s f.at (state_of e f places) ≡ stops (detail unmatched k.at c)
  unfolding close_move brackets
  close_none d = rw (d, p.here.next_is, p.here.code_is)

  module _ {a : ℕ} (d : 0 < f.depth) (q : a ≡ (unpacked (get_or places (f.depth - 1) 0)).bracket) where
    pub close_goes : matching a c ≡ true → close_move s f.at (state_of e f places) ≡ goes k.at (state_of (e ++ part s f.at k.at) (kept_to f k.at (f.depth - 1) false) places)
    unfolding close_move char
    close_goes t = rw (brackets_less f.depth places d, ← q, p.here.next_is, p.here.code_is, t)

    pub close_other : {j : ℕ} → j ≡ (unpacked (get_or places (f.depth - 1) 0)).taken → matching a c ≡ false → close_move s f.at (state_of e f places) ≡ stops (wrong k.at (record { bracket = a; taken = j }) c)
    unfolding close_move
    close_other r t = rw (brackets_less f.depth places d, ← q, ← r, p.here.next_is, p.here.code_is, t)

  module _ (close : ℕ) (q : close ≡ k.at + before (λ b. eqb b c) (drop k.at s)) where
    pub quote_open : length s ≤ close → quote_move s f.at (state_of e f places) ≡ stops (fault unterminated_string (length s))
    unfolding quote_move
    quote_open l = rw (p.here.next_is, p.here.code_is, ← q, le-leb _ _ l)

    pub quote_goes : close < length s → quote_move s f.at (state_of e f places) ≡ goes (close + 1) (state_of (e ++ part s f.at (close + 1)) (kept_to f (close + 1) f.depth false) places)
    unfolding quote_move add
    quote_goes l = rw (p.here.next_is, p.here.code_is, ← q, lt-leb _ _ l, and_false f.blank)

  -- the conversion after the `!`
  pub convert_blank : f.blank ≡ true → conversion_move s f.at (state_of e f places) ≡ stops (fault empty_expression k.at)
  unfolding conversion_move
  convert_blank b = rw (b, p.here.next_is)

  pub convert_end : f.blank ≡ false → length s ≤ k.at → conversion_move s f.at (state_of e f places) ≡ stops (detail unclosed_lbrace k.at after_bang)
  unfolding conversion_move
  convert_end b l = rw (b, p.here.next_is, le-leb _ _ l)

  module _ {x : ℕ} {k' : Cursor} (b : f.blank ≡ false) (g : Stepped s k.at x k') where
    pub convert_other : (x is "sar") ≡ false → conversion_move s f.at (state_of e f places) ≡ stops (fault invalid_conversion_flag k'.at)
    unfolding conversion_move
    convert_other t = rw (b, p.here.next_is, lt-leb _ _ g.there, g.code_is, g.next_is, t)

    pub convert_goes : (x is "sar") ≡ true → (code s k'.at is "}:") ≡ true → conversion_move s f.at (state_of e f places) ≡ goes k'.at (state_of e (changed f.spaces x f.equals k.at f) places)
    unfolding conversion_move with_bang
    convert_goes t u = rw (b, p.here.next_is, lt-leb _ _ g.there, g.code_is, g.next_is, t, u)

    pub convert_open : (x is "sar") ≡ true → (code s k'.at is "}:") ≡ false → conversion_move s f.at (state_of e f places) ≡ stops (detail unclosed_lbrace k'.at after_conversion)
    unfolding conversion_move
    convert_open t u = rw (b, p.here.next_is, lt-leb _ _ g.there, g.code_is, g.next_is, t, u)

-- BY THE CASE of the character
pub past_end : (s : List ℕ) (i : ℕ) (f : Field) → length s ≤ i → field_move s i f ≡ stops (detail unclosed_lbrace i in_field)
unfolding field_move case_of field_case
past_end s i (state e b o c d w g) h = rw (le-leb _ _ h, field_move)

opener_ascii : (c : ℕ) → (c is "([{") ≡ true → c < 0x80
opener_ascii c t =
    cases (ltb c 0x80) (λ e. ltb-true c 0x80 e)
    (λ e.
    let h = ltb-false c 0x80 e in
    no (rw (ne_eqb c 40 (omega arith), ne_eqb c 91 (omega arith), ne_eqb c 123 (omega arith)) at t))

module _ {s : List ℕ} {f : State} {c : ℕ} {k : Cursor} (p : Fits s f c k) where
  abbrev Is : FieldCase → Type 0
  Is x = x ≡ field_case s f.at (eqb f.depth 0) (is_marked f.equals)

  tells : {x : FieldCase} → Is x → Tells s f.at (eqb f.depth 0) x
  tells {x} t = told s f.at (eqb f.depth 0) (is_marked f.equals) x (sym t)

  -- a `=` follows
  pub pair_in : Is pair → (k.at + 1 ≤ length s) × (next s k.at ≡ k.at + 1)
  pair_in t =
      let c : code s k.at ≡ 61 = rw p.here.next_is at (tells t).1 in
      let b : byte s k.at ≡ 61 = eqb-true _ _ (sym (code_is s k.at 61 (omega arith)) ∙ eq-eqb _ _ c) in
      (omega (arith, byte_in s k.at (omega arith)), next_ascii s k.at (omega arith))

  pub opener_in : Is opener → c < 0x80
  opener_in t = opener_ascii c (rw p.here.code_is at (tells t))

  pub formats_out : Is formats → f.depth ≡ 0
  formats_out t = eqb-true _ _ (tells t).0

  pub closes_out : Is closes → f.depth ≡ 0
  closes_out t = eqb-true _ _ (tells t).0

  module _ (places e : List ℕ) where
    case_is_lem : {x : FieldCase} → Is x → case_of s f.at (state_of e f places) ≡ x
    unfolding case_of
    case_is_lem t = rw (outside_brackets f.depth places) (sym t)

    pub pair_goes : Is pair → field_move s f.at (state_of e f places) ≡ goes (k.at + 1) (state_of (e ++ part s f.at (k.at + 1)) (kept_to f (k.at + 1) f.depth false) places)
    unfolding field_move add
    pair_goes t = rw (case_is_lem t, field_move, p.here.next_is, (pair_in t).1, and_false f.blank)

    pub plain_goes : {blank : Bool} → Is FieldCase.plain → blank ≡ (f.blank && is_blank c) → field_move s f.at (state_of e f places) ≡ goes k.at (state_of (e ++ part s f.at k.at) (kept_to f k.at f.depth blank) places)
    unfolding field_move add char
    plain_goes t b = rw (case_is_lem t, field_move, p.here.next_is, p.here.code_is, b)

    pub documents_goes : Is documents → field_move s f.at (state_of e f places) ≡ goes k.at (state_of e (changed f.spaces f.conversion (first_of f.equals k.at) f.bang f) places)
    unfolding field_move documented with_equals
    documents_goes t = rw (case_is_lem t, field_move, p.here.next_is, marked_first f.equals k.at (omega (arith, (ahead p.here).0)))

    pub space_goes : Is space → field_move s f.at (state_of e f places) ≡ goes k.at (state_of e (changed (f.spaces + 1) f.conversion f.equals f.bang f) places)
    unfolding field_move spaced
    space_goes t = rw (case_is_lem t, field_move, p.here.next_is, add-one f.spaces)

    pub backslash_stops : Is backslash → field_move s f.at (state_of e f places) ≡ stops (fault unterminated_string k.at)
    unfolding field_move
    backslash_stops t = rw (case_is_lem t, field_move, p.here.next_is)

    pub stray_stops : Is stray → field_move s f.at (state_of e f places) ≡ stops (detail unclosed_lbrace k.at after_equals)
    unfolding field_move
    stray_stops t = rw (case_is_lem t, field_move, p.here.next_is)

    pub formats_calls : Is formats → field_move s f.at (state_of e f places) ≡ calls
    unfolding field_move
    formats_calls t = rw (case_is_lem t, field_move)

    pub closes_ends : Is closes → field_move s f.at (state_of e f places) ≡ ends
    unfolding field_move
    closes_ends t = rw (case_is_lem t, field_move)

    pub converts_is : Is converts → field_move s f.at (state_of e f places) ≡ conversion_move s f.at (state_of e f places)
    unfolding field_move
    converts_is t = rw (case_is_lem t, field_move)

    pub opener_is : Is opener → field_move s f.at (state_of e f places) ≡ open_move s f.at (state_of e f places)
    unfolding field_move
    opener_is t = rw (case_is_lem t, field_move)

    pub closer_is : Is closer → field_move s f.at (state_of e f places) ≡ close_move s f.at (state_of e f places)
    unfolding field_move
    closer_is t = rw (case_is_lem t, field_move)

    pub quote_is : Is quote → field_move s f.at (state_of e f places) ≡ quote_move s f.at (state_of e f places)
    unfolding field_move
    quote_is t = rw (case_is_lem t, field_move)

-- a turn by another reader's moves, where they are the same
pub turned : {s : List ℕ} {f : State} {c : ℕ} {k : Cursor} → Fits s f c k → (m n : Mover) (places places' text text' : List ℕ) (r : Turn) → ((e : List ℕ) → n s f.at (state_of e f places) ≡ m s f.at (state_of e f places)) → TurnIs m s f r places places' text text' → TurnIs n s f r places places' text text'
turned {s} {f} p m n places places' text text' (turn.On g) q w =
    record { added = w.added; moves = λ e. q (e ++ pending s f) ∙ w.moves e; run = w.run; wrote = w.wrote; grown = w.grown; deep = w.deep; equals_in = w.equals_in; bang_in = w.bang_in; full = w.full }
turned p m n places places' text text' (turn.Formats h) q w = record { moves = λ e. q e ∙ w.moves e; out = w.out; head = w.head; wrote = w.wrote }
turned p m n places places' text text' (turn.Closes h) q w = record { moves = λ e. q e ∙ w.moves e; out = w.out; head = w.head; wrote = w.wrote }
turned p m n places places' text text' (turn.Refused x) q w = (w.0, λ e. q e ∙ w.1 e)

-- the head's end, where the definition makes a move that leaves the state
pub stopped : {m : Mover} {move : Move Field} {s : List ℕ} {f g : State} {h : Head} {c : ℕ} {k : Cursor} {places text text' : List ℕ}
    → Fits s f c k
    → f.depth ≡ 0
    → g ≡ skipped_to s f k.at
    → text' ≡ over text f.used (pending s f)
    → h ≡ head_at g k
    → ((e : List ℕ) → m s f.at (state_of e f places) ≡ move)
    → Stopped m move s f h places text text'
stopped {s = s} {f} {k = k} p d u w e moves =
    record { moves = moves; out = d; head = rw p.here.next_is (e ∙ ap (λ (x : State). head_at x k) u); wrote = w }
