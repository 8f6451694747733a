-- Moves over a text, and what holds between two of them. Assumes nothing.
use mathlib.Core.Path.{◌≡◌, refl, sym, ◌∙◌, ap}
use mathlib.Core.Bool.{Bool, true, false}
use mathlib.Core.List.{List, [], ◌++◌}
use mathlib.Core.Logic.{◌⊎◌, inl, inr}
use Prim.Native.Nat.{ℕ, ◌+◌, ◌*◌, ◌≤◌, ◌<◌}
use native.Mathlib.Omega.{arith}
use borrow.Author.Tests.{lt-ltb, le-ltb, le-leb, leb-true, leb-false}
use lib.Dec.{leb}
use lib.ListN.{length, length-append}
use Rattle.definition.specs.Numbers.{expression_nested_too_deeply}
use Rattle.definition.specs.Chars.{no_code, code, next}
use Rattle.definition.specs.Escapes.{Naming, Fault, fault, Read, got, refused, Meaning, escape, encode}
use Rattle.definition.specs.Body.{Piece as Record, Move, goes, stops, calls, ends, with_escape, StringCase, string_case, string_move, string_n, TextCase, deep, opens, last, doubled, lone, text_case, text_move, text_n, enough}
use Rattle.definition.proofs.Moves.CharLaws.{cases, no, next_from, next_in}
use Rattle.definition_laws.proofs.Moves.Moves.{string_ahead, text_ahead}
use Rattle.definition_laws.proofs.Moves.Whole.{string_on, string_stop, string_end, text_on, text_stop}
use Rattle.marks.specs.Marks.{fault_of}
use Rattle.buffers.specs.Over.{over}
use Rattle.buffers.proofs.Over.{over_nil, length_over, over_append}
use Rattle.utf8.specs.declared.Cursor.{Cursor}
use Rattle.marks.specs.declared.Refusal.{Refusal}
use Rattle.texts.specs.declared.Piece.{Piece}
use Rattle.texts.specs.declared.Piece.TheVariants.{On, Field, Over, Refused}
use Rattle.texts.specs.declared.Text.TheVariants.{Done, Refused as Not}
use Rattle.texts.specs.declared.Run.TheVariants.{Field as AtField, Refused as None}
use Rattle.texts.specs.Codes.{CodedIs}
use Rattle.texts.specs.Text.{too_large, Taken, Does, Leads, here, more, Upto, Stops, Halts, Whether, StringBy, StopsBy, RunBy}

-- where nothing is left there is no code
pub code_end : (s : List ℕ) (i : ℕ) → length s ≤ i → code s i ≡ no_code
unfolding code
code_end s i h = rw (le-leb _ _ h)

-- a character that was taken lies in the body
pub within : (s : List ℕ) (i j : ℕ) → Taken s i j → (i ≤ j) × (j ≤ length s)
within s i j p = rw p.1 (next_from s i, next_in s i (omega arith))

-- what is not too large is read
pub not_large : (s : List ℕ) (used : ℕ) → length s ≤ 1048576 → used ≤ 4294967296 → too_large s used ≡ false
not_large s used l h = rw (le-ltb 1048576 (length s) l, le-ltb 4294967296 used h)

pub read_by : (A B : Type 0) (t : Bool) → t ≡ false → Whether t A B → B
read_by A B t e h = rw e at h

-- A MOVE FROM AN EMPTY TEXT, put onto a text
abbrev onto : List ℕ → Move (List ℕ) → Move (List ℕ)
onto c (goes j t) = goes j (c ++ t)
onto c (stops x) = stops x
onto c calls = calls
onto c ends = ends

escape_onto : (kind : ℕ) (s : List ℕ) (i : ℕ) (c : List ℕ) (r : Read Meaning) → with_escape kind s i c r ≡ onto c (with_escape kind s i [] r)
unfolding with_escape
escape_onto kind s i c (got m j) = refl
escape_onto kind s i c (refused x) = refl

string_onto : (look : Naming) → (kind : ℕ) (s : List ℕ) (i : ℕ) (c : List ℕ) → string_move look kind s i c ≡ onto c (string_move look kind s i [])
unfolding string_move
string_onto look kind s i c = go (string_case kind s i) refl
  where
    go : (x : StringCase) → string_case kind s i ≡ x → string_move look kind s i c ≡ onto c (string_move look kind s i [])
    go StringCase.over e = rw (e, string_move)
    go StringCase.escapes e = rw (e, string_move) (escape_onto kind s i c (escape look kind s (next s i)))
    go StringCase.foreign e = rw (e, string_move)
    go StringCase.plain e = rw (e, string_move)

text_onto : (look : Naming) → (kind : ℕ) (s : List ℕ) (depth i : ℕ) (c : List ℕ) → text_move look kind s depth i c ≡ onto c (text_move look kind s depth i [])
unfolding text_move
text_onto look kind s depth i c = go (text_case kind s depth i) refl
  where
    go : (x : TextCase) → text_case kind s depth i ≡ x → text_move look kind s depth i c ≡ onto c (text_move look kind s depth i [])
    go deep e = rw (e, text_move)
    go TextCase.over e = rw (e, text_move)
    go opens e = rw (e, text_move)
    go last e = rw (e, text_move)
    go doubled e = rw (e, text_move)
    go lone e = rw (e, text_move)
    go TextCase.escapes e = rw (e, text_move) (escape_onto kind s i c (escape look kind s (next s i)))
    go TextCase.plain e = rw (e, text_move)

-- MOVES AFTER ONE ANOTHER: each goes ahead in the body, and adds no more than two bytes for each that it takes
pub record Bounds (s : List ℕ) (from i : ℕ) (content : List ℕ) : Type 0 where
  pub ahead : from ≤ i
  pub inside : from ≤ length s → i ≤ length s
  pub near : i ≤ from + length s
  pub light : length content + length content + 4 * from ≤ 4 * i

abbrev Forward : List ℕ → (ℕ → List ℕ → Move (List ℕ)) → Type 0
Forward s move =
    (i : ℕ) (t : List ℕ) (j : ℕ) (u : List ℕ) → move i t ≡ goes j u
    → (i < j) × (j ≤ length s) × (length u + length u + 4 * i ≤ length t + length t + 4 * j)

bounds : (s : List ℕ) (move : ℕ → List ℕ → Move (List ℕ)) → Forward s move → (from i : ℕ) (t : List ℕ) → Leads move from [] i t → Bounds s from i t
bounds s move f from i t here = record { ahead = omega arith; inside = λ h. h; near = omega arith; light = omega arith }
bounds s move f from k v (more {j} {u} l e) =
    let b = bounds s move f from j u l in
    let a = f j u k v e in
    record { ahead = omega (arith, b.ahead, a.0); inside = λ h. a.1; near = omega (arith, a.1); light = omega (arith, b.light, a.2) }

module _ (look : Naming) (kind : ℕ) (s : List ℕ) where
  pub string_forward : Forward s (string_move look kind s)
  string_forward i t j u e = let a = rw e at (string_ahead look kind s i t) in (a.0, a.1, a.2)

  pub string_bounds : (i : ℕ) (t : List ℕ) → Leads (string_move look kind s) 0 [] i t → Bounds s 0 i t
  string_bounds = bounds s (string_move look kind s) string_forward 0

  -- the readings are the same
  string_same : (i : ℕ) (t : List ℕ) → Leads (string_move look kind s) 0 [] i t → string_n look (enough s) kind s 0 [] ≡ string_n look (enough s) kind s i t
  string_same i t here = refl
  string_same k v (more {j} {u} l e) = string_same j u l ∙ string_on look kind s j u k v (string_forward j u k v e).1 e

-- whether a move takes a character
abbrev takes : Move (List ℕ) → Bool
takes (goes j t) = true
takes (stops x) = false
takes calls = true
takes ends = false

module _ (look : Naming) (kind : ℕ) (s : List ℕ) (depth : ℕ) where
  -- past the end nothing is taken
  past : (i : ℕ) (t : List ℕ) → length s ≤ i → takes (text_move look kind s depth i t) ≡ false
  unfolding text_move text_case
  past i t h = cases (leb 2 depth) (λ d. rw (d, text_move, text_case)) (λ d. rw (d, le-leb _ _ h, text_move, text_case))

  inner : (i : ℕ) (t : List ℕ) → takes (text_move look kind s depth i t) ≡ true → i < length s
  inner i t e = cases (leb (length s) i) (λ h. no (sym (past i t (leb-true _ _ h)) ∙ e)) (λ h. leb-false _ _ h)

  pub text_forward : Forward s (text_move look kind s depth)
  text_forward i t j u e =
      let h : i < length s = inner i t (rw e) in
      let a = rw e at (text_ahead look kind s depth i t (omega arith)) in
      (a.0, a.1, a.2)

  -- a field opens at a `{`, and not at a depth of 2
  pub opens_shallow : (i : ℕ) (t : List ℕ) → text_move look kind s depth i t ≡ calls → depth < 2
  unfolding text_move text_case
  opens_shallow i t e = cases (leb 2 depth) (λ d. no (sym (stays d) ∙ rw e)) (λ d. leb-false _ _ d)
    where
      stays : leb 2 depth ≡ true → takes (text_move look kind s depth i t) ≡ false
      stays d = rw (d, text_move, text_case)

  opens_there : (i : ℕ) (t : List ℕ) → text_move look kind s depth i t ≡ calls → i < length s
  opens_there i t e = inner i t (rw e)

  pub text_bounds : (from i : ℕ) (t : List ℕ) → Leads (text_move look kind s depth) from [] i t → Bounds s from i t
  text_bounds = bounds s (text_move look kind s depth) text_forward

  -- the readings are the same
  pub text_same : (from i : ℕ) (t : List ℕ) → Leads (text_move look kind s depth) from [] i t
      → (ps : List Record) → text_n look (enough s) kind s depth from [] ps ≡ text_n look (enough s) kind s depth i t ps
  text_same from i t here ps = refl
  text_same from k v (more {j} {u} l e) ps = text_same from j u l ps ∙ text_on look kind s depth j u ps k v (text_forward j u k v e).1 e

-- THE MOVE THAT AN ANSWER TELLS
record Added (m : Move (List ℕ)) (j end used : ℕ) (text text' : List ℕ) : Type 0 where
  bytes : List ℕ
  move : m ≡ goes j bytes
  ended : end ≡ used + length bytes
  wrote : text' ≡ over text used bytes

module _ (s : List ℕ) (i used : ℕ) (text text' : List ℕ) where
  abbrev Told : Move (List ℕ) → Piece → Type 0
  Told m (On k end) = Added m k.at end used text text'
  Told m (Field k) = (m ≡ calls) × (k.at ≡ next s i) × (text' ≡ text)
  Told m Over = (m ≡ ends) × (text' ≡ text)
  Told m (Refused x) = (m ≡ stops (fault_of x)) × (text' ≡ text)

  told : (m : Move (List ℕ)) (r q : Piece) → r ≡ q → Does m s i used text text' r → Told m q
  told (goes j t) r q e d = rw (sym e ∙ d.0) (record { bytes = t; move = refl; ended = refl; wrote = d.1 })
  told (stops x) r q e d = rw (sym e ∙ d.0) (refl, d.1)
  told calls r q e d = rw (sym e ∙ d.0) (refl, refl, d.1)
  told ends r q e d = rw (sym e ∙ d.0) (refl, d.1)

-- BETWEEN TWO MOVES
pub start : (move : ℕ → List ℕ → Move (List ℕ)) (i used : ℕ) (text : List ℕ) → Upto move i used text text i used
start move i used text = record { content = []; leads = here; wrote = sym (over_nil text used); ended = omega arith }

module _ (move : ℕ → List ℕ → Move (List ℕ)) (from used : ℕ) (text₀ text : List ℕ) (i end : ℕ) (u : Upto move from used text₀ text i end) (text' : List ℕ) where
  on : (s : List ℕ) (k : Cursor) (e : ℕ) (m : Move (List ℕ)) → Told s i end text text' m (On k e) → move i u.content ≡ onto u.content m → Upto move from used text₀ text' k.at e
  on s k e m w f =
      let l = length-append u.content w.bytes in
      record {
        content = u.content ++ w.bytes;
        leads = more u.leads (f ∙ ap (onto u.content) w.move);
        wrote = w.wrote ∙ rw (u.wrote, u.ended) (over_append text₀ used u.content w.bytes);
        ended = omega (arith, w.ended, u.ended);
      }

  stopped : (m : Move (List ℕ)) → move i u.content ≡ m → text' ≡ text → Stops move m from used text₀ text' i end
  stopped m e w = record { upto = record { content = u.content; leads = u.leads; wrote = w ∙ u.wrote; ended = u.ended }; move = e }

-- the buffer's length stays
pub long : (move : ℕ → List ℕ → Move (List ℕ)) (from used : ℕ) (text₀ text : List ℕ) (i end : ℕ) → Upto move from used text₀ text i end → length text ≡ length text₀
long move from used text₀ text i end u = rw u.wrote (length_over text₀ used u.content)

-- A STRING'S MOVES
module _ (look : Naming) (kind : ℕ) (s : List ℕ) (used : ℕ) (text₀ text : List ℕ) (i end : ℕ) (u : Upto (string_move look kind s) 0 used text₀ text i end) (text' : List ℕ) (r : Piece) (d : Does (string_move look kind s i []) s i end text text' r) where
  string_told : (q : Piece) → r ≡ q → Told s i end text text' (string_move look kind s i []) q
  string_told q e = told s i end text text' (string_move look kind s i []) r q e d

  string_is : (m : Move (List ℕ)) → string_move look kind s i [] ≡ m → string_move look kind s i u.content ≡ onto u.content m
  string_is m e = string_onto look kind s i u.content ∙ ap (onto u.content) e

  pub string_more : (k : Cursor) (e : ℕ) → r ≡ On k e → (i < k.at) × (k.at ≤ length s) × Upto (string_move look kind s) 0 used text₀ text' k.at e
  string_more k e q =
      let w = string_told (On k e) q in
      let a = string_forward look kind s i [] k.at w.bytes w.move in
      (a.0, a.1, on (string_move look kind s) 0 used text₀ text i end u text' s k e (string_move look kind s i []) w (string_onto look kind s i u.content))

  pub string_refused : (x : Refusal) → r ≡ Refused x → StringBy look kind s (string_n look (enough s) kind s 0 []) used text₀ text' (Not x)
  string_refused x q =
      let w = string_told (Refused x) q in
      let e = string_is (stops (fault_of x)) w.0 in
      rw (string_same look kind s i u.content u.leads ∙ string_stop look kind s i u.content (fault_of x) e)
      (refl, record { place = i; end = end; stops = stopped (string_move look kind s) 0 used text₀ text i end u text' (stops (fault_of x)) e w.1 })

  -- neither is the end, since no field opens in a string
  pub string_over : ((k : Cursor) × (r ≡ Field k)) ⊎ (r ≡ Over) → StringBy look kind s (string_n look (enough s) kind s 0 []) used text₀ text' (Done end)
  string_over (inl (k, q)) = absurd (rw (string_told (Field k) q).0 at (string_ahead look kind s i []))
  string_over (inr q) =
      let w = string_told Over q in
      rw (string_same look kind s i u.content u.leads ∙ string_end look kind s i u.content (string_is ends w.0)) (rw u.ended, w.1 ∙ u.wrote)

module _ (look : Naming) (kind : ℕ) (s : List ℕ) (used : ℕ) (text₀ text : List ℕ) (i end : ℕ) (u : Upto (string_move look kind s) 0 used text₀ text i end) where
  -- over an escape that stands for a code
  pub string_coded : (c j e : ℕ) (text' : List ℕ) → CodedIs kind s i c j → e ≡ end + length (encode kind c) → text' ≡ over text end (encode kind c)
      → (i < j) × (j ≤ length s) × Upto (string_move look kind s) 0 used text₀ text' j e
  string_coded c j e text' m q w =
      let k : Cursor = record { at = j } in
      string_more look kind s used text₀ text i end u text' (On k e) (rw (m look) (rw q refl, w)) k e refl

  -- at the end of the body
  pub string_done : length s ≤ i → StringBy look kind s (string_n look (enough s) kind s 0 []) used text₀ text (Done end)
  unfolding string_move string_case
  string_done h =
      rw (string_same look kind s i u.content u.leads ∙ string_end look kind s i u.content (rw (le-leb _ _ h, string_move, string_case))) (rw u.ended, u.wrote)

-- AN F-STRING'S MOVES
module _ (look : Naming) (kind : ℕ) (s : List ℕ) (depth from used : ℕ) (text₀ text : List ℕ) (i end : ℕ) (u : Upto (text_move look kind s depth) from used text₀ text i end) (text' : List ℕ) (r : Piece) (d : Does (text_move look kind s depth i []) s i end text text' r) where
  text_told : (q : Piece) → r ≡ q → Told s i end text text' (text_move look kind s depth i []) q
  text_told q e = told s i end text text' (text_move look kind s depth i []) r q e d

  text_stops : (m : Move (List ℕ)) → text_move look kind s depth i [] ≡ m → text' ≡ text → StopsBy look (onto u.content m) kind s depth from used text₀ text' i end
  text_stops m e w =
      stopped (text_move look kind s depth) from used text₀ text i end u text' (onto u.content m) (text_onto look kind s depth i u.content ∙ ap (onto u.content) e) w

  pub text_more : (k : Cursor) (e : ℕ) → r ≡ On k e → (i < k.at) × (k.at ≤ length s) × Upto (text_move look kind s depth) from used text₀ text' k.at e
  text_more k e q =
      let w = text_told (On k e) q in
      let a = text_forward look kind s depth i [] k.at w.bytes w.move in
      (a.0, a.1, on (text_move look kind s depth) from used text₀ text i end u text' s k e (text_move look kind s depth i []) w (text_onto look kind s depth i u.content))

  pub text_opens : (k : Cursor) → r ≡ Field k → RunBy look kind s depth from used text₀ text' (AtField k end)
  text_opens k q =
      let w = text_told (Field k) q in
      record { brace = i; there = opens_there look kind s depth i [] w.0; after = w.1; stops = text_stops calls w.0 w.2 }

  pub text_over : r ≡ Over → StopsBy look ends kind s depth from used text₀ text' i end
  text_over q = let w = text_told Over q in text_stops ends w.0 w.1

  pub text_refused : (x : Refusal) → r ≡ Refused x → RunBy look kind s depth from used text₀ text' (None x)
  text_refused x q = let w = text_told (Refused x) q in record { place = i; end = end; stops = text_stops (stops (fault_of x)) w.0 w.1 }

-- what refuses a run refuses the text
pub text_refuses : (look : Naming) (kind : ℕ) (s : List ℕ) (depth from used : ℕ) (text text' : List ℕ) (x : Fault) → Halts (text_move look kind s depth) x from used text text'
    → (ps : List Record) → text_n look (enough s) kind s depth from [] ps ≡ refused x
text_refuses look kind s depth from used text text' x h ps =
    let u = h.stops.upto in
    text_same look kind s depth from h.place u.content u.leads ps ∙ text_stop look kind s depth h.place u.content ps x h.stops.move

-- at a depth of 2 text stops where it begins
pub text_deep : (look : Naming) (kind : ℕ) (s : List ℕ) (depth from used : ℕ) (text : List ℕ) → 2 ≤ depth → Halts (text_move look kind s depth) (fault expression_nested_too_deeply from) from used text text
unfolding text_move text_case
text_deep look kind s depth from used text h =
    record {
      place = from;
      end = used;
      stops = record { upto = start (text_move look kind s depth) from used text; move = rw (le-leb 2 depth h, text_move, text_case) };
    }

-- a body or a used length with which no text is read, by either test
pub too_large_is : (s : List ℕ) (used : ℕ) → (1048576 < length s) ⊎ ((length s ≤ 1048576) × (4294967296 < used)) → too_large s used ≡ true
too_large_is s used (inl h) = rw (lt-ltb 1048576 (length s) h) refl
too_large_is s used (inr (h, k)) = rw (le-ltb 1048576 (length s) h, lt-ltb 4294967296 used k) refl
