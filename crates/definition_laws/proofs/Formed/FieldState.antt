-- A field's state over its moves: its conversion is none, s, a or r, and its expression is matched and not blank. Assumes nothing.
use Rattle.std.specs.Prelude.{if◌then◌else◌}
use mathlib.Core.Path.{◌≡◌, refl}
use mathlib.Core.Bool.{Bool, true, false, ◌&&◌, not, and-false}
use mathlib.Core.List.{List, [], ◌∷◌, ◌++◌, map}
use mathlib.Core.Option.{Option, none, some}
use Prim.Native.Nat.{ℕ}
use lib.Dec.{ltb, eqb}
use lib.ListN.{length}
use borrow.Author.Tests.{leb-false, not-false}
use Rattle.definition.specs.Numbers.{is_fstring}
use Rattle.definition.specs.Chars.{◌is◌, at_end, code, next, char}
use Rattle.definition.specs.Escapes.{Naming}
use Rattle.definition.specs.Body.{Signs, Piece, Bracket, Move, goes, Field, state, fresh, add, documented, spaced, FieldCase, pair, converts, documents, formats, opener, closes, closer, quote, space, backslash, stray, field_case, outside, case_of, conversion_move, open_move, matching, close_move, quote_move, field_move, conversion_of, read_body}
use Rattle.definition.specs.Matched.{matched, blank}
use Rattle.definition.specs.Words.{is_conversion}
use Rattle.definition.proofs.Moves.CharLaws.{cases, Utf8}
use Rattle.definition_laws.proofs.Moves.Adds.{Adds, adds_none, adds_both, adds_matched, adds_blank, mark_opener, mark_closer, adds_char, adds_mark, adds_pair, closing, adds_quoted}
use Rattle.definition_laws.proofs.Moves.Cases.{Tells, told}
use Rattle.definition_laws.proofs.Moves.Moves.{none_open}
use Rattle.definition_laws.proofs.Formed.Grammar.{Moved, on, stopped, at_spec, at_end_lem, Closes, TreeRead, body_tree}

-- WHAT A FIELD HAS: its expression, and its conversion
pub record Had (e : List ℕ) (c : ℕ) : Type 0 where
  pub converted : is_conversion c ≡ true
  pub matches : matched e ≡ true
  pub says : blank e ≡ false

-- the open brackets without their places
abbrev pub codes : List Bracket → List ℕ
codes o = map (λ b. b.bracket) o

-- from its state, which keeps this
abbrev pub Keeps : Field → Type 0
Keeps (state e b o c d w g) = (is_conversion c ≡ true) × Adds [] (codes o) b e

is_flag : (c : ℕ) → (c is "sar") ≡ true → is_conversion c ≡ true
is_flag c h = cases (eqb c 0) (λ t. rw t refl) (λ t. rw t h)

conversion_of_lem : (d : Bool) (c : ℕ) (p : Option (List Piece)) → is_conversion c ≡ true → is_conversion (conversion_of d c p) ≡ true
unfolding conversion_of
conversion_of_lem false c p h = h
conversion_of_lem true c none h = cases (eqb c 0) (λ t. rw t refl) (λ t. rw t h)
conversion_of_lem true c (some ps) h = h

-- a move that is chosen by a test
either : {Inv : Field → Type 0} {C : Type 0} (t : Bool) {m m' : Move Field} → (t ≡ true → Moved Inv C m) → (t ≡ false → Moved Inv C m') → Moved Inv C (if t then m else m')
either true p q = p refl
either false p q = q refl

-- THE MOVES of a field of well-formed text; C is what holds where its expression ends
module _ (s : List ℕ) (utf8 : Utf8 s) (i : ℕ) {C : Type 0} where
  conversion_moves : (f : Field) → Keeps f → Moved Keeps C (conversion_move s i f)
  unfolding conversion_move
  conversion_moves (state e b o c d w g) h =
      let flag = next s i in
      either b (λ t. stopped) (λ t.
      either (at_end s flag) (λ t. stopped) (λ t.
      either (not (code s flag is "sar")) (λ t. stopped) (λ t.
      either (code s (next s flag) is "}:") (λ u. on (is_flag (code s flag) (not-false (code s flag is "sar") t), h.1)) (λ u. stopped))))

  open_moves : (f : Field) → Keeps f → (code s i is "([{") ≡ true → Moved Keeps C (open_move s i f)
  unfolding open_move
  open_moves (state e b o c d w g) h p =
      either (ltb (length o) 64) (λ t. on (h.0, rw and-false at (adds_both h.1 (adds_mark s i (mark_opener (code s i) p))))) (λ t. stopped)

  close_moves : (f : Field) → Keeps f → (code s i is ")]}") ≡ true → Moved Keeps C (close_move s i f)
  unfolding close_move
  close_moves (state e b [] c d w g) h p = stopped
  close_moves (state e b (a ∷ o) c d w g) h p =
      either (matching a.bracket (code s i)) (λ m. on (h.0, rw and-false at (adds_both h.1 (adds_mark s i (mark_closer (code s i) p m))))) (λ m. stopped)

  -- more of the expression
  add_moves : (f : Field) (j : ℕ) (t : List ℕ) (x : Bool) → Keeps f → ((o : List ℕ) → Adds o o x t) → Moved Keeps C (goes j (add t x f))
  unfolding add
  add_moves (state e b o c d w g) j t x h a = on {f = state (e ++ t) (b && x) o c d w g} (h.0, adds_both h.1 (a (codes o)))

  quote_moves : (f : Field) → Keeps f → (code s i is "\"'") ≡ true → Moved Keeps C (quote_move s i f)
  unfolding quote_move
  quote_moves f h p =
      either (at_end s (closing s i)) (λ t. stopped)
      (λ t. add_moves f _ _ _ h (adds_quoted s i p (leb-false (length s) (closing s i) t)))

  -- by the case of the character
  case_moves : (e : List ℕ) (b : Bool) (o : List Bracket) (c : ℕ) (d : Bool) (w : ℕ) (g : Signs) → Keeps (state e b o c d w g) → (outside o ≡ true → C) → Moved Keeps C (field_move s i (state e b o c d w g))
  unfolding field_move case_of char documented spaced
  case_moves e b o c d w g h ends = go (field_case s i (outside o) d) refl
    where
      f : Field
      f = state e b o c d w g

      tells : (x : FieldCase) → field_case s i (outside o) d ≡ x → Tells s i (outside o) x
      tells = told s i (outside o) d

      go : (x : FieldCase) → field_case s i (outside o) d ≡ x → Moved Keeps C (field_move s i f)
      go FieldCase.over q = rw (q, field_move) stopped
      go pair q = let t = tells pair q in rw (q, field_move) (add_moves f _ _ _ h (adds_pair s i t.0 t.1))
      go converts q = rw (q, field_move) (conversion_moves f h)
      go documents q = rw (q, field_move) (on h)
      go formats q = rw (q, field_move) (at_spec (ends (tells formats q).0))
      go opener q = rw (q, field_move) (open_moves f h (tells opener q))
      go closes q = rw (q, field_move) (at_end_lem (ends (tells closes q).0))
      go closer q = rw (q, field_move) (close_moves f h (tells closer q))
      go quote q = rw (q, field_move) (quote_moves f h (tells quote q))
      go space q = rw (q, field_move) (on h)
      go backslash q = rw (q, field_move) stopped
      go stray q = rw (q, field_move) stopped
      go FieldCase.plain q = let t = tells FieldCase.plain q in rw (q, field_move) (add_moves f _ _ _ h (adds_char s i t.0 utf8 t.1))

-- EVERY FIELD of a well-formed body has that, and lies at most two deep
pub body_had : (look : Naming) → (kind : ℕ) (s : List ℕ) → Utf8 s → is_fstring kind ≡ true → TreeRead Had 0 (read_body look kind s)
unfolding fresh
body_had look kind s utf8 = body_tree look kind s Keeps Had (refl, adds_none) step
  where
    step : (i : ℕ) (f : Field) → Keeps f → Moved Keeps (Closes Had f) (field_move s i f)
    step i (state e b o c d w g) (k, a) =
        case_moves s utf8 i e b o c d w g (k, a)
        (λ out q p. record { converted = conversion_of_lem d c p k; matches = adds_matched (rw (none_open o out) at a); says = adds_blank a q })
