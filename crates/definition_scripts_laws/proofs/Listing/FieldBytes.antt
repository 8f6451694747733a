-- THE FIELDS OF A BODY have bytes of their own: each its `{`, its source and the sign that ends it; all together no more than the body has. Assumes nothing.
use Rattle.std.specs.Prelude.{if◌then◌else◌}
use mathlib.Core.Path.{◌≡◌, refl}
use mathlib.Core.Bool.{Bool, true, false, ◌&&◌, not}
use mathlib.Core.List.{List, [], ◌∷◌, ◌++◌}
use mathlib.Core.Option.{Option, none, some}
use Prim.Native.Nat.{ℕ, zero, suc, ◌+◌, ◌-◌, ◌≤◌, ◌<◌}
use native.Mathlib.Omega.{arith}
use borrow.Author.Tests.{eqb-true}
use lib.Dec.{ltb, eqb}
use lib.ListN.{length, drop}
use Rattle.definition.specs.Numbers.{is_fstring, empty_expression}
use Rattle.definition.specs.Chars.{◌is◌, at_end, part, code, next, before}
use Rattle.definition.specs.Escapes.{Naming, Fault, fault, Read, got, refused}
use Rattle.definition.specs.Body.{Signs, Piece, literal, field, spec, Move, goes, stops, calls, ends, filled, Field, state, with_equals, with_bang, with_colon, with_close, fresh, add, documented, spaced, formatted, FieldCase, pair, converts, documents, formats, opener, closes, closer, quote, space, backslash, stray, outside, field_case, case_of, conversion_move, open_move, matching, close_move, quote_move, field_move, text_move, conversion_of, field_pieces, self_documenting, finished, specified, first_end, text_n, field_n, spec_n, string_n, enough, alone, read_body}
use Rattle.definition.specs.Rows.{pieces_of}
use Rattle.definition_scripts.specs.Listing.{source_end}
use Rattle.definition.proofs.Moves.CharLaws.{cases, next_past, next_in, next_from}
use Rattle.definition_laws.proofs.Moves.Moves.{text_size, Ahead, text_ahead, FieldAhead, field_ahead}
use Rattle.definition_laws.proofs.Moves.Steps.{text_goes, text_stops, text_ends, text_got, text_refused, field_goes, field_stops, field_ends, field_got, field_refused, first_piece, spec_calls, spec_ends}
use Rattle.definition_laws.proofs.Moves.Fuel.{first_in_lem}

-- the bytes that the fields of pieces have of their own
abbrev pub weight : List Piece → ℕ
weight [] = 0
weight (literal d t ∷ ps) = weight ps
weight (field d e c n i g ∷ ps) = source_end g - i + 2 + weight ps
weight (spec n ∷ ps) = weight ps

weight_append : (ps qs : List Piece) → weight (ps ++ qs) ≡ weight ps + weight qs
weight_append [] qs = omega arith
weight_append (literal d t ∷ ps) qs = weight_append ps qs
weight_append (field d e c n i g ∷ ps) qs = omega (arith, weight_append ps qs)
weight_append (spec n ∷ ps) qs = weight_append ps qs

filled_weight : (depth : ℕ) (text : List ℕ) → weight (filled depth text) ≡ 0
unfolding filled
filled_weight depth [] = refl
filled_weight depth (b ∷ text) = refl

-- BEFORE ITS SPEC a field that was read up to i has its `!` before there, and no `:`
abbrev Early : ℕ → Field → Type 0
Early i (state e b o c d w g) = (g.bang ≤ i) × (g.colon ≡ 0)

data EarlyMove (i : ℕ) : Move Field → Type 0 where
  on : {j : ℕ} {f : Field} → (i ≤ j → Early j f) → EarlyMove i (goes j f)
  stopped : {x : Fault} → EarlyMove i (stops x)
  at_colon : EarlyMove i calls
  at_brace : EarlyMove i ends

later : (i j : ℕ) (f : Field) → Early i f → i ≤ j → Early j f
later i j (state e b o c d w g) h l = let k = h.0 in (omega arith, h.1)

-- one that is chosen by a test
by_test : {i : ℕ} (t : Bool) {m m' : Move Field} → EarlyMove i m → EarlyMove i m' → EarlyMove i (if t then m else m')
by_test true p q = p
by_test false p q = q

module _ (s : List ℕ) (i : ℕ) where
  add_early : (j : ℕ) (t : List ℕ) (b : Bool) (f : Field) → Early i f → EarlyMove i (goes j (add t b f))
  unfolding add
  add_early j t b' (state e b o c d w g) h = on {j = j} {f = state (e ++ t) (b && b') o c d w g} (later i j (state e b o c d w g) h)

  conversion_early : (f : Field) → Early i f → EarlyMove i (conversion_move s i f)
  unfolding conversion_move with_bang
  conversion_early (state e b o c d w g) h =
      let flag = next s i in
      by_test b stopped
      (by_test (at_end s flag) stopped
      (by_test (not (code s flag is "sar")) stopped
      (by_test (code s (next s flag) is "}:") (on (λ l. (next_from s flag, h.1))) stopped)))

  open_early : (f : Field) → Early i f → EarlyMove i (open_move s i f)
  unfolding open_move
  open_early (state e b o c d w g) h = by_test (ltb (length o) 64) (on (later i (next s i) (state e b o c d w g) h)) stopped

  close_early : (f : Field) → Early i f → EarlyMove i (close_move s i f)
  unfolding close_move
  close_early (state e b [] c d w g) h = stopped
  close_early (state e b (a ∷ o) c d w g) h = by_test (matching a.bracket (code s i)) (on (later i (next s i) (state e b o c d w g) h)) stopped

  quote_early : (f : Field) → Early i f → EarlyMove i (quote_move s i f)
  unfolding quote_move
  quote_early f h =
      let close = next s i + before (λ b. eqb b (code s i)) (drop (next s i) s) in
      by_test (at_end s close) stopped (add_early (close + 1) (part s i (close + 1)) false f h)

  field_early : (f : Field) → Early i f → EarlyMove i (field_move s i f)
  unfolding field_move case_of documented with_equals spaced
  field_early (state e b o c d w g) h = go (field_case s i (outside o) d) refl
    where
      f : Field
      f = state e b o c d w g

      go : (x : FieldCase) → field_case s i (outside o) d ≡ x → EarlyMove i (field_move s i f)
      go FieldCase.over e = rw (e, field_move) stopped
      go pair e = rw (e, field_move) (add_early _ _ _ f h)
      go converts e = rw (e, field_move) (conversion_early f h)
      go documents e = rw (e, field_move) (on (later i (next s i) f h))
      go formats e = rw (e, field_move) at_colon
      go opener e = rw (e, field_move) (open_early f h)
      go closes e = rw (e, field_move) at_brace
      go closer e = rw (e, field_move) (close_early f h)
      go quote e = rw (e, field_move) (quote_early f h)
      go space e = rw (e, field_move) (on (later i (next s i) f h))
      go backslash e = rw (e, field_move) stopped
      go stray e = rw (e, field_move) stopped
      go FieldCase.plain e = rw (e, field_move) (add_early _ _ _ f h)

-- A READING from i on: its fields have w bytes, and at most one more for each byte that it takes
abbrev Few : ℕ → List ℕ → ℕ → Read (List Piece) → Type 0
Few w s i (got ps j) = (i ≤ j) × (j ≤ length s) × (weight ps + i ≤ w + j)
Few w s i (refused x) = Unit {0}

-- from a later place on
fewer : (w w' : ℕ) (s : List ℕ) (i j : ℕ) (r : Read (List Piece)) → i ≤ j → w' + i ≤ w + j → Few w' s j r → Few w s i r
fewer w w' s i j (got ps k) h l p = (omega arith, p.1, omega arith)
fewer w w' s i j (refused x) h l p = tt

-- where the source of a field ends that is closed just before j
abbrev end_of : ℕ → Field → ℕ
end_of j (state e b o c d w g) = source_end (with_close j g)

source_by : (g : Signs) (m : ℕ) → g.bang ≤ m + 1 → g.colon ≤ m + 1 → (g.colon ≡ 0 → g.close ≤ m + 1) → source_end g ≤ m
unfolding source_end
source_by g m p q r =
    cases (eqb g.bang 0)
    (λ e. cases (eqb g.colon 0) (λ f. let h = r (eqb-true g.colon 0 f) in rw (e, f) (omega arith)) (λ f. rw (e, f) (omega arith)))
    (λ e. rw e (omega arith))

bare_by : (i j : ℕ) (f : Field) → Early i f → i < j → end_of j f ≤ j - 1
unfolding with_close
bare_by i j (state e b o c d w g) h l = let p = h.0 in let q = h.1 in source_by (with_close j g) (j - 1) (omega arith) (omega arith) (λ z. omega arith)

formatted_by : (i a j : ℕ) (f : Field) → Early i f → i < a → end_of j (formatted a f) ≤ a - 1
unfolding with_close formatted with_colon
formatted_by i a j (state e b o c d w g) h l = let p = h.0 in source_by (with_close j (with_colon a g)) (a - 1) (omega arith) (omega arith) (λ z. absurd (omega arith))

abbrev spec_weight : Option (List Piece) → ℕ
spec_weight none = 0
spec_weight (some ps) = weight ps

finished_few : (s : List ℕ) (depth from j : ℕ) (f : Field) (p : Option (List Piece)) → from ≤ j → j ≤ length s → end_of j f - from + 2 + spec_weight p + from ≤ 1 + j → Few 1 s from (finished depth from j f p)
unfolding finished self_documenting field_pieces
finished_few s depth from j (state e b o c d w g) p h k l = go b
  where
    c' : ℕ
    c' = conversion_of d c p

    pieces : (d : Bool) (p : Option (List Piece)) → weight (self_documenting depth d e w ++ field_pieces depth e c' from (with_close j g) p) ≡ source_end (with_close j g) - from + 2 + spec_weight p
    pieces true none = refl
    pieces true (some ps) = refl
    pieces false none = refl
    pieces false (some ps) = refl

    go : (x : Bool) → Few 1 s from (if x then refused (fault empty_expression j) else got (self_documenting depth d e w ++ field_pieces depth e c' from (with_close j g) p) j)
    go true = tt
    go false = (h, k, omega (arith, pieces d p))

specified_few : (s : List ℕ) (depth from j : ℕ) (f : Field) (ps : List Piece) → from ≤ j → j ≤ length s → ((k : ℕ) → end_of k f - from + 2 + weight ps + from ≤ 1 + j) → Few 1 s from (specified s depth from j f ps)
unfolding specified
specified_few s depth from j f ps h k l = go (at_end s j) refl
  where
    go : (t : Bool) → at_end s j ≡ t → Few 1 s from (specified s depth from j f ps)
    go true e = rw e tt
    go false e =
        let a = next_from s j in
        let m = l (next s j) in
        rw e (finished_few s depth from (next s j) f (some ps) (omega arith) (next_in s j k) (omega arith))

record Fewest (look : Naming) (n : ℕ) : Type 0 where
  text : (kind : ℕ) (s : List ℕ) (depth i : ℕ) (text : List ℕ) (ps : List Piece) → i ≤ length s → Few (weight ps) s i (text_n look n kind s depth i text ps)
  field : (kind : ℕ) (s : List ℕ) (depth from i : ℕ) (f : Field) → from ≤ i → i ≤ length s → Early i f → Few 1 s from (field_n look n kind s depth from i f)
  spec : (kind : ℕ) (s : List ℕ) (depth i : ℕ) → i ≤ length s → Few 0 s i (spec_n look n kind s depth i)

module _ (look : Naming) (n : ℕ) (R : Fewest look n) (kind : ℕ) (s : List ℕ) (depth : ℕ) where
  text_few : (i : ℕ) (text : List ℕ) (ps : List Piece) → i ≤ length s → Few (weight ps) s i (text_n look (suc n) kind s depth i text ps)
  unfolding fresh
  text_few i text ps l = go (text_move look kind s depth i text) refl (text_ahead look kind s depth i text l)
    where
      a : ℕ
      a = next s i

      Goal : Type 0
      Goal = Few (weight ps) s i (text_n look (suc n) kind s depth i text ps)

      after : (r : Read (List Piece)) → field_n look n kind s depth a a fresh ≡ r → Few 1 s a r → i < length s → text_move look kind s depth i text ≡ calls → Goal
      after (got qs j) f p h e =
          let qs' = ps ++ filled depth text ++ qs in
          let past = next_past s i h in
          rw (text_got look n kind s depth i text ps qs j e f)
          (fewer (weight ps) (weight qs') s i j (text_n look n kind s depth j [] qs') (omega arith)
          (omega (arith, weight_append (ps ++ filled depth text) qs, weight_append ps (filled depth text), filled_weight depth text))
          (R.text kind s depth j [] qs' p.1))
      after (refused x) f p h e = rw (text_refused look n kind s depth i text ps x e f) tt

      go : (x : Move (List ℕ)) → text_move look kind s depth i text ≡ x → Ahead text_size (text_size text) (i < length s) (Unit {0}) s i x → Goal
      go (goes j text') e h = rw (text_goes look n kind s depth i text ps j text' e) (fewer (weight ps) (weight ps) s i j (text_n look n kind s depth j text' ps) (omega arith) (omega arith) (R.text kind s depth j text' ps h.1))
      go (stops x) e h = rw (text_stops look n kind s depth i text ps x e) tt
      go calls e h = after (field_n look n kind s depth a a fresh) refl (R.field kind s depth a a fresh (omega arith) (next_in s i l) (omega arith, refl)) h e
      go ends e h = rw (text_ends look n kind s depth i text ps e) (omega arith, l, omega (arith, weight_append ps (filled depth text), filled_weight depth text))

  field_few : (from i : ℕ) (f : Field) → from ≤ i → i ≤ length s → Early i f → Few 1 s from (field_n look (suc n) kind s depth from i f)
  field_few from i f b l m = go (field_move s i f) refl (field_ahead s i f l) (field_early s i f m)
    where
      a : ℕ
      a = next s i

      Goal : Type 0
      Goal = Few 1 s from (field_n look (suc n) kind s depth from i f)

      after : (r : Read (List Piece)) → spec_n look n kind s depth a ≡ r → Few 0 s a r → i < length s → field_move s i f ≡ calls → Goal
      after (got ps j) g p h e =
          let past = next_past s i h in
          rw (field_got look n kind s depth from i f ps j e g)
          (specified_few s depth from j (formatted a f) ps (omega arith) p.1 (λ k. omega (arith, formatted_by i a k f m past)))
      after (refused x) g p h e = rw (field_refused look n kind s depth from i f x e g) tt

      go : (x : Move Field) → field_move s i f ≡ x → FieldAhead s i f x → EarlyMove i x → Goal
      go (goes j f') e h (on k) = rw (field_goes look n kind s depth from i f j f' e) (R.field kind s depth from j f' (omega arith) h.1 (k (omega arith)))
      go (stops x) e h stopped = rw (field_stops look n kind s depth from i f x e) tt
      go calls e h at_colon = after (spec_n look n kind s depth a) refl (R.spec kind s depth a (next_in s i l)) h e
      go ends e h at_brace =
          let past = next_past s i h in
          rw (field_ends look n kind s depth from i f e) (finished_few s depth from a f none (omega arith) (next_in s i l) (omega (arith, bare_by i a f m past)))

  spec_few : (i : ℕ) → i ≤ length s → Few 0 s i (spec_n look (suc n) kind s depth i)
  spec_few i l = go (code s (first_end s i) is "{") refl
    where
      j : ℕ
      j = first_end s i

      none_yet : weight (first_piece s depth i) ≡ 0
      none_yet = filled_weight (suc depth) (part s i j)

      go : (t : Bool) → (code s j is "{") ≡ t → Few 0 s i (spec_n look (suc n) kind s depth i)
      go true e =
          let qs = first_piece s depth i in
          rw (spec_calls look n kind s depth i e)
          (fewer 0 (weight qs) s i j (text_n look n kind s (suc depth) j [] qs) (omega arith) (omega (arith, none_yet)) (R.text kind s (suc depth) j [] qs (first_in_lem s i l)))
      go false e = rw (spec_ends look n kind s depth i e) (omega arith, first_in_lem s i l, omega (arith, none_yet))

fewest : (look : Naming) → (n : ℕ) → Fewest look n
unfolding text_n
fewest look zero = record { text = λ kind s depth i text ps l. tt; field = λ kind s depth from i f b l m. tt; spec = λ kind s depth i l. tt }
fewest look (suc n) = record {
  text = λ kind s depth. text_few look n (fewest look n) kind s depth;
  field = λ kind s depth. field_few look n (fewest look n) kind s depth;
  spec = λ kind s depth. spec_few look n (fewest look n) kind s depth;
}

-- ONE BODY
pub body_few : (look : Naming) → (kind : ℕ) (s : List ℕ) → weight (pieces_of (read_body look kind s)) ≤ length s
unfolding read_body alone pieces_of
body_few look kind s = go (is_fstring kind) refl
  where
    one : (r : Read (List ℕ)) → weight (pieces_of (alone r)) ≤ length s
    one (got t j) = omega arith
    one (refused x) = omega arith

    more : (r : Read (List Piece)) → Few 0 s 0 r → weight (pieces_of r) ≤ length s
    more (got ps j) p = omega arith
    more (refused x) p = omega arith

    go : (t : Bool) → is_fstring kind ≡ t → weight (pieces_of (read_body look kind s)) ≤ length s
    go true e = rw (e, read_body) (more (text_n look (enough s) kind s 0 0 [] []) ((fewest look (enough s)).text kind s 0 0 [] [] (omega arith)))
    go false e = rw (e, read_body) (one (string_n look (enough s) kind s 0 []))
