-- A FIELD'S SPEC IN A BODY: it has a `:` exactly if it has a spec, and the spec's pieces are what is written between that `:` and its `}`. Assumes nothing.
use Rattle.std.specs.Prelude.{if◌then◌else◌}
use mathlib.Core.Path.{◌≡◌, refl, sym, subst, ◌∙◌}
use mathlib.Core.Bool.{Bool, true, false, or-true}
use mathlib.Core.List.{List, [], ◌∷◌, ◌++◌, append-nil}
use mathlib.Core.Option.{Option, none, some}
use Prim.Native.Nat.{ℕ, zero, suc, ◌+◌, ◌-◌, ◌≤◌, ◌<◌}
use native.Mathlib.Omega.{arith}
use borrow.Author.Tests.{leb-true, leb-false, lt-leb, eqb-true, eq-eqb, ne_eqb}
use lib.Dec.{leb, eqb}
use lib.ListN.{length, take, drop, length-take, length-drop}
use lib.Seq.{get_or-drop, get_or-take}
use Rattle.definition.specs.Numbers.{is_fstring, empty_expression}
use Rattle.definition.specs.Chars.{◌is◌, byte, part, at_end, code, next, before}
use Rattle.definition.specs.Escapes.{Naming, fault, Read, got, refused}
use Rattle.definition.specs.Body.{Signs, Piece, literal, field, spec, Move, goes, stops, calls, ends, too_deep, text_case, text_move, filled, Field, state, with_colon, with_close, formatted, fresh, field_move, direct, conversion_of, field_pieces, self_documenting, finished, specified, plain_run, first_end, text_n, field_n, spec_n, string_n, enough, alone, read_body}
use Rattle.definition.specs.Rows.{FieldSpec, absent, verbatim, nested, braced, written_spec}
use Rattle.definition.proofs.Moves.CharLaws.{cases, no, byte_in, next_in, next_ascii, code_is, before_in}
use Rattle.definition_laws.proofs.Moves.Adds.{ascii_in}
use Rattle.definition_laws.proofs.Moves.Moves.{Ahead, text_size, text_ahead, FieldAhead, field_ahead}
use Rattle.definition_laws.proofs.Moves.Steps.{text_goes, text_stops, text_ends, text_got, text_refused, field_goes, field_stops, field_ends, field_got, field_refused, first_piece, spec_calls, spec_ends}
use Rattle.definition_laws.proofs.Rows.SignLaws.{MetField, MetMove, on, stopped, at_colon, at_brace, after, field_met, TextMet, text_met, TextReads, filled_signed, first_ends, none_yet, FieldReads, signings}

-- PIECES SAY what a field's spec is, after a field of so many parts
pub data PiecesSay : FieldSpec → ℕ → List Piece → Type 0 where
  says_absent : {ps : List Piece} → PiecesSay absent 0 ps
  says_empty : {ps : List Piece} → PiecesSay (verbatim []) 1 (spec 0 ∷ ps)
  says_text : {d : ℕ} {t : List ℕ} {ps : List Piece} → PiecesSay (verbatim t) 1 (spec 1 ∷ literal (suc d) t ∷ ps)
  says_field : {d c n i : ℕ} {e : List ℕ} {g : Signs} {ps : List Piece} → PiecesSay nested 1 (spec 1 ∷ field d e c n i g ∷ ps)
  says_many : {m : ℕ} {ps : List Piece} → PiecesSay nested 1 (spec (suc (suc m)) ∷ ps)

say_append : {v : FieldSpec} {n : ℕ} {ps : List Piece} (qs : List Piece) → PiecesSay v n ps → PiecesSay v n (ps ++ qs)
say_append qs says_absent = says_absent
say_append qs says_empty = says_empty
say_append qs says_text = says_text
say_append qs says_field = says_field
say_append qs says_many = says_many

-- a field has one part exactly if a spec is written
parts_said : {v : FieldSpec} {n : ℕ} {ps : List Piece} → PiecesSay v n ps → (v ≡ absent → n ≡ 0) × ((v ≡ absent → ⊥) → n ≡ 1)
parts_said says_absent = ((λ e. refl), λ f. absurd (f refl))
parts_said says_empty = ((λ e. let z : ◌≡◌ {A = ℕ} 0 1 = cc in absurd (omega arith)), λ f. refl)
parts_said says_text = ((λ e. let z : ◌≡◌ {A = ℕ} 0 1 = cc in absurd (omega arith)), λ f. refl)
parts_said says_field = ((λ e. let z : ◌≡◌ {A = ℕ} 0 1 = cc in absurd (omega arith)), λ f. refl)
parts_said says_many = ((λ e. let z : ◌≡◌ {A = ℕ} 0 1 = cc in absurd (omega arith)), λ f. refl)

pub parts_by_colon : (s : List ℕ) (g : Signs) {n : ℕ} {ps : List Piece} → PiecesSay (written_spec s g) n ps → n ≡ (if eqb g.colon 0 then 0 else 1)
unfolding written_spec
parts_by_colon s g h =
    let t = part s g.colon (g.close - 1) in
    cases (eqb g.colon 0) (λ e. rw e ((parts_said h).0 (rw e refl)))
    (λ e. rw e ((parts_said h).1 (λ f. there (braced t) t (rw e at f))))
  where
    there : (b : Bool) (t : List ℕ) → (if b then nested else verbatim t) ≡ absent → ⊥
    there true t f = let z : ◌≡◌ {A = ℕ} 0 1 = cc in omega arith
    there false t f = let z : ◌≡◌ {A = ℕ} 0 1 = cc in omega arith

-- EVERY FIELD of pieces has the spec that is written
abbrev pub Spelt : List ℕ → List Piece → Type 0
Spelt s [] = Unit {0}
Spelt s (literal d t ∷ ps) = Spelt s ps
Spelt s (field d e c n i g ∷ ps) = PiecesSay (written_spec s g) n ps × Spelt s ps
Spelt s (spec n ∷ ps) = Spelt s ps

spelt_append : (s : List ℕ) (ps qs : List Piece) → Spelt s ps → Spelt s qs → Spelt s (ps ++ qs)
spelt_append s [] qs h k = k
spelt_append s (literal d t ∷ ps) qs h k = spelt_append s ps qs h k
spelt_append s (field d e c n i g ∷ ps) qs h k = (say_append qs h.0, spelt_append s ps qs h.1 k)
spelt_append s (spec n ∷ ps) qs h k = spelt_append s ps qs h k

spelt_filled : (s : List ℕ) (depth : ℕ) (text : List ℕ) → Spelt s (filled depth text)
unfolding filled
spelt_filled s depth [] = tt
spelt_filled s depth (b ∷ text) = tt

-- PIECES WITH A FIELD at a depth: it is the first one, or there are two or more
data Full (d : ℕ) : List Piece → Type 0 where
  led : {e : List ℕ} {c n i : ℕ} {g : Signs} {ps : List Piece} → Full d (field d e c n i g ∷ ps)
  more : {ps : List Piece} → 2 ≤ direct d ps → Full d ps

direct_append : (d : ℕ) (ps qs : List Piece) → direct d (ps ++ qs) ≡ direct d ps + direct d qs
unfolding direct
direct_append d [] qs = omega arith
direct_append d (literal d' t ∷ ps) qs = omega (arith, direct_append d ps qs)
direct_append d (field d' e c n i g ∷ ps) qs = omega (arith, direct_append d ps qs)
direct_append d (spec n ∷ ps) qs = direct_append d ps qs

full_left : (d : ℕ) (ps qs : List Piece) → Full d ps → Full d (ps ++ qs)
full_left d ps qs led = led
full_left d ps qs (more h) = more {ps = ps ++ qs} (omega (arith, direct_append d ps qs))

full_one : (d : ℕ) (ps : List Piece) → Full d ps → 1 ≤ direct d ps
unfolding direct
full_one d ps led = rw (eq-eqb d d refl) (omega arith)
full_one d ps (more h) = omega arith

full_filled : (d : ℕ) (t : List ℕ) (qs : List Piece) → Full d qs → Full d (filled d t ++ qs)
unfolding filled direct
full_filled d [] qs h = h
full_filled d (b ∷ t) qs h = more {ps = literal d (b ∷ t) ∷ qs} (rw (eq-eqb d d refl) (omega (arith, full_one d qs h)))

two_full : (d : ℕ) (t u : List ℕ) (ps : List Piece) → Full d (literal d t ∷ literal d u ∷ ps)
unfolding direct
two_full d t u ps = more {ps = literal d t ∷ literal d u ∷ ps} (rw (eq-eqb d d refl) (omega arith))

-- so they say that fields stand in a spec
many_say : (k : ℕ) (ps : List Piece) → 2 ≤ k → PiecesSay nested 1 (spec k ∷ ps)
many_say zero ps h = absurd (omega arith)
many_say (suc zero) ps h = absurd (omega arith)
many_say (suc (suc m)) ps h = says_many

full_says : (d : ℕ) (ps : List Piece) → Full d ps → PiecesSay nested 1 (spec (direct d ps) ∷ ps)
unfolding direct
full_says d ps (led {e} {c} {n} {i} {g} {ps = ps'}) = rw (eq-eqb d d refl) (by (direct d ps'))
  where
    by : (m : ℕ) → PiecesSay nested 1 (spec (1 + m) ∷ field d e c n i g ∷ ps')
    by zero = says_field
    by (suc m) = many_say (1 + suc m) (field d e c n i g ∷ ps') (omega arith)
full_says d ps (more h) = many_say (direct d ps) ps h

-- WHAT IS WRITTEN: bytes before the first brace have none; with one among them there are fields
unbraced : (s : List ℕ) → braced (take (before (λ b. b is "{}") s) s) ≡ false
unfolding before braced
unbraced [] = refl
unbraced (b ∷ s) =
    cases (b is "{}") (λ e. rw (e, before) refl)
    (λ e. rw (e, before) (cases (b is "{") (λ t. let z : (b is "{}") ≡ true = rw t refl in no (sym e ∙ z)) (λ t. rw t (unbraced s))))

braced_at : (t : List ℕ) (k : ℕ) → k < length t → (byte t k is "{") ≡ true → braced t ≡ true
unfolding braced
braced_at [] k h e = absurd (omega arith)
braced_at (b ∷ t) zero h e = rw e
braced_at (b ∷ t) (suc k) h e = rw (braced_at t k (omega arith) e) (or-true (b is "{"))

module _ (s : List ℕ) (g : Signs) (a j : ℕ) (c : g.colon ≡ a) (f : g.close ≡ j + 1) (h : 1 ≤ a) where
  abbrev between : List ℕ
  between = part s a j

  written_is : written_spec s g ≡ (if braced between then nested else verbatim between)
  unfolding written_spec
  written_is = let z : j + 1 - 1 ≡ j = omega arith in rw (c, f, z, ne_eqb a 0 (λ e. omega arith)) refl

  -- up to the first brace
  pub written_plain : first_end s a ≡ j → written_spec s g ≡ verbatim between
  unfolding plain_run
  written_plain e =
      let n : j - a ≡ before (λ b. b is "{}") (drop a s) = omega arith in
      let u : braced between ≡ false = rw n (unbraced (drop a s)) in
      written_is ∙ rw u refl

  -- past it
  pub written_nested : (k : ℕ) → a ≤ k → k < j → j ≤ length s → (byte s k is "{") ≡ true → written_spec s g ≡ nested
  written_nested k l m w e =
      let n : a + (k - a) ≡ k = omega arith in
      let x : byte between (k - a) ≡ byte s k = get_or-take (j - a) (drop a s) (k - a) 256 (omega arith) ∙ get_or-drop a s (k - a) 256 ∙ rw n refl in
      let u : braced between ≡ true = braced_at between (k - a) (omega (arith, length-take (j - a) (drop a s), length-drop a s)) (rw x e) in
      written_is ∙ rw u refl

-- READINGS: what a text gives, from a `{` in a spec too; what a field gives; what a spec from i on gives
data Led (s : List ℕ) (depth i : ℕ) (text : List ℕ) (ps : List Piece) : Type 0 where
  full : Full depth ps → Led s depth i text ps
  brace : (t : List ℕ) → 1 ≤ depth → code s i ≡ 123 → text ≡ [] → ps ≡ filled depth t → Led s depth i text ps

abbrev TextSpelt : List ℕ → ℕ → Type 0 → Read (List Piece) → Type 0
TextSpelt s depth L (got ps j) = Spelt s ps × (L → Full depth ps)
TextSpelt s depth L (refused x) = Unit {0}

abbrev FieldSpelt : List ℕ → ℕ → Read (List Piece) → Type 0
FieldSpelt s depth (got ps j) = Spelt s ps × Full depth ps
FieldSpelt s depth (refused x) = Unit {0}

data SpecRun (s : List ℕ) (depth i j : ℕ) (ps : List Piece) : Type 0 where
  unfielded : first_end s i ≡ j → ps ≡ first_piece s depth i → SpecRun s depth i j ps
  fielded : Full (suc depth) ps → (code s (first_end s i) is "{") ≡ true → SpecRun s depth i j ps

abbrev SpecSpelt : List ℕ → ℕ → ℕ → Read (List Piece) → Type 0
SpecSpelt s depth i (got ps j) = Spelt s ps × SpecRun s depth i j ps × (i ≤ j) × (j ≤ length s) × (first_end s i ≤ j) × (j < length s → code s j ≡ 125)
SpecSpelt s depth i (refused x) = Unit {0}

text_led : (s : List ℕ) (depth : ℕ) (L L' : Type 0) (r : Read (List Piece)) → (L → L') → TextSpelt s depth L' r → TextSpelt s depth L r
text_led s depth L L' (got ps j) f h = (h.0, λ l. h.1 (f l))
text_led s depth L L' (refused x) f h = tt

-- at a `{` in a spec text calls for a field, or is refused
abbrev Braces : Move (List ℕ) → Type 0
Braces (goes j text) = ⊥
Braces (stops x) = Unit {0}
Braces calls = Unit {0}
Braces ends = ⊥

brace_moves : (look : Naming) (kind : ℕ) (s : List ℕ) (depth i : ℕ) (text : List ℕ) → 1 ≤ depth → code s i ≡ 123 → Braces (text_move look kind s depth i text)
unfolding text_move text_case
brace_moves look kind s depth i text h e =
    let k = byte_in s i (let a = ascii_in s i (omega arith) in omega arith) in
    cases (leb too_deep depth) (λ t. rw (t, text_case, text_move) tt)
    (λ t. rw (t, text_case, lt-leb (length s) i k, e, ne_eqb depth 0 (λ z. omega arith), text_move) tt)

-- A FIELD THAT ENDS just before j
abbrev SaysIn : List ℕ → ℕ → Signs → Option (List Piece) → Type 0
SaysIn s depth g none = g.colon ≡ 0
SaysIn s depth g (some ps) = Spelt s ps × PiecesSay (written_spec s g) 1 (spec (direct (suc depth) ps) ∷ ps)

ended_spelt : (s : List ℕ) (depth from j : ℕ) (e : List ℕ) (b : Bool) (c : ℕ) (d : Bool) (w : ℕ) (g : Signs) (q : Option (List Piece)) → SaysIn s depth (with_close j g) q
    → FieldSpelt s depth (if b then refused (fault empty_expression j) else got (self_documenting depth d e w ++ field_pieces depth e c from (with_close j g) q) j)
unfolding self_documenting field_pieces direct written_spec
ended_spelt s depth from j e true c d w g q m = tt
ended_spelt s depth from j e false c false w g none m = ((rw m says_absent, tt), led)
ended_spelt s depth from j e false c true w g none m = ((rw m says_absent, tt), two_full depth _ _ _)
ended_spelt s depth from j e false c false w g (some ps) m = ((m.1, m.0), led)
ended_spelt s depth from j e false c true w g (some ps) m = ((m.1, m.0), two_full depth _ _ _)

module _ (s : List ℕ) (depth : ℕ) where
  finished_spelt : (from j : ℕ) (f : Field) → MetField s from f → FieldSpelt s depth (finished depth from j f none)
  unfolding finished with_close
  finished_spelt from j (state e b o c d w g) m = ended_spelt s depth from j e b (conversion_of d c none) d w g none m.2

  -- with the spec that begins at a and ends at j
  run_says : (g : Signs) (a j : ℕ) (ps : List Piece) → 1 ≤ a → j < length s → code s j ≡ 125 → first_end s a ≤ j → SpecRun s depth a j ps → g.colon ≡ a → g.close ≡ j + 1
      → PiecesSay (written_spec s g) 1 (spec (direct (suc depth) ps) ∷ ps)
  unfolding filled direct plain_run
  run_says g a j ps h l p w (unfielded e q) c f = rw (q, written_plain s g a j c f h e, ← e) (by (part s a (first_end s a)))
    where
      by : (t : List ℕ) → PiecesSay (verbatim t) 1 (spec (direct (suc depth) (filled (suc depth) t)) ∷ filled (suc depth) t)
      by [] = says_empty
      by (b ∷ t) = rw (eq-eqb (suc depth) (suc depth) refl) says_text
  run_says g a j ps h l p w (fielded q e) c f =
      let k = first_end s a in
      let x : code s k ≡ 123 = eqb-true (code s k) 123 e in
      let y : k ≡ j → ⊥ = λ z. let u : code s k ≡ 125 = rw z p in omega arith in
      let b : (byte s k is "{") ≡ true = sym (code_is s k 123 (omega arith)) ∙ e in
      rw (written_nested s g a j c f h k (omega arith) (below k j w y) (omega arith) b) (full_says (suc depth) ps q)
    where
      below : (k j : ℕ) → k ≤ j → (k ≡ j → ⊥) → k < j
      below k j m n = cases (leb j k) (λ t. absurd (n (omega (arith, leb-true j k t)))) (λ t. leb-false j k t)

  specified_spelt : (from a j : ℕ) (f : Field) (ps : List Piece) → 1 ≤ a → SpecSpelt s depth a (got ps j) → FieldSpelt s depth (specified s depth from j (formatted a f) ps)
  unfolding specified formatted finished with_close with_colon
  specified_spelt from a j (state e b o c d w g) ps h p =
      cases (at_end s j) (λ t. rw t tt)
      (λ t.
      let l = leb-false (length s) j t in
      let x = p.5 l in
      let n = next_ascii s j (ascii_in s j (omega arith)) in
      rw t (ended_spelt s depth from (next s j) e b (conversion_of d c (some ps)) d w (with_colon a g) (some ps) (p.0, run_says (with_close (next s j) (with_colon a g)) a j ps h l x p.4 p.1 refl n)))

record Spellings (look : Naming) (n : ℕ) : Type 0 where
  text : (kind : ℕ) (s : List ℕ) (depth i : ℕ) (text : List ℕ) (ps : List Piece) → i ≤ length s → Spelt s ps → TextSpelt s depth (Led s depth i text ps) (text_n look n kind s depth i text ps)
  field : (kind : ℕ) (s : List ℕ) (depth from i : ℕ) (f : Field) → from ≤ i → i ≤ length s → MetField s from f → FieldSpelt s depth (field_n look n kind s depth from i f)
  spec : (kind : ℕ) (s : List ℕ) (depth i : ℕ) → i ≤ length s → SpecSpelt s depth i (spec_n look n kind s depth i)

module _ (look : Naming) (n : ℕ) (D : Spellings look n) (kind : ℕ) (s : List ℕ) (depth : ℕ) where
  text_spelt : (i : ℕ) (text : List ℕ) (ps : List Piece) → i ≤ length s → Spelt s ps → TextSpelt s depth (Led s depth i text ps) (text_n look (suc n) kind s depth i text ps)
  unfolding filled
  text_spelt i text ps l h = go (text_move look kind s depth i text) refl (text_ahead look kind s depth i text l) (text_met look kind s depth i text)
    where
      a : ℕ
      a = next s i

      L : Type 0
      L = Led s depth i text ps

      Goal : Type 0
      Goal = TextSpelt s depth L (text_n look (suc n) kind s depth i text ps)

      whole : Spelt s (ps ++ filled depth text)
      whole = spelt_append s ps (filled depth text) h (spelt_filled s depth text)

      -- a text that is led by a `{` goes on with a field alone
      not_brace : {P : Type 0} (x : Move (List ℕ)) → text_move look kind s depth i text ≡ x → (Braces x → P) → L → (Full depth ps → P) → P
      not_brace x e f (full q) g = g q
      not_brace x e f (brace t d c z y) g = f (rw e at (brace_moves look kind s depth i text d c))

      same : (t : List ℕ) → text ≡ [] → ps ≡ filled depth t → ps ++ filled depth text ≡ filled depth t
      same t z y = rw (z, y) (append-nil (filled depth t))

      with_field : (qs : List Piece) → Full depth qs → L → Full depth (ps ++ filled depth text ++ qs)
      with_field qs q (full p) = full_left depth (ps ++ filled depth text) qs (full_left depth ps (filled depth text) p)
      with_field qs q (brace t d c z y) = subst (λ (x : List Piece). Full depth (x ++ qs)) (sym (same t z y)) (full_filled depth t qs q)

      after_field : (r : Read (List Piece)) → field_n look n kind s depth a a fresh ≡ r → FieldSpelt s depth r → FieldReads s a r → text_move look kind s depth i text ≡ calls → Goal
      after_field (got qs j) f k m e =
          rw (text_got look n kind s depth i text ps qs j e f)
          (text_led s depth L (Led s depth j [] (ps ++ filled depth text ++ qs)) (text_n look n kind s depth j [] (ps ++ filled depth text ++ qs)) (λ q. full (with_field qs k.1 q))
          (D.text kind s depth j [] (ps ++ filled depth text ++ qs) m.2 (spelt_append s (ps ++ filled depth text) qs whole k.0)))
      after_field (refused x) f k m e = rw (text_refused look n kind s depth i text ps x e f) tt

      go : (x : Move (List ℕ)) → text_move look kind s depth i text ≡ x → Ahead text_size (text_size text) (i < length s) (Unit {0}) s i x → TextMet s i x → Goal
      go (goes j text') e k p =
          rw (text_goes look n kind s depth i text ps j text' e)
          (text_led s depth L (Led s depth j text' ps) (text_n look n kind s depth j text' ps) (λ q. not_brace (goes j text') e (λ z. absurd z) q full) (D.text kind s depth j text' ps k.1 h))
      go (stops x) e k p = rw (text_stops look n kind s depth i text ps x e) tt
      go calls e k p =
          let m = none_yet s a (after s 0 i 123 (omega arith) (omega arith) p) in
          after_field (field_n look n kind s depth a a fresh) refl (D.field kind s depth a a fresh (omega arith) (next_in s i l) m) ((signings look n).field kind s depth a a fresh (omega arith) (next_in s i l) m) e
      go ends e k p =
          rw (text_ends look n kind s depth i text ps e)
          (whole, λ q. not_brace ends e (λ z. absurd z) q (λ f. full_left depth ps (filled depth text) f))

  field_spelt : (from i : ℕ) (f : Field) → from ≤ i → i ≤ length s → MetField s from f → FieldSpelt s depth (field_n look (suc n) kind s depth from i f)
  field_spelt from i f b l m = go (field_move s i f) refl (field_ahead s i f l) (field_met s from i b f m)
    where
      Goal : Type 0
      Goal = FieldSpelt s depth (field_n look (suc n) kind s depth from i f)

      after_spec : (r : Read (List Piece)) → spec_n look n kind s depth (next s i) ≡ r → SpecSpelt s depth (next s i) r → field_move s i f ≡ calls → code s i ≡ 58 → Goal
      after_spec (got ps j) g k e p =
          let x = (after s from i 58 (omega arith) b p).0 in
          rw (field_got look n kind s depth from i f ps j e g) (specified_spelt s depth from (next s i) j f ps (omega arith) k)
      after_spec (refused x) g k e p = rw (field_refused look n kind s depth from i f x e g) tt

      go : (x : Move Field) → field_move s i f ≡ x → FieldAhead s i f x → MetMove s from i x → Goal
      go (goes j f') e k (on p) = rw (field_goes look n kind s depth from i f j f' e) (D.field kind s depth from j f' (omega arith) k.1 p)
      go (stops x) e k stopped = rw (field_stops look n kind s depth from i f x e) tt
      go calls e k (at_colon p) = after_spec (spec_n look n kind s depth (next s i)) refl (D.spec kind s depth (next s i) (next_in s i l)) e p
      go ends e k (at_brace p) = rw (field_ends look n kind s depth from i f e) (finished_spelt s depth from (next s i) f m)

  spec_spelt : (i : ℕ) → i ≤ length s → SpecSpelt s depth i (spec_n look (suc n) kind s depth i)
  unfolding plain_run
  spec_spelt i l = go (code s k is "{") refl
    where
      k : ℕ
      k = first_end s i

      within : k ≤ length s
      within = before_in (λ b. b is "{}") s i l

      first : Spelt s (first_piece s depth i)
      first = spelt_filled s (suc depth) (part s i k)

      after_text : (r : Read (List Piece)) → (code s k is "{") ≡ true → TextSpelt s (suc depth) (Led s (suc depth) k [] (first_piece s depth i)) r → TextReads s k r → SpecSpelt s depth i r
      after_text (got ps j) e p q =
          (p.0, fielded (p.1 (brace (part s i k) (omega arith) (eqb-true (code s k) 123 e) refl refl)) e, (let x = q.1 in omega arith), q.2, q.1, q.3)
      after_text (refused x) e p q = tt

      go : (t : Bool) → (code s k is "{") ≡ t → SpecSpelt s depth i (spec_n look (suc n) kind s depth i)
      go true e =
          rw (spec_calls look n kind s depth i e)
          (after_text (text_n look n kind s (suc depth) k [] (first_piece s depth i)) e (D.text kind s (suc depth) k [] (first_piece s depth i) within first) ((signings look n).text kind s (suc depth) k [] (first_piece s depth i) within (filled_signed s (suc depth) (part s i k))))
      go false e = rw (spec_ends look n kind s depth i e) (first, unfielded refl refl, omega arith, within, omega arith, first_ends s i l e)

spellings : (look : Naming) → (n : ℕ) → Spellings look n
unfolding text_n
spellings look zero = record { text = λ kind s depth i text ps l h. tt; field = λ kind s depth from i f b l m. tt; spec = λ kind s depth i l. tt }
spellings look (suc n) = record {
  text = λ kind s depth. text_spelt look n (spellings look n) kind s depth;
  field = λ kind s depth. field_spelt look n (spellings look n) kind s depth;
  spec = λ kind s depth. spec_spelt look n (spellings look n) kind s depth;
}

-- THE SPEC OF EVERY FIELD OF A BODY
pub body_spelt : (look : Naming) → (kind : ℕ) (s : List ℕ) (ps : List Piece) (j : ℕ) → read_body look kind s ≡ got ps j → Spelt s ps
unfolding read_body alone
body_spelt look kind s ps j e = go (is_fstring kind) refl
  where
    plain : (r : Read (List ℕ)) → alone r ≡ got ps j → Spelt s ps
    plain (got t k) f = let z : ps ≡ literal 0 t ∷ [] = cc in rw z tt
    plain (refused x) f = let z : ◌≡◌ {A = ℕ} 0 1 = cc in absurd (omega arith)

    go : (t : Bool) → is_fstring kind ≡ t → Spelt s ps
    go true t = (rw (rw (t, read_body) at e) at ((spellings look (enough s)).text kind s 0 0 [] [] (omega arith) tt)).0
    go false t = plain (string_n look (enough s) kind s 0 []) (rw (t, read_body) at e)
