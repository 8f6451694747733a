-- The pieces of a text stand at its depth or deeper, so a spec's parts are counted apart from what they hold. Assumes nothing.
use Rattle.std.specs.Prelude.{if◌then◌else◌}
use mathlib.Core.Path.{◌≡◌, refl}
use mathlib.Core.Bool.{Bool, true, false}
use mathlib.Core.List.{List, [], ◌∷◌, ◌++◌}
use mathlib.Core.Option.{none, some}
use Prim.Native.Nat.{ℕ, zero, suc, ◌≤◌}
use native.Mathlib.Omega.{arith}
use borrow.Author.Tests.{ne_eqb}
use Rattle.definition.specs.Numbers.{empty_expression}
use Rattle.definition.specs.Chars.{◌is◌, at_end, code, next}
use Rattle.definition.specs.Escapes.{Naming, fault, Read, got, refused}
use Rattle.definition.specs.Body.{Piece, literal, field, spec, Move, goes, stops, calls, ends, filled, Field, state, with_close, formatted, fresh, text_move, field_move, direct, conversion_of, field_pieces, self_documenting, finished, specified, first_end, text_n, field_n, spec_n}
use Rattle.definition_laws.proofs.Moves.Steps.{text_goes, text_stops, text_ends, text_got, text_refused, field_goes, field_stops, field_ends, field_got, field_refused, first_piece, spec_calls, spec_ends}

abbrev pub Deep : ℕ → List Piece → Type 0
Deep depth [] = Unit {0}
Deep depth (literal d t ∷ ps) = (depth ≤ d) × Deep depth ps
Deep depth (field d e c n i g ∷ ps) = (depth ≤ d) × Deep depth ps
Deep depth (spec n ∷ ps) = Deep depth ps

abbrev pub DeepRead : ℕ → Read (List Piece) → Type 0
DeepRead depth (got ps j) = Deep depth ps
DeepRead depth (refused x) = Unit {0}

deep_append : (depth : ℕ) (ps qs : List Piece) → Deep depth ps → Deep depth qs → Deep depth (ps ++ qs)
deep_append depth [] qs h k = k
deep_append depth (literal d t ∷ ps) qs h k = (h.0, deep_append depth ps qs h.1 k)
deep_append depth (field d e c n i g ∷ ps) qs h k = (h.0, deep_append depth ps qs h.1 k)
deep_append depth (spec n ∷ ps) qs h k = deep_append depth ps qs h k

filled_deep : (depth : ℕ) (text : List ℕ) → Deep depth (filled depth text)
unfolding filled
filled_deep depth [] = tt
filled_deep depth (b ∷ text) = (omega arith, tt)

-- deeper is deep
shallower : (depth : ℕ) (ps : List Piece) → Deep (suc depth) ps → Deep depth ps
shallower depth [] h = tt
shallower depth (literal d t ∷ ps) h = (omega arith, shallower depth ps h.1)
shallower depth (field d e c n i g ∷ ps) h = (omega arith, shallower depth ps h.1)
shallower depth (spec n ∷ ps) h = shallower depth ps h

finished_deep : (depth from j : ℕ) (f : Field) (ps : List Piece) → Deep (suc depth) ps → DeepRead depth (finished depth from j f none) × DeepRead depth (finished depth from j f (some ps))
unfolding finished self_documenting field_pieces
finished_deep depth from j (state e b o c d w g) ps h = (plain b d, specific b d)
  where
    plain : (b d : Bool) → DeepRead depth (if b then refused (fault empty_expression j) else got (self_documenting depth d e w ++ field_pieces depth e (conversion_of d c none) from (with_close j g) none) j)
    plain true d = tt
    plain false true = (omega arith, (omega arith, (omega arith, tt)))
    plain false false = (omega arith, tt)

    specific : (b d : Bool) → DeepRead depth (if b then refused (fault empty_expression j) else got (self_documenting depth d e w ++ field_pieces depth e (conversion_of d c (some ps)) from (with_close j g) (some ps)) j)
    specific true d = tt
    specific false true = (omega arith, (omega arith, (omega arith, shallower depth ps h)))
    specific false false = (omega arith, shallower depth ps h)

specified_deep : (s : List ℕ) (depth from j : ℕ) (f : Field) (ps : List Piece) → Deep (suc depth) ps → DeepRead depth (specified s depth from j f ps)
unfolding specified
specified_deep s depth from j f ps h = go (at_end s j) refl
  where
    go : (t : Bool) → at_end s j ≡ t → DeepRead depth (specified s depth from j f ps)
    go true e = rw e tt
    go false e = rw e (finished_deep depth from (next s j) f ps h).1

record Depths (look : Naming) (n : ℕ) : Type 0 where
  text : (kind : ℕ) (s : List ℕ) (depth i : ℕ) (text : List ℕ) (ps : List Piece) → Deep depth ps → DeepRead depth (text_n look n kind s depth i text ps)
  field : (kind : ℕ) (s : List ℕ) (depth from i : ℕ) (f : Field) → DeepRead depth (field_n look n kind s depth from i f)
  spec : (kind : ℕ) (s : List ℕ) (depth i : ℕ) → DeepRead (suc depth) (spec_n look n kind s depth i)

module _ (look : Naming) (n : ℕ) (D : Depths look n) (kind : ℕ) (s : List ℕ) (depth : ℕ) where
  text_depth : (i : ℕ) (text : List ℕ) (ps : List Piece) → Deep depth ps → DeepRead depth (text_n look (suc n) kind s depth i text ps)
  text_depth i text ps h = go (text_move look kind s depth i text) refl
    where
      after : (r : Read (List Piece)) → field_n look n kind s depth (next s i) (next s i) fresh ≡ r → DeepRead depth r → text_move look kind s depth i text ≡ calls → DeepRead depth (text_n look (suc n) kind s depth i text ps)
      after (got qs j) f k e =
          rw (text_got look n kind s depth i text ps qs j e f)
          (D.text kind s depth j [] (ps ++ filled depth text ++ qs) (deep_append depth (ps ++ filled depth text) qs (deep_append depth ps (filled depth text) h (filled_deep depth text)) k))
      after (refused x) f k e = rw (text_refused look n kind s depth i text ps x e f) tt

      go : (x : Move (List ℕ)) → text_move look kind s depth i text ≡ x → DeepRead depth (text_n look (suc n) kind s depth i text ps)
      go (goes j text') e = rw (text_goes look n kind s depth i text ps j text' e) (D.text kind s depth j text' ps h)
      go (stops x) e = rw (text_stops look n kind s depth i text ps x e) tt
      go calls e = after (field_n look n kind s depth (next s i) (next s i) fresh) refl (D.field kind s depth (next s i) (next s i) fresh) e
      go ends e = rw (text_ends look n kind s depth i text ps e) (deep_append depth ps (filled depth text) h (filled_deep depth text))

  field_depth : (from i : ℕ) (f : Field) → DeepRead depth (field_n look (suc n) kind s depth from i f)
  field_depth from i f = go (field_move s i f) refl
    where
      after : (r : Read (List Piece)) → spec_n look n kind s depth (next s i) ≡ r → DeepRead (suc depth) r → field_move s i f ≡ calls → DeepRead depth (field_n look (suc n) kind s depth from i f)
      after (got ps j) g k e = rw (field_got look n kind s depth from i f ps j e g) (specified_deep s depth from j (formatted (next s i) f) ps k)
      after (refused x) g k e = rw (field_refused look n kind s depth from i f x e g) tt

      go : (x : Move Field) → field_move s i f ≡ x → DeepRead depth (field_n look (suc n) kind s depth from i f)
      go (goes j f') e = rw (field_goes look n kind s depth from i f j f' e) (D.field kind s depth from j f')
      go (stops x) e = rw (field_stops look n kind s depth from i f x e) tt
      go calls e = after (spec_n look n kind s depth (next s i)) refl (D.spec kind s depth (next s i)) e
      go ends e = rw (field_ends look n kind s depth from i f e) (finished_deep depth from (next s i) f [] tt).0

  spec_depth : (i : ℕ) → DeepRead (suc depth) (spec_n look (suc n) kind s depth i)
  spec_depth i = go (code s (first_end s i) is "{") refl
    where
      first : Deep (suc depth) (first_piece s depth i)
      first = filled_deep (suc depth) _

      go : (t : Bool) → (code s (first_end s i) is "{") ≡ t → DeepRead (suc depth) (spec_n look (suc n) kind s depth i)
      go true e = rw (spec_calls look n kind s depth i e) (D.text kind s (suc depth) (first_end s i) [] (first_piece s depth i) first)
      go false e = rw (spec_ends look n kind s depth i e) first

depths : (look : Naming) → (n : ℕ) → Depths look n
unfolding text_n
depths look zero = record { text = λ kind s depth i text ps h. tt; field = λ kind s depth from i f. tt; spec = λ kind s depth i. tt }
depths look (suc n) = record {
  text = λ kind s depth. text_depth look n (depths look n) kind s depth;
  field = λ kind s depth. field_depth look n (depths look n) kind s depth;
  spec = λ kind s depth. spec_depth look n (depths look n) kind s depth;
}

-- a spec's pieces are no direct parts of the text that the field stands in
direct_none : (depth : ℕ) (ps : List Piece) → Deep (suc depth) ps → direct depth ps ≡ 0
unfolding direct
direct_none depth [] h = refl
direct_none depth (literal d t ∷ ps) h = rw (ne_eqb d depth (λ e. omega arith), direct_none depth ps h.1)
direct_none depth (field d e c n i g ∷ ps) h = rw (ne_eqb d depth (λ e. omega arith), direct_none depth ps h.1)
direct_none depth (spec n ∷ ps) h = direct_none depth ps h

pub spec_apart : (look : Naming) → (n kind : ℕ) (s : List ℕ) (depth i : ℕ) (ps : List Piece) (j : ℕ) → spec_n look n kind s depth i ≡ got ps j → direct depth ps ≡ 0
spec_apart look n kind s depth i ps j e = direct_none depth ps (rw e at ((depths look n).spec kind s depth i))
