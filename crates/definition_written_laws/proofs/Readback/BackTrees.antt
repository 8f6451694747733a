-- The pieces of a text are a tree whose fields have what holds where their expressions end, by an invariant that knows the place. Assumes nothing.
use Rattle.std.specs.Prelude.{if◌then◌else◌}
use mathlib.Core.Path.{◌≡◌, refl, ◌∙◌, ap, ap₂}
use mathlib.Core.Bool.{Bool, true, false}
use mathlib.Core.List.{List, [], ◌∷◌, ◌++◌}
use mathlib.Core.Option.{Option, none, some}
use Prim.Native.Nat.{ℕ, zero, suc, ◌+◌, ◌≤◌}
use native.Mathlib.Omega.{arith}
use lib.Dec.{leb}
use lib.ListN.{replicate}
use borrow.Author.Tests.{leb-false}
use Rattle.definition.specs.Numbers.{expression_nested_too_deeply, empty_expression}
use Rattle.definition.specs.Chars.{◌is◌, part, at_end, code, next}
use Rattle.definition.specs.Escapes.{Naming, Fault, fault, Read, got, refused}
use Rattle.definition.specs.Body.{Signs, Piece, field, spec, Move, goes, stops, calls, ends, too_deep, text_move, filled, Field, state, with_close, formatted, fresh, field_move, direct, conversion_of, field_pieces, self_documenting, finished, specified, first_end, text_n, field_n, spec_n}
use Rattle.definition_laws.proofs.Moves.Steps.{text_goes, text_stops, text_ends, text_got, text_refused, field_goes, field_stops, field_ends, field_got, field_refused, first_piece, spec_calls, spec_ends}
use Rattle.definition_laws.proofs.Formed.Grammar.{Parts, done, run, bare, full, count, direct_flat, Tree, TreeRead, TreeIn, tree_append, tree_filled, deep_stops, Closes, closes_formatted}

-- what holds after a move of a field
pub data MovedAt (Inv : ℕ → Field → Type 0) (C : Type 0) : Move Field → Type 0 where
  on : {j : ℕ} {f : Field} → Inv j f → MovedAt Inv C (goes j f)
  stopped : {x : Fault} → MovedAt Inv C (stops x)
  at_spec : C → MovedAt Inv C calls
  at_end_lem : C → MovedAt Inv C ends

-- an invariant of a field's state at a place, `Inv`, that gives P where its expression ends
module _ (look : Naming) (kind : ℕ) (s : List ℕ) (Inv : (from i : ℕ) → Field → Type 0) (P : List ℕ → ℕ → Type 0)
    (start : (i : ℕ) → Inv i i fresh)
    (step : (from i : ℕ) (f : Field) → Inv from i f → MovedAt (Inv from) (Closes P f) (field_move s i f)) where
  tree_documented : (depth : ℕ) (d : Bool) (e : List ℕ) (w : ℕ) → Tree P depth (self_documenting depth d e w)
  unfolding self_documenting
  tree_documented depth true e w = (run (e ++ (61 ∷ [])) (run (replicate w 32) done), refl, tt)
  tree_documented depth false e w = (done, refl, tt)

  tree_field : (depth : ℕ) (e : List ℕ) (c i : ℕ) (g : Signs) (p : Option (List Piece)) → depth ≤ 1 → P e c
      → TreeIn P (suc depth) p → Tree P depth (field_pieces depth e c i g p)
  unfolding field_pieces direct
  tree_field depth e c i g none l h k = (bare e c i g done, refl, (l, h, tt))
  tree_field depth e c i g (some ps) l h (q, f, k) =
      (full e c i g q done, ap₂ (λ n l. field depth e c 1 i g ∷ spec n ∷ l) (ap (direct (suc depth)) f ∙ direct_flat (suc depth) q [] ∙ none_left q) f, (l, h, k, tt))
    where
      none_left : (q : Parts) → count q + direct (suc depth) [] ≡ count q
      none_left q = omega arith

  finished_tree : (depth from j : ℕ) (f : Field) (p : Option (List Piece)) → depth ≤ 1 → Closes P f
      → TreeIn P (suc depth) p → TreeRead P depth (finished depth from j f p)
  unfolding finished
  finished_tree depth from j (state e b o c d w g) p l h k = go b refl
    where
      go : (x : Bool) → b ≡ x → TreeRead P depth (if x then refused (fault empty_expression j) else got (self_documenting depth d e w ++ field_pieces depth e (conversion_of d c p) from (with_close j g) p) j)
      go true y = tt
      go false y = tree_append P depth (self_documenting depth d e w) (field_pieces depth e (conversion_of d c p) from (with_close j g) p) (tree_documented depth d e w) (tree_field depth e (conversion_of d c p) from (with_close j g) p l (h y p) k)

  specified_tree : (depth from j : ℕ) (f : Field) (ps : List Piece) → depth ≤ 1 → Closes P f → Tree P (suc depth) ps → TreeRead P depth (specified s depth from j f ps)
  unfolding specified
  specified_tree depth from j f ps l h k = go (at_end s j) refl
    where
      go : (t : Bool) → at_end s j ≡ t → TreeRead P depth (specified s depth from j f ps)
      go true e = rw e tt
      go false e = rw e (finished_tree depth from (next s j) f (some ps) l h k)

  pub record Trees (n : ℕ) : Type 0 where
    pub text : (depth i : ℕ) (text : List ℕ) (ps : List Piece) → Tree P depth ps → TreeRead P depth (text_n look n kind s depth i text ps)
    pub field : (depth from i : ℕ) (f : Field) → depth ≤ 1 → Inv from i f → TreeRead P depth (field_n look n kind s depth from i f)
    pub spec : (depth i : ℕ) → TreeRead P (suc depth) (spec_n look n kind s depth i)

  module _ (n : ℕ) (D : Trees n) (depth : ℕ) where
    text_tree : (i : ℕ) (text : List ℕ) (ps : List Piece) → Tree P depth ps → TreeRead P depth (text_n look (suc n) kind s depth i text ps)
    text_tree i text ps h = test (leb too_deep depth) refl
      where
        Goal : Type 0
        Goal = TreeRead P depth (text_n look (suc n) kind s depth i text ps)

        after : (r : Read (List Piece)) → field_n look n kind s depth (next s i) (next s i) fresh ≡ r → TreeRead P depth r → text_move look kind s depth i text ≡ calls → Goal
        after (got qs j) f k e =
            rw (text_got look n kind s depth i text ps qs j e f)
            (D.text depth j [] (ps ++ filled depth text ++ qs) (tree_append P depth (ps ++ filled depth text) qs (tree_append P depth ps (filled depth text) h (tree_filled P depth text)) k))
        after (refused x) f k e = rw (text_refused look n kind s depth i text ps x e f) tt

        go : (x : Move (List ℕ)) → text_move look kind s depth i text ≡ x → depth ≤ 1 → Goal
        go (goes j text') e l = rw (text_goes look n kind s depth i text ps j text' e) (D.text depth j text' ps h)
        go (stops x) e l = rw (text_stops look n kind s depth i text ps x e) tt
        go calls e l = after (field_n look n kind s depth (next s i) (next s i) fresh) refl (D.field depth (next s i) (next s i) fresh l (start (next s i))) e
        go ends e l = rw (text_ends look n kind s depth i text ps e) (tree_append P depth ps (filled depth text) h (tree_filled P depth text))

        test : (t : Bool) → leb too_deep depth ≡ t → Goal
        test true e = rw (text_stops look n kind s depth i text ps (fault expression_nested_too_deeply i) (deep_stops look kind s depth i text e)) tt
        test false e = go (text_move look kind s depth i text) refl (omega (arith, leb-false too_deep depth e))

    field_tree : (from i : ℕ) (f : Field) → depth ≤ 1 → Inv from i f → TreeRead P depth (field_n look (suc n) kind s depth from i f)
    field_tree from i f l h = go (field_move s i f) refl (step from i f h)
      where
        Goal : Type 0
        Goal = TreeRead P depth (field_n look (suc n) kind s depth from i f)

        after : (r : Read (List Piece)) → spec_n look n kind s depth (next s i) ≡ r → TreeRead P (suc depth) r → field_move s i f ≡ calls → Closes P f → Goal
        after (got ps j) g k e c = rw (field_got look n kind s depth from i f ps j e g) (specified_tree depth from j (formatted (next s i) f) ps l (closes_formatted P (next s i) f c) k)
        after (refused x) g k e c = rw (field_refused look n kind s depth from i f x e g) tt

        go : (x : Move Field) → field_move s i f ≡ x → MovedAt (Inv from) (Closes P f) x → Goal
        go (goes j f') e (on k) = rw (field_goes look n kind s depth from i f j f' e) (D.field depth from j f' l k)
        go (stops x) e stopped = rw (field_stops look n kind s depth from i f x e) tt
        go calls e (at_spec c) = after (spec_n look n kind s depth (next s i)) refl (D.spec depth (next s i)) e c
        go ends e (at_end_lem c) = rw (field_ends look n kind s depth from i f e) (finished_tree depth from (next s i) f none l c tt)

    spec_tree : (i : ℕ) → TreeRead P (suc depth) (spec_n look (suc n) kind s depth i)
    spec_tree i = go (code s (first_end s i) is "{") refl
      where
        first : Tree P (suc depth) (first_piece s depth i)
        first = tree_filled P (suc depth) (part s i (first_end s i))

        go : (t : Bool) → (code s (first_end s i) is "{") ≡ t → TreeRead P (suc depth) (spec_n look (suc n) kind s depth i)
        go true e = rw (spec_calls look n kind s depth i e) (D.text (suc depth) (first_end s i) [] (first_piece s depth i) first)
        go false e = rw (spec_ends look n kind s depth i e) first

  pub trees : (n : ℕ) → Trees n
  unfolding text_n
  trees zero = record { text = λ depth i text ps h. tt; field = λ depth from i f l h. tt; spec = λ depth i. tt }
  trees (suc n) = record { text = text_tree n (trees n); field = field_tree n (trees n); spec = spec_tree n (trees n) }
