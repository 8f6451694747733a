-- The pieces of a text are a tree laid flat: texts and fields at its depth, a field's spec and the spec's parts one deeper. Assumes nothing.
use Rattle.std.specs.Prelude.{if◌then◌else◌}
use mathlib.Core.Path.{◌≡◌, refl, sym, ◌∙◌, ap, ap₂}
use mathlib.Core.Bool.{Bool, true, false}
use mathlib.Core.List.{List, [], ◌∷◌, ◌++◌}
use mathlib.Core.Option.{Option, none, some}
use Prim.Native.Nat.{ℕ, zero, suc, ◌+◌, ◌≤◌, ◌<◌}
use native.Mathlib.Omega.{arith}
use lib.Dec.{leb}
use lib.ListN.{replicate}
use borrow.Author.Tests.{leb-false, eq-eqb, ne_eqb}
use Rattle.definition.specs.Numbers.{is_fstring, expression_nested_too_deeply, empty_expression}
use Rattle.definition.specs.Chars.{◌is◌, part, at_end, code, next}
use Rattle.definition.specs.Escapes.{Naming, Fault, fault, Read, got, refused}
use Rattle.definition.specs.Body.{Signs, Piece, literal, field, spec, Move, goes, stops, calls, ends, too_deep, deep, text_case, text_move, filled, Field, state, with_close, formatted, fresh, field_move, direct, conversion_of, field_pieces, self_documenting, finished, specified, first_end, text_n, field_n, spec_n, enough, read_body}
use Rattle.definition_laws.proofs.Moves.Steps.{text_goes, text_stops, text_ends, text_got, text_refused, field_goes, field_stops, field_ends, field_got, field_refused, first_piece, spec_calls, spec_ends}

-- A tree: what a text holds, in order
pub data Parts : Type 0 where
  done : Parts
  run : (t : List ℕ) (rest : Parts) → Parts
  bare : (e : List ℕ) (c i : ℕ) (g : Signs) (rest : Parts) → Parts  -- a field without a spec
  full : (e : List ℕ) (c i : ℕ) (g : Signs) (spec rest : Parts) → Parts

-- how many it holds directly
abbrev pub count : Parts → ℕ
count done = 0
count (run t p) = suc (count p)
count (bare e c i g p) = suc (count p)
count (full e c i g q p) = suc (count p)

-- its pieces at a depth, and others after them
abbrev pub flat : ℕ → Parts → List Piece → List Piece
flat d done ps = ps
flat d (run t p) ps = literal d t ∷ flat d p ps
flat d (bare e c i g p) ps = field d e c 0 i g ∷ flat d p ps
flat d (full e c i g q p) ps = field d e c 1 i g ∷ spec (count q) ∷ flat (suc d) q (flat d p ps)

-- one tree after another
abbrev pub chain : Parts → Parts → Parts
chain done r = r
chain (run t p) r = run t (chain p r)
chain (bare e c i g p) r = bare e c i g (chain p r)
chain (full e c i g q p) r = full e c i g q (chain p r)

pub flat_append : (d : ℕ) (p : Parts) (ps qs : List Piece) → flat d p ps ++ qs ≡ flat d p (ps ++ qs)
flat_append d done ps qs = refl
flat_append d (run t p) ps qs = ap (λ l. literal d t ∷ l) (flat_append d p ps qs)
flat_append d (bare e c i g p) ps qs = ap (λ l. field d e c 0 i g ∷ l) (flat_append d p ps qs)
flat_append d (full e c i g q p) ps qs = ap (λ l. field d e c 1 i g ∷ spec (count q) ∷ l) (flat_append (suc d) q (flat d p ps) qs ∙ ap (flat (suc d) q) (flat_append d p ps qs))

pub flat_chain : (d : ℕ) (p r : Parts) (ps : List Piece) → flat d (chain p r) ps ≡ flat d p (flat d r ps)
flat_chain d done r ps = refl
flat_chain d (run t p) r ps = ap (λ l. literal d t ∷ l) (flat_chain d p r ps)
flat_chain d (bare e c i g p) r ps = ap (λ l. field d e c 0 i g ∷ l) (flat_chain d p r ps)
flat_chain d (full e c i g q p) r ps = ap (λ l. field d e c 1 i g ∷ spec (count q) ∷ flat (suc d) q l) (flat_chain d p r ps)

-- what is deeper is not counted
direct_deeper : (d d' : ℕ) (p : Parts) (ps : List Piece) → d < d' → direct d (flat d' p ps) ≡ direct d ps
unfolding direct
direct_deeper d d' done ps h = refl
direct_deeper d d' (run t p) ps h = rw (ne_eqb d' d (λ e. omega arith)) (omega (arith, direct_deeper d d' p ps h))
direct_deeper d d' (bare e c i g p) ps h = rw (ne_eqb d' d (λ e. omega arith)) (omega (arith, direct_deeper d d' p ps h))
direct_deeper d d' (full e c i g q p) ps h = rw (ne_eqb d' d (λ e. omega arith)) (omega (arith, direct_deeper d (suc d') q (flat d' p ps) (omega arith), direct_deeper d d' p ps h))

pub direct_flat : (d : ℕ) (p : Parts) (ps : List Piece) → direct d (flat d p ps) ≡ count p + direct d ps
unfolding direct
direct_flat d done ps = omega arith
direct_flat d (run t p) ps = rw (eq-eqb d d refl) (omega (arith, direct_flat d p ps))
direct_flat d (bare e c i g p) ps = rw (eq-eqb d d refl) (omega (arith, direct_flat d p ps))
direct_flat d (full e c i g q p) ps = rw (eq-eqb d d refl) (omega (arith, direct_deeper d (suc d) q (flat d p ps) (omega arith), direct_flat d p ps))

-- what holds of each field's expression and conversion, and that fields lie at most two deep
module _ (P : List ℕ → ℕ → Type 0) where
  abbrev pub All : ℕ → Parts → Type 0
  All d done = Unit {0}
  All d (run t p) = All d p
  All d (bare e c i g p) = (d ≤ 1) × P e c × All d p
  All d (full e c i g q p) = (d ≤ 1) × P e c × All (suc d) q × All d p

  all_chain : (d : ℕ) (p r : Parts) → All d p → All d r → All d (chain p r)
  all_chain d done r h k = k
  all_chain d (run t p) r h k = all_chain d p r h k
  all_chain d (bare e c i g p) r h k = (h.0, h.1, all_chain d p r h.2 k)
  all_chain d (full e c i g q p) r h k = (h.0, h.1, h.2, all_chain d p r h.3 k)

  -- pieces that are such a tree
  abbrev pub Tree : ℕ → List Piece → Type 0
  Tree d ps = (p : Parts) × (ps ≡ flat d p []) × All d p

  abbrev pub TreeRead : ℕ → Read (List Piece) → Type 0
  TreeRead d (got ps j) = Tree d ps
  TreeRead d (refused x) = Unit {0}

  -- a spec's, if there is one
  abbrev pub TreeIn : ℕ → Option (List Piece) → Type 0
  TreeIn d none = Unit {0}
  TreeIn d (some ps) = Tree d ps

  pub tree_append : (d : ℕ) (ps qs : List Piece) → Tree d ps → Tree d qs → Tree d (ps ++ qs)
  tree_append d ps qs (p, e, h) (q, f, k) =
      (chain p q, ap₂ ◌++◌ e f ∙ flat_append d p [] (flat d q []) ∙ sym (flat_chain d p q []), all_chain d p q h k)

  pub tree_filled : (d : ℕ) (t : List ℕ) → Tree d (filled d t)
  unfolding filled
  tree_filled d [] = (done, refl, tt)
  tree_filled d (b ∷ t) = (run (b ∷ t) done, refl, tt)

-- what holds after a move of a field: Inv of its state where it goes on, C where its expression ends
pub data Moved (Inv : Field → Type 0) (C : Type 0) : Move Field → Type 0 where
  on : {j : ℕ} {f : Field} → Inv f → Moved Inv C (goes j f)
  stopped : {x : Fault} → Moved Inv C (stops x)
  at_spec : C → Moved Inv C calls
  at_end_lem : C → Moved Inv C ends

deep_case : (kind : ℕ) (s : List ℕ) (depth i : ℕ) → leb too_deep depth ≡ true → text_case kind s depth i ≡ deep
unfolding text_case
deep_case kind s depth i e = rw e

pub deep_stops : (look : Naming) → (kind : ℕ) (s : List ℕ) (depth i : ℕ) (text : List ℕ) → leb too_deep depth ≡ true → text_move look kind s depth i text ≡ stops (fault expression_nested_too_deeply i)
unfolding text_move
deep_stops look kind s depth i text e = rw (deep_case kind s depth i e, text_move)

-- P of a field's expression and of its conversion, where it is finished
abbrev pub Closes : (List ℕ → ℕ → Type 0) → Field → Type 0
Closes P (state e b o c d w g) = b ≡ false → (p : Option (List Piece)) → P e (conversion_of d c p)

pub closes_formatted : (P : List ℕ → ℕ → Type 0) (j : ℕ) (f : Field) → Closes P f → Closes P (formatted j f)
unfolding formatted
closes_formatted P j (state e b o c d w g) h = h

-- an invariant of a field's state, `Inv`, that gives P there
module _ (look : Naming) (kind : ℕ) (s : List ℕ) (Inv : Field → Type 0) (P : List ℕ → ℕ → Type 0)
    (start : Inv fresh)
    (step : (i : ℕ) (f : Field) → Inv f → Moved Inv (Closes P f) (field_move s i f)) where
  tree_documented : (depth : ℕ) (d : Bool) (e : List ℕ) (w : ℕ) → Tree P depth (self_documenting depth d e w)
  unfolding self_documenting
  tree_documented depth true e w = (run (e ++ (61 ∷ [])) (run (replicate w 32) done), refl, tt)
  tree_documented depth false e w = (done, refl, tt)

  tree_field : (depth : ℕ) (e : List ℕ) (c i : ℕ) (g : Signs) (p : Option (List Piece)) → depth ≤ 1 → P e c
      → TreeIn P (suc depth) p → Tree P depth (field_pieces depth e c i g p)
  unfolding field_pieces direct
  tree_field depth e c i g none l h k = (bare e c i g done, refl, (l, h, tt))
  tree_field depth e c i g (some ps) l h (q, f, k) =
      (full e c i g q done, ap₂ (λ n l. field depth e c 1 i g ∷ spec n ∷ l) (ap (direct (suc depth)) f ∙ direct_flat (suc depth) q [] ∙ none_left q) f, (l, h, k, tt))
    where
      none_left : (q : Parts) → count q + direct (suc depth) [] ≡ count q
      none_left q = omega arith

  finished_tree : (depth from j : ℕ) (f : Field) (p : Option (List Piece)) → depth ≤ 1 → Closes P f
      → TreeIn P (suc depth) p → TreeRead P depth (finished depth from j f p)
  unfolding finished
  finished_tree depth from j (state e b o c d w g) p l h k = go b refl
    where
      go : (x : Bool) → b ≡ x → TreeRead P depth (if x then refused (fault empty_expression j) else got (self_documenting depth d e w ++ field_pieces depth e (conversion_of d c p) from (with_close j g) p) j)
      go true y = tt
      go false y = tree_append P depth (self_documenting depth d e w) (field_pieces depth e (conversion_of d c p) from (with_close j g) p) (tree_documented depth d e w) (tree_field depth e (conversion_of d c p) from (with_close j g) p l (h y p) k)

  specified_tree : (depth from j : ℕ) (f : Field) (ps : List Piece) → depth ≤ 1 → Closes P f → Tree P (suc depth) ps → TreeRead P depth (specified s depth from j f ps)
  unfolding specified
  specified_tree depth from j f ps l h k = go (at_end s j) refl
    where
      go : (t : Bool) → at_end s j ≡ t → TreeRead P depth (specified s depth from j f ps)
      go true e = rw e tt
      go false e = rw e (finished_tree depth from (next s j) f (some ps) l h k)

  record Trees (n : ℕ) : Type 0 where
    text : (depth i : ℕ) (text : List ℕ) (ps : List Piece) → Tree P depth ps → TreeRead P depth (text_n look n kind s depth i text ps)
    field : (depth from i : ℕ) (f : Field) → depth ≤ 1 → Inv f → TreeRead P depth (field_n look n kind s depth from i f)
    spec : (depth i : ℕ) → TreeRead P (suc depth) (spec_n look n kind s depth i)

  module _ (n : ℕ) (D : Trees n) (depth : ℕ) where
    text_tree : (i : ℕ) (text : List ℕ) (ps : List Piece) → Tree P depth ps → TreeRead P depth (text_n look (suc n) kind s depth i text ps)
    text_tree i text ps h = test (leb too_deep depth) refl
      where
        Goal : Type 0
        Goal = TreeRead P depth (text_n look (suc n) kind s depth i text ps)

        after : (r : Read (List Piece)) → field_n look n kind s depth (next s i) (next s i) fresh ≡ r → TreeRead P depth r → text_move look kind s depth i text ≡ calls → Goal
        after (got qs j) f k e =
            rw (text_got look n kind s depth i text ps qs j e f)
            (D.text depth j [] (ps ++ filled depth text ++ qs) (tree_append P depth (ps ++ filled depth text) qs (tree_append P depth ps (filled depth text) h (tree_filled P depth text)) k))
        after (refused x) f k e = rw (text_refused look n kind s depth i text ps x e f) tt

        go : (x : Move (List ℕ)) → text_move look kind s depth i text ≡ x → depth ≤ 1 → Goal
        go (goes j text') e l = rw (text_goes look n kind s depth i text ps j text' e) (D.text depth j text' ps h)
        go (stops x) e l = rw (text_stops look n kind s depth i text ps x e) tt
        go calls e l = after (field_n look n kind s depth (next s i) (next s i) fresh) refl (D.field depth (next s i) (next s i) fresh l start) e
        go ends e l = rw (text_ends look n kind s depth i text ps e) (tree_append P depth ps (filled depth text) h (tree_filled P depth text))

        test : (t : Bool) → leb too_deep depth ≡ t → Goal
        test true e = rw (text_stops look n kind s depth i text ps (fault expression_nested_too_deeply i) (deep_stops look kind s depth i text e)) tt
        test false e = go (text_move look kind s depth i text) refl (omega (arith, leb-false too_deep depth e))

    field_tree : (from i : ℕ) (f : Field) → depth ≤ 1 → Inv f → TreeRead P depth (field_n look (suc n) kind s depth from i f)
    field_tree from i f l h = go (field_move s i f) refl (step i f h)
      where
        Goal : Type 0
        Goal = TreeRead P depth (field_n look (suc n) kind s depth from i f)

        after : (r : Read (List Piece)) → spec_n look n kind s depth (next s i) ≡ r → TreeRead P (suc depth) r → field_move s i f ≡ calls → Closes P f → Goal
        after (got ps j) g k e c = rw (field_got look n kind s depth from i f ps j e g) (specified_tree depth from j (formatted (next s i) f) ps l (closes_formatted P (next s i) f c) k)
        after (refused x) g k e c = rw (field_refused look n kind s depth from i f x e g) tt

        go : (x : Move Field) → field_move s i f ≡ x → Moved Inv (Closes P f) x → Goal
        go (goes j f') e (on k) = rw (field_goes look n kind s depth from i f j f' e) (D.field depth from j f' l k)
        go (stops x) e stopped = rw (field_stops look n kind s depth from i f x e) tt
        go calls e (at_spec c) = after (spec_n look n kind s depth (next s i)) refl (D.spec depth (next s i)) e c
        go ends e (at_end_lem c) = rw (field_ends look n kind s depth from i f e) (finished_tree depth from (next s i) f none l c tt)

    spec_tree : (i : ℕ) → TreeRead P (suc depth) (spec_n look (suc n) kind s depth i)
    spec_tree i = go (code s (first_end s i) is "{") refl
      where
        first : Tree P (suc depth) (first_piece s depth i)
        first = tree_filled P (suc depth) (part s i (first_end s i))

        go : (t : Bool) → (code s (first_end s i) is "{") ≡ t → TreeRead P (suc depth) (spec_n look (suc n) kind s depth i)
        go true e = rw (spec_calls look n kind s depth i e) (D.text (suc depth) (first_end s i) [] (first_piece s depth i) first)
        go false e = rw (spec_ends look n kind s depth i e) first

  trees : (n : ℕ) → Trees n
  unfolding text_n
  trees zero = record { text = λ depth i text ps h. tt; field = λ depth from i f l h. tt; spec = λ depth i. tt }
  trees (suc n) = record { text = text_tree n (trees n); field = field_tree n (trees n); spec = spec_tree n (trees n) }

  -- A BODY of an f-string is such a tree
  pub body_tree : is_fstring kind ≡ true → TreeRead P 0 (read_body look kind s)
  unfolding read_body
  body_tree e = rw (e, read_body) ((trees (enough s)).text 0 0 [] [] (done, refl, tt))
