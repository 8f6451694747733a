-- What a reading gives from a place on: pieces after those that were had, text that only grows, and the shape of a field. Assumes nothing.
use mathlib.Core.Path.{◌≡◌, refl, sym, ◌∙◌, ap, ap₂, subst}
use mathlib.Core.Bool.{Bool, true, false}
use mathlib.Core.List.{List, [], ◌∷◌, ◌++◌, map, append_assoc, append-nil}
use mathlib.Core.Option.{Option, none, some}
use Prim.Native.Nat.{ℕ, zero, suc, ◌≤◌}
use native.Mathlib.Omega.{arith}
use lib.ListN.{length, drop, replicate}
use lib.Seq.{drop-append_seam}
use Rattle.definition.specs.Chars.{at_end, next, char}
use Rattle.definition.specs.Escapes.{Naming, Fault, Read, got, refused, Meaning, escape, meant}
use Rattle.definition.specs.Body.{Signs, with_close, Piece, literal, Move, goes, stops, calls, ends, TextCase, deep, opens, last, doubled, lone, text_case, text_move, with_escape, filled, Bracket, Field, state, fresh, formatted, outside, field_move, conversion_of, field_pieces, self_documenting, finished, specified, text_n, field_n, spec_n}
use Rattle.definition.specs.Records.{item_of}
use Rattle.definition_written.specs.Written.{Content, empty, says, puts, forms, filled_with, alike_after, alike}
use Rattle.definition.proofs.Moves.CharLaws.{cases, Utf8}
use Rattle.definition_laws.proofs.Moves.Steps.{text_goes, text_stops, text_ends, text_got, text_refused, field_goes, field_stops, field_ends, field_got, field_refused}
use Rattle.definition_laws.proofs.Moves.Moves.{none_open}
use Rattle.definition_laws.proofs.Formed.Grammar.{Parts, done, run, bare, full, flat, Tree, TreeRead, flat_append, chain, flat_chain}
use Rattle.definition_written_laws.proofs.Readback.BackTree.{strip, Shows, filled_shows, shows_filled, shows_puts, shows_forms}
use Rattle.definition_written_laws.proofs.Readback.BackAnswer.{chained, chained_empty, held_by, held_flat}
use Rattle.definition_written_laws.proofs.Readback.BackTrees.{MovedAt, on, stopped, at_spec, at_end_lem, Trees, trees}
use Rattle.definition_written_laws.proofs.Readback.BackClean.{Clean, Keeps, KeepsAt, keeps_fresh, keeps_step, Out, ends_outside}

-- PIECES HOLD ONE THING
pub shows_one : (d : ℕ) (ps : List Piece) (p q : Content) → Shows d ps p → Shows d ps q → p ≡ q
unfolding held_by
shows_one d ps p q (x, e, f) (y, g, h) = sym f ∙ sym (one x) ∙ ap (λ z. held_by 0 (map (item_of 1 0 0 0) z)) (sym e ∙ g) ∙ one y ∙ h
  where
    one : (x : Parts) → held_by 0 (map (item_of 1 0 0 0) (flat d x [])) ≡ strip x
    one x = held_flat 0 0 0 0 d x [] ∙ chained_empty (strip x)

strip_chain : (p q : Parts) → strip (chain p q) ≡ chained (strip p) (strip q)
strip_chain done q = refl
strip_chain (run t p) q = ap (says t) (strip_chain p q)
strip_chain (bare e c i g p) q = ap (puts e c) (strip_chain p q)
strip_chain (full e c i g r p) q = ap (forms e c (strip r)) (strip_chain p q)

pub shows_both : (d : ℕ) (ps qs : List Piece) (p q : Content) → Shows d ps p → Shows d qs q → Shows d (ps ++ qs) (chained p q)
shows_both d ps qs p q (x, e, f) (y, g, h) = (chain x y, ap₂ ◌++◌ e g ∙ flat_append d x [] (flat d y []) ∙ sym (flat_chain d x y []), strip_chain x y ∙ ap₂ chained f h)

pub same_after : (ps qs rs : List Piece) → ps ++ qs ≡ ps ++ rs → qs ≡ rs
same_after ps qs rs e = sym (drop-append_seam ps qs) ∙ ap (drop (length ps)) e ∙ drop-append_seam ps rs

-- ALIKE, after a text
pub alike_filled : (t : List ℕ) (p : Content) → alike (filled_with t p) ≡ alike_after t p
unfolding alike_after filled_with
alike_filled [] p = refl
alike_filled (b ∷ t) p = refl

-- the text in front, and what stands behind it up to the next field
abbrev pub lead_text : Content → List ℕ
lead_text empty = []
lead_text (says t p) = t
lead_text (puts e c p) = []
lead_text (forms e c q p) = []

abbrev pub first_text : Content → List ℕ
first_text empty = []
first_text (says t p) = t ++ first_text p
first_text (puts e c p) = []
first_text (forms e c q p) = []

lead_filled : (t : List ℕ) (p : Content) → lead_text p ≡ [] → lead_text (filled_with t p) ≡ t
unfolding filled_with
lead_filled [] p h = h
lead_filled (b ∷ t) p h = refl

pub lead_alike : (t : List ℕ) (p : Content) → lead_text (alike_after t p) ≡ t ++ first_text p
unfolding alike_after
lead_alike t empty = lead_filled t empty refl ∙ sym (append-nil t)
lead_alike t (says u p) = lead_alike (t ++ u) p ∙ append_assoc t u (first_text p)
lead_alike t (puts e c p) = lead_filled t (puts e c (alike_after [] p)) refl ∙ sym (append-nil t)
lead_alike t (forms e c q p) = lead_filled t (forms e c (alike_after [] q) (alike_after [] p)) refl ∙ sym (append-nil t)

-- what follows the first field, and its spec
abbrev pub rest_of : Content → Content
rest_of empty = empty
rest_of (says t p) = rest_of p
rest_of (puts e c p) = p
rest_of (forms e c q p) = p

abbrev pub spec_of : Content → Content
spec_of empty = empty
spec_of (says t p) = spec_of p
spec_of (puts e c p) = empty
spec_of (forms e c q p) = q

pub rest_puts : (t e : List ℕ) (c : ℕ) (p : Content) → rest_of (filled_with t (puts e c p)) ≡ p
unfolding filled_with
rest_puts [] e c p = refl
rest_puts (b ∷ t) e c p = refl

pub rest_forms : (t e : List ℕ) (c : ℕ) (q p : Content) → (rest_of (filled_with t (forms e c q p)) ≡ p) × (spec_of (filled_with t (forms e c q p)) ≡ q)
unfolding filled_with
rest_forms [] e c q p = (refl, refl)
rest_forms (b ∷ t) e c q p = (refl, refl)

extended : (t t' v : List ℕ) (p : Content) → t' ≡ t ++ v → alike_after t' p ≡ alike_after t (says v p)
unfolding alike_after
extended t t' v p e = ap (λ u. alike_after u p) e

-- TEXT ONLY GROWS
module _ (look : Naming) (s : List ℕ) (depth i : ℕ) (t : List ℕ) where
  abbrev Extends : Move (List ℕ) → Type 0
  Extends (goes j t') = (v : List ℕ) × (t' ≡ t ++ v)
  Extends (stops x) = Unit {0}
  Extends calls = Unit {0}
  Extends ends = Unit {0}

  escape_extends : (r : Read Meaning) → Extends (with_escape 1 s i t r)
  unfolding with_escape
  escape_extends (got m j) = (meant 1 s i j m, refl)
  escape_extends (refused x) = tt

  extends : Extends (text_move look 1 s depth i t)
  unfolding text_move
  extends = go (text_case 1 s depth i) refl
    where
      go : (x : TextCase) → text_case 1 s depth i ≡ x → Extends (text_move look 1 s depth i t)
      go deep e = rw (e, text_move) tt
      go TextCase.over e = rw (e, text_move) tt
      go opens e = rw (e, text_move) tt
      go last e = rw (e, text_move) tt
      go doubled e = rw (e, text_move) (char s i, refl)
      go lone e = rw (e, text_move) tt
      go TextCase.escapes e = rw (e, text_move) (escape_extends (escape look 1 s (next s i)))
      go TextCase.plain e = rw (e, text_move) (char s i, refl)

no_got : {P : Type 0} {A : Type 0} {x : Fault} {v : A} {j : ℕ} → ◌≡◌ {A = Read A} (refused x) (got v j) → P
no_got e = let z : ◌≡◌ {A = ℕ} 0 1 = cc in absurd (omega arith)

got_is : {A : Type 0} {u v : A} {i j : ℕ} → ◌≡◌ {A = Read A} (got u i) (got v j) → u ≡ v
got_is e = cc

module _ (look : Naming) (s : List ℕ) (utf8 : Utf8 s) where
  -- all that is read is a tree of clean fields
  abbrev pub all_trees : (n : ℕ) → Trees look 1 s (KeepsAt s utf8) Clean (keeps_fresh s utf8) (keeps_step s utf8) n
  all_trees n = trees look 1 s (KeepsAt s utf8) Clean (keeps_fresh s utf8) (keeps_step s utf8) n

  pub record Grown (depth : ℕ) (t : List ℕ) (ps rs : List Piece) : Type 0 where
    pub new : List Piece
    pub follows : rs ≡ ps ++ new
    pub holds : Content
    pub shows : Shows depth new holds
    pub onward : Content
    pub grows : alike holds ≡ alike_after t onward

  tree_shows : (d : ℕ) (ps : List Piece) → Tree Clean d ps → (p : Content) × Shows d ps p
  tree_shows d ps (q, e, a) = (strip q, (q, e, refl))

  pub text_grows : (n depth i : ℕ) (t : List ℕ) (ps rs : List Piece) (j : ℕ) → depth ≤ 1 → text_n look n 1 s depth i t ps ≡ got rs j → Grown depth t ps rs
  unfolding text_n
  text_grows zero depth i t ps rs j l h = no_got h
  text_grows (suc n) depth i t ps rs j l h = go (text_move look 1 s depth i t) refl (extends look s depth i t) (λ i t ps. text_grows n depth i t ps rs j l)
    where
      Ih : Type 0
      Ih = (i : ℕ) (t : List ℕ) (ps : List Piece) → text_n look n 1 s depth i t ps ≡ got rs j → Grown depth t ps rs

      after : (r : Read (List Piece)) → field_n look n 1 s depth (next s i) (next s i) fresh ≡ r → TreeRead Clean depth r → text_move look 1 s depth i t ≡ calls → Ih → Grown depth t ps rs
      after (refused x) f k e ih = no_got (sym (text_refused look n 1 s depth i t ps x e f) ∙ h)
      after (got qs m) f k e ih =
          let g = ih m [] (ps ++ filled depth t ++ qs) (sym (text_got look n 1 s depth i t ps qs m e f) ∙ h) in
          let x = tree_shows depth qs k in
          record {
            new = filled depth t ++ (qs ++ g.new);
            follows = g.follows ∙ append_assoc (ps ++ filled depth t) qs g.new ∙ append_assoc ps (filled depth t) (qs ++ g.new);
            holds = filled_with t (chained x.0 g.holds);
            shows = shows_filled depth t (qs ++ g.new) (chained x.0 g.holds) (shows_both depth qs g.new x.0 g.holds x.1 g.shows);
            onward = chained x.0 g.holds;
            grows = alike_filled t (chained x.0 g.holds);
          }

      go : (x : Move (List ℕ)) → text_move look 1 s depth i t ≡ x → Extends look s depth i t x → Ih → Grown depth t ps rs
      go (goes m t') e (v, z) ih =
          let g = ih m t' ps (sym (text_goes look n 1 s depth i t ps m t' e) ∙ h) in
          record { new = g.new; follows = g.follows; holds = g.holds; shows = g.shows; onward = says v g.onward; grows = g.grows ∙ extended t t' v g.onward z }
      go (stops x) e y ih = no_got (sym (text_stops look n 1 s depth i t ps x e) ∙ h)
      go calls e y ih = after (field_n look n 1 s depth (next s i) (next s i) fresh) refl ((all_trees n).field depth (next s i) (next s i) fresh l (keeps_fresh s utf8 (next s i))) e ih
      go ends e y ih = record {
        new = filled depth t;
        follows = sym (got_is (sym (text_ends look n 1 s depth i t ps e) ∙ h));
        holds = filled_with t empty;
        shows = filled_shows depth t;
        onward = empty;
        grows = alike_filled t empty;
      }

  -- THE SHAPE OF A FIELD: what it documents, if it does, and the field; it stands in its bytes so
  abbrev pub documenting : Bool → List ℕ → ℕ → Content → Content
  documenting false e w p = p
  documenting true e w p = says (e ++ (61 ∷ [])) (says (replicate w 32) p)

  pub record Shape (depth from : ℕ) (qs : List Piece) : Type 0 where
    pub documents : Bool
    pub expression : List ℕ
    pub spaces : ℕ
    pub itself : Content
    pub unled : (p : Content) → first_text (chained itself p) ≡ []
    pub shows : Shows depth qs (documenting documents expression spaces itself)
    pub closes_at : ℕ
    pub blanks : Bool
    pub kept : Keeps s utf8 from closes_at expression blanks [] documents

  shows_documenting : (depth : ℕ) (d : Bool) (e : List ℕ) (w : ℕ) (ps : List Piece) (p : Content) → Shows depth ps p → Shows depth (self_documenting depth d e w ++ ps) (documenting d e w p)
  unfolding self_documenting
  shows_documenting depth false e w ps p h = h
  shows_documenting depth true e w ps p (q, x, y) = (run (e ++ (61 ∷ [])) (run (replicate w 32) q), ap (λ l. literal depth (e ++ (61 ∷ [])) ∷ literal depth (replicate w 32) ∷ l) x, ap (λ z. says (e ++ (61 ∷ [])) (says (replicate w 32) z)) y)

  -- a finished field, whose spec's pieces are a tree
  SpecShows : ℕ → Option (List Piece) → Type 0
  SpecShows d none = Unit {0}
  SpecShows d (some ps) = (p : Content) × Shows d ps p

  field_shows : (depth : ℕ) (e : List ℕ) (c i : ℕ) (g : Signs) (o : Option (List Piece)) → SpecShows (suc depth) o → (p : Content) × ((q : Content) → first_text (chained p q) ≡ []) × Shows depth (field_pieces depth e c i g o) p
  unfolding SpecShows
  field_shows depth e c i g none h = (puts e c empty, (λ q. refl), rw (append-nil (field_pieces depth e c i g none)) at (shows_puts depth e c i g [] empty (done, refl, refl)))
  field_shows depth e c i g (some ps) (p, h) = (forms e c p empty, (λ q. refl), rw (append-nil (field_pieces depth e c i g (some ps))) at (shows_forms depth e c i g ps [] p empty h (done, refl, refl)))

  finished_shape : (depth from k j m : ℕ) (e : List ℕ) (b : Bool) (o : List Bracket) (c : ℕ) (d : Bool) (w : ℕ) (g : Signs) (p : Option (List Piece)) (qs : List Piece) → outside o ≡ true → Keeps s utf8 from k e b o d → SpecShows (suc depth) p
      → finished depth from j (state e b o c d w g) p ≡ got qs m → Shape depth from qs
  unfolding finished
  finished_shape depth from k j m e true o c d w g p qs out keep sp h = no_got h
  finished_shape depth from k j m e false o c d w g p qs out keep sp h =
      let (x, u, y) = field_shows depth e (conversion_of d c p) from (with_close j g) p sp in
      record {
        documents = d;
        expression = e;
        spaces = w;
        itself = x;
        unled = u;
        shows = subst (λ (z : List Piece). Shows depth z (documenting d e w x)) (got_is h) (shows_documenting depth d e w (field_pieces depth e (conversion_of d c p) from (with_close j g) p) x y);
        closes_at = k;
        blanks = false;
        kept = subst (λ (o : List Bracket). Keeps s utf8 from k e false o d) (none_open o out) keep;
      }

  specified_shape : (depth from k j m : ℕ) (f : Field) (a : ℕ) (ps qs : List Piece) → Out s utf8 f → KeepsAt s utf8 from k f → (p : Content) × Shows (suc depth) ps p → specified s depth from j (formatted a f) ps ≡ got qs m → Shape depth from qs
  unfolding specified formatted SpecShows
  specified_shape depth from k j m (state e b o c d w g) a ps qs out keep sp h =
      cases (at_end s j) (λ t. no_got (rw t at h)) (λ t. finished_shape depth from k (next s j) m e b o c d w _ (some ps) qs out keep sp (rw t at h))

  pub field_shape : (n depth from i : ℕ) (f : Field) (qs : List Piece) (m : ℕ) → depth ≤ 1 → KeepsAt s utf8 from i f → field_n look n 1 s depth from i f ≡ got qs m → Shape depth from qs
  unfolding field_n SpecShows
  field_shape zero depth from i f qs m l k h = no_got h
  field_shape (suc n) depth from i f qs m l k h = go (field_move s i f) refl (ends_outside s utf8 from i f k) (λ i f. field_shape n depth from i f qs m l)
    where
      Ih : Type 0
      Ih = (i : ℕ) (f : Field) → KeepsAt s utf8 from i f → field_n look n 1 s depth from i f ≡ got qs m → Shape depth from qs

      after : (r : Read (List Piece)) → spec_n look n 1 s depth (next s i) ≡ r → TreeRead Clean (suc depth) r → field_move s i f ≡ calls → Out s utf8 f → Shape depth from qs
      after (refused x) g t e out = no_got (sym (field_refused look n 1 s depth from i f x e g) ∙ h)
      after (got ps j) g t e out = specified_shape depth from i j m f (next s i) ps qs out k (tree_shows (suc depth) ps t) (sym (field_got look n 1 s depth from i f ps j e g) ∙ h)

      over : (f : Field) → Out s utf8 f → KeepsAt s utf8 from i f → finished depth from (next s i) f none ≡ got qs m → Shape depth from qs
      over (state e b o c d w g) out k h = finished_shape depth from i (next s i) m e b o c d w g none qs out k tt h

      go : (x : Move Field) → field_move s i f ≡ x → MovedAt (KeepsAt s utf8 from) (Out s utf8 f) x → Ih → Shape depth from qs
      go (goes j f') e (on k') ih = ih j f' k' (sym (field_goes look n 1 s depth from i f j f' e) ∙ h)
      go (stops x) e stopped ih = no_got (sym (field_stops look n 1 s depth from i f x e) ∙ h)
      go calls e (at_spec out) ih = after (spec_n look n 1 s depth (next s i)) refl ((all_trees n).spec depth (next s i)) e out
      go ends e (at_end_lem out) ih = over f out k (sym (field_ends look n 1 s depth from i f e) ∙ h)
