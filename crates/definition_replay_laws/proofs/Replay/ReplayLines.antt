-- THE LINES OF AN ACCEPTED REPLAY are the lines of its rows, and no others are. Assumes nothing.
use mathlib.Core.Path.{◌≡◌, refl, sym, ◌∙◌, ap, ap₂}
use mathlib.Core.Bool.{Bool, true, false, ◌||◌, not}
use mathlib.Core.List.{List, [], ◌∷◌, ◌++◌}
use mathlib.Core.Option.{Option, none, some}
use Prim.Native.Nat.{ℕ, suc, ◌≤◌, ◌<◌, min}
use native.Mathlib.Omega.{arith}
use lib.Dec.{ltb, eqb}
use lib.ListN.{length}
use borrow.Author.Tests.{eqb-true, eq-eqb, ltb-false, le-ltb}
use Rattle.definition.specs.Records.{Record, Answer}
use Rattle.definition.specs.Reading.{accepts}
use Rattle.definition_replay.specs.Spec.{Spec, groupings, behind_width, behind_type, nothing, parts_of, spec_of}
use Rattle.definition_replay.specs.IsSpec.{optional}
use Rattle.definition_replay.specs.Integers.{Integer, Form, base_of, decimal, outside_of, form_in, form_of, written}
use Rattle.definition_replay.specs.Trace.{rows_of}
use Rattle.definition_replay.specs.Replay.{Made, made, stopped, followed, Part, stands, column, TopItem, items_from, nested, texts_of, form_made, part_of, fields_past, parts_from, template_of, field_count, row_line, all_in_range, row_made, lines_from, concat, replays, most_bytes, roomed_lines, lines_of, replayed}
use Rattle.definition_replay.specs.IsLine.{IsLine, AreLines}
use Rattle.definition.proofs.Moves.CharLaws.{cases, no}
use Rattle.definition_replay_laws.proofs.Spec.SpecLaws.{first_legal}
use Rattle.definition_replay_laws.proofs.Integers.WrittenLaws.{base_big, written_is, written_one}
use Rattle.definition_replay_laws.proofs.Replay.ReplayShown.{Accepted, replayed_is}

-- A FORM WITHIN THE SET
pub record Fits (f : Form) : Type 0 where
  pub base : 1 < base_of f.type
  pub width : f.width ≤ 64
  pub grouping : optional groupings f.grouping ≡ true
  pub filled : 0 < length f.fill

or_false : (x y : Bool) → (x || y) ≡ false → (x ≡ false) × (y ≡ false)
or_false true y e = no (sym e)
or_false false y e = (refl, e)

spec_parts : (s : List ℕ) (p : Spec) → spec_of s ≡ some p → parts_of s ≡ p
unfolding spec_of
spec_parts s p e =
    cases (nothing (behind_type s)) (λ t. let z : ◌≡◌ {A = Option Spec} (some (parts_of s)) (some p) = rw t at e in cc)
    (λ t. let z : ◌≡◌ {A = Option Spec} none (some p) = rw t at e in let y : ◌≡◌ {A = ℕ} 0 1 = cc in absurd (omega arith))

spec_grouping : (s : List ℕ) (p : Spec) → spec_of s ≡ some p → optional groupings p.grouping ≡ true
unfolding parts_of
spec_grouping s p e = rw (← spec_parts s p e) (first_legal groupings refl (behind_width s))

form_in_lem : (p : Spec) (f : Form) → form_of p ≡ some f → (outside_of p ≡ false) × (form_in p ≡ f)
unfolding form_of
form_in_lem p f e =
    cases (outside_of p) (λ t. let z : ◌≡◌ {A = Option Form} none (some f) = rw t at e in let y : ◌≡◌ {A = ℕ} 0 1 = cc in absurd (omega arith))
    (λ t. let z : ◌≡◌ {A = Option Form} (some (form_in p)) (some f) = rw t at e in (t, cc))

fill_some : (p : Spec) → 0 < length (form_in p).fill
unfolding form_in nothing
fill_some p = go p.fill refl
  where
    go : (l : List ℕ) → p.fill ≡ l → 0 < length (form_in p).fill
    go [] e = rw e (omega arith)
    go (b ∷ l) e = rw e (omega arith)

pub form_fits : (s : List ℕ) (p : Spec) (f : Form) → spec_of s ≡ some p → form_of p ≡ some f → Fits f
unfolding outside_of form_in
form_fits s p f e g =
    let h = form_in_lem p f g in
    let a = or_false (not (eqb p.z 0) || not (nothing p.precision) || eqb (base_of p.type) 0 || ltb 64 (decimal p.width)) _ h.0 in
    let b = or_false (not (eqb p.z 0) || not (nothing p.precision) || eqb (base_of p.type) 0) (ltb 64 (decimal p.width)) a.0 in
    let c = or_false (not (eqb p.z 0) || not (nothing p.precision)) (eqb (base_of p.type) 0) b.0 in
    rw (← h.1)
    (record {
      base = base_big p.type c.1;
      width = ltb-false 64 (decimal p.width) b.1;
      grouping = spec_grouping s p e;
      filled = fill_some p;
    })

-- THE TEMPLATE'S FIELDS are such
abbrev pub Fitting : List Part → Type 0
Fitting [] = Unit {0}
Fitting (stands b ∷ ps) = Fitting ps
Fitting (column f ∷ ps) = Fits f × Fitting ps

abbrev One : Made Part → Type 0
One (made p) = Fitting (p ∷ [])
One (stopped n k) = Unit {0}

abbrev Every : Made (List Part) → Type 0
Every (made ps) = Fitting ps
Every (stopped n k) = Unit {0}

fitting_followed : (o : Made Part) (q : Made (List Part)) → One o → Every q → Every (followed o q)
unfolding followed
fitting_followed (stopped n k) q h g = tt
fitting_followed (made p) (stopped n k) h g = tt
fitting_followed (made (stands b)) (made ps) h g = g
fitting_followed (made (column f)) (made ps) h g = (h.0, g)

form_one : (k mode : ℕ) (spec : List ℕ) → One (form_made k mode spec)
unfolding form_made
form_one k mode spec = go (spec_of spec) refl
  where
    by_form : (p : Spec) → spec_of spec ≡ some p → (o : Option Form) → form_of p ≡ o → One (form_made k mode spec)
    by_form p e none f = rw (e, f, form_made) tt
    by_form p e (some x) f = cases (eqb mode 0) (λ g. rw (e, f, form_made) (rw g (form_fits spec p x e f, tt))) (λ g. rw (e, f, form_made) (rw g tt))

    go : (o : Option Spec) → spec_of spec ≡ o → One (form_made k mode spec)
    go none e = rw (e, form_made) tt
    go (some p) e = by_form p e (form_of p) refl

part_one : (t : List ℕ) (k : ℕ) (r : Record) (rs : List Record) → One (part_of t k r rs)
unfolding part_of
part_one t k r rs =
    cases (eqb r.kind 2) (λ e. cases (nested rs) (λ f. rw (e, f) tt) (λ f. rw (e, f) (form_one k r.mode (texts_of t rs)))) (λ e. rw e tt)

parts_every : (t : List ℕ) (k : ℕ) (xs : List TopItem) → Every (parts_from t k xs)
unfolding parts_from
parts_every t k [] = tt
parts_every t k (i ∷ xs) = fitting_followed (part_of t k i.0 i.1) (parts_from t (fields_past k i.0) xs) (part_one t k i.0 i.1) (parts_every t (fields_past k i.0) xs)

pub template_fits : (x : Answer) (ps : List Part) → template_of x ≡ made ps → Fitting ps
unfolding template_of
template_fits x ps e = rw e at (parts_every x.text 0 (items_from 0 x.records))

-- A LINE
pub line_is : (ps : List Part) (vs : List Integer) → Fitting ps → length vs ≡ field_count ps → IsLine ps vs (row_line ps vs)
unfolding row_line field_count
line_is [] [] h e = refl
line_is [] (v ∷ vs) h e = absurd (omega arith)
line_is (stands b ∷ ps) vs h e = (row_line ps vs, refl, line_is ps vs h e)
line_is (column f ∷ ps) [] h e = absurd (omega arith)
line_is (column f ∷ ps) (v ∷ vs) h e = (written f v, row_line ps vs, refl, written_is f v h.0.base, line_is ps vs h.1 (omega arith))

pub line_one : (ps : List Part) (vs : List Integer) (t u : List ℕ) → Fitting ps → IsLine ps vs t → IsLine ps vs u → t ≡ u
line_one [] [] t u h a b = a ∙ sym b
line_one [] (v ∷ vs) t u h a b = absurd a
line_one (stands x ∷ ps) vs t u h (r, e, a) (r', e', b) = e ∙ ap (λ l. x ++ l) (line_one ps vs r r' h a b) ∙ sym e'
line_one (column f ∷ ps) [] t u h a b = absurd a
line_one (column f ∷ ps) (v ∷ vs) t u h (w, r, e, i, a) (w', r', e', i', b) =
    e ∙ ap₂ (λ x y. x ++ y) (written_one f v h.0.base w w' i i') (line_one ps vs r r' h.1 a b) ∙ sym e'

-- THE LINES of rows
row_line_lem : (ps : List Part) (i : ℕ) (r : Option (List Integer)) (l : List ℕ) → Fitting ps → row_made ps i r ≡ made l → AreLines ps (r ∷ []) (l ∷ [])
unfolding row_made
row_line_lem ps i none l h e = let z : ◌≡◌ {A = ℕ} 0 1 = cc in absurd (omega arith)
row_line_lem ps i (some vs) l h e =
    cases (eqb (length vs) (field_count ps))
    (λ f.
    cases (all_in_range vs)
    (λ g.
    let z : made (row_line ps vs) ≡ made l = rw (f, g) at e in
    let y : row_line ps vs ≡ l = cc in
    (rw y at (line_is ps vs h (eqb-true _ _ f)), g, tt))
    (λ g. let z : ◌≡◌ {A = Made (List ℕ)} (stopped 72 i) (made l) = rw (f, g) at e in let y : ◌≡◌ {A = ℕ} 0 1 = cc in absurd (omega arith)))
    (λ f. let z : ◌≡◌ {A = Made (List ℕ)} (stopped 71 i) (made l) = rw f at e in let y : ◌≡◌ {A = ℕ} 0 1 = cc in absurd (omega arith))

lines_put : (ps : List Part) (r : Option (List Integer)) (l : List ℕ) (rs : List (Option (List Integer))) (ls : List (List ℕ))
    → AreLines ps (r ∷ []) (l ∷ []) → AreLines ps rs ls → AreLines ps (r ∷ rs) (l ∷ ls)
lines_put ps none l rs ls a b = absurd a
lines_put ps (some vs) l rs ls a b = (a.0, a.1, b)

pub lines_are : (ps : List Part) (i : ℕ) (rs : List (Option (List Integer))) (ls : List (List ℕ)) → Fitting ps → lines_from ps i rs ≡ made ls → AreLines ps rs ls
unfolding lines_from followed
lines_are ps i [] [] h e = tt
lines_are ps i [] (l ∷ ls) h e = let z : ◌≡◌ {A = ℕ} 0 1 = cc in absurd (omega arith)
lines_are ps i (r ∷ rs) ls h e = go (row_made ps i r) refl (lines_from ps (suc i) rs) refl (λ ms f. lines_are ps (suc i) rs ms h f)
  where
    go : (o : Made (List ℕ)) → row_made ps i r ≡ o → (q : Made (List (List ℕ))) → lines_from ps (suc i) rs ≡ q
        → ((ms : List (List ℕ)) → lines_from ps (suc i) rs ≡ made ms → AreLines ps rs ms) → AreLines ps (r ∷ rs) ls
    go (stopped n k) f q g ih = let z : ◌≡◌ {A = Made (List (List ℕ))} (stopped n k) (made ls) = rw f at e in let y : ◌≡◌ {A = ℕ} 0 1 = cc in absurd (omega arith)
    go (made l) f (stopped n k) g ih = let z : ◌≡◌ {A = Made (List (List ℕ))} (stopped n k) (made ls) = rw (f, g) at e in let y : ◌≡◌ {A = ℕ} 0 1 = cc in absurd (omega arith)
    go (made l) f (made ms) g ih =
        let z : made (l ∷ ms) ≡ made ls = rw (f, g) at e in
        let y : ls ≡ l ∷ ms = cc in
        rw y (lines_put ps r l rs ms (row_line_lem ps i r l h f) (ih ms g))

-- and every such list of lines is what is made
line_columns : (ps : List Part) (vs : List Integer) (t : List ℕ) → IsLine ps vs t → length vs ≡ field_count ps
unfolding field_count
line_columns [] [] t a = refl
line_columns [] (v ∷ vs) t a = absurd a
line_columns (stands b ∷ ps) vs t (r, e, a) = line_columns ps vs r a
line_columns (column f ∷ ps) [] t a = absurd a
line_columns (column f ∷ ps) (v ∷ vs) t (w, r, e, i, a) = ap suc (line_columns ps vs r a)

pub lines_made : (ps : List Part) (i : ℕ) (rs : List (Option (List Integer))) (ls : List (List ℕ)) → Fitting ps → AreLines ps rs ls → lines_from ps i rs ≡ made ls
unfolding lines_from row_made followed
lines_made ps i [] [] h a = refl
lines_made ps i [] (l ∷ ls) h a = absurd a
lines_made ps i (none ∷ rs) [] h a = absurd a
lines_made ps i (some vs ∷ rs) [] h a = absurd a
lines_made ps i (none ∷ rs) (l ∷ ls) h a = absurd a
lines_made ps i (some vs ∷ rs) (l ∷ ls) h (a, g, b) =
    let n = line_columns ps vs l a in
    let t = line_one ps vs (row_line ps vs) l h (line_is ps vs h n) a in
    rw (eq-eqb (length vs) (field_count ps) n, g) (ap₂ (λ x o. followed (made x) o) t (lines_made ps (suc i) rs ls h b))

-- AN ACCEPTED REPLAY: its template's parts, and its rows' lines
pub record Lines (x : Answer) (trace : List ℕ) (n : ℕ) (l : List ℕ) : Type 0 where
  pub parts : List Part
  pub lines : List (List ℕ)
  pub template : template_of x ≡ made parts
  pub are : AreLines parts (rows_of trace) lines
  pub rows : n ≡ length lines
  pub text : l ≡ concat lines

module _ (x : Answer) (trace : List ℕ) (room n : ℕ) (l : List ℕ) where
  pub accepted_lines : replayed (accepts x) trace room ≡ replays x n l → Lines x trace n l × (length l ≤ min room most_bytes)
  unfolding lines_of
  accepted_lines e =
      let r = replayed_is (accepts x) trace room x n l e in
      (go (template_of x) refl r, r.fits)
    where
      go : (o : Made (List Part)) → template_of x ≡ o → Accepted (accepts x) trace room x n l → Lines x trace n l
      go (made ps) f r =
          let e : lines_from ps 0 (rows_of trace) ≡ made r.lines = rw f at r.are in
          record { parts = ps; lines = r.lines; template = f; are = lines_are ps 0 (rows_of trace) r.lines (template_fits x ps f) e; rows = r.rows; text = r.text }
      go (stopped m k) f r = let z : ◌≡◌ {A = Made (List (List ℕ))} (stopped m k) (made r.lines) = rw f at r.are in let y : ◌≡◌ {A = ℕ} 0 1 = cc in absurd (omega arith)

  pub lines_accepted : Lines x trace n l → length l ≤ min room most_bytes → replayed (accepts x) trace room ≡ replays x n l
  unfolding replayed roomed_lines lines_of
  lines_accepted r h =
      rw (r.template, lines_made r.parts 0 (rows_of trace) r.lines (template_fits x r.parts r.template) r.are, ← r.text, ← r.rows, le-ltb (min room most_bytes) (length l) h)
