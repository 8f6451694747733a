-- EVERY RECORD STANDS IN ONE ITEM, in order; and a refusal is the first refused field's or row's, whose number is told. Assumes nothing.
use Rattle.std.specs.Prelude.{if◌then◌else◌}
use mathlib.Core.Path.{◌≡◌, refl, sym, ◌∙◌, ap, ap₂}
use mathlib.Core.List.{List, [], ◌∷◌, ◌++◌}
use mathlib.Core.Option.{Option, none, some}
use Prim.Native.Nat.{ℕ, zero, suc, ◌+◌}
use native.Mathlib.Omega.{arith}
use lib.Dec.{eqb}
use lib.ListN.{length}
use borrow.Author.Tests.{eq-eqb, ne_eqb}
use Rattle.definition.specs.Records.{Record, Answer}
use Rattle.definition.specs.Words.{owing}
use Rattle.definition_replay.specs.Spec.{Spec, spec_of}
use Rattle.definition_replay.specs.Integers.{Integer, Form, form_of}
use Rattle.definition_replay.specs.Replay.{Made, made, stopped, followed, Part, records_below, TopItem, items_from, nested, texts_of, form_made, part_of, fields_past, parts_from, template_of, field_count, all_in_range, row_made, lines_from}
use Rattle.definition.proofs.Moves.CharLaws.{cases}

-- THE RECORDS OF ITEMS
unfoldable pub records_of : List TopItem → List Record
records_of [] = []
records_of (i ∷ xs) = (i.0 ∷ i.1) ++ records_of xs

pub items_top : (owed : ℕ) (r : Record) (rs : List Record) → owed ≡ 0 → items_from owed (r ∷ rs) ≡ (r, records_below r.parts rs) ∷ items_from r.parts rs
unfolding items_from
items_top owed r rs e = rw (eq-eqb owed 0 e, items_from) (ap (λ n. (r, records_below r.parts rs) ∷ items_from n rs) (next owed r.parts e))
  where
    next : (owed parts : ℕ) → owed ≡ 0 → owing owed parts ≡ parts
    next owed parts e = omega arith

pub items_below : (owed : ℕ) (r : Record) (rs : List Record) → items_from (suc owed) (r ∷ rs) ≡ items_from (owed + r.parts) rs
unfolding items_from
items_below owed r rs = rw (ne_eqb (suc owed) 0 (λ e. omega arith), items_from) (ap (λ n. items_from n rs) (next owed r.parts))
  where
    next : (owed parts : ℕ) → owing (suc owed) parts ≡ owed + parts
    next owed parts = omega arith

pub items_none : (owed : ℕ) → items_from owed [] ≡ []
unfolding items_from
items_none owed = refl

-- those that are owed, and then the items
items_from_lem : (owed : ℕ) (rs : List Record) → records_below owed rs ++ records_of (items_from owed rs) ≡ rs
unfolding records_below records_of
items_from_lem zero [] = ap records_of (items_none 0)
items_from_lem (suc owed) [] = ap records_of (items_none (suc owed))
items_from_lem zero (r ∷ rs) = rw (items_top 0 r rs refl) (ap (λ l. r ∷ l) (items_from_lem r.parts rs))
items_from_lem (suc owed) (r ∷ rs) = rw (items_below owed r rs) (ap (λ l. r ∷ l) (items_from_lem (owed + r.parts) rs))

-- EVERY RECORD in one item, in order
pub items_whole : (rs : List Record) → records_of (items_from 0 rs) ≡ rs
unfolding records_below
items_whole [] = items_from_lem 0 []
items_whole (r ∷ rs) = items_from_lem 0 (r ∷ rs)

-- how many fields are among items
unfoldable pub fields_in : List TopItem → ℕ
fields_in [] = 0
fields_in (i ∷ xs) = (if eqb i.0.kind 2 then 1 else 0) + fields_in xs

-- A REFUSED FIELD: those before it are made, and its number is told
pub record RefusedField (t : List ℕ) (j : ℕ) (xs : List TopItem) (n k : ℕ) : Type 0 where
  pub before : List TopItem
  pub item : TopItem
  pub after : List TopItem
  pub parts : List Part
  pub items : xs ≡ before ++ (item ∷ after)
  pub made_before : parts_from t j before ≡ made parts
  pub told : k ≡ j + fields_in before
  pub why : part_of t k item.0 item.1 ≡ stopped n k

never : {A P : Type 0} {x : A} {n k : ℕ} → ◌≡◌ {A = Made A} (made x) (stopped n k) → P
never e = let z : ◌≡◌ {A = ℕ} 0 1 = cc in absurd (omega arith)

-- a refusal's number is the field's
form_told : (k mode : ℕ) (spec : List ℕ) (n m : ℕ) → form_made k mode spec ≡ stopped n m → m ≡ k
unfolding form_made
form_told k mode spec n m e = go (spec_of spec) refl
  where
    by_form : (p : Spec) → spec_of spec ≡ some p → (o : Option Form) → form_of p ≡ o → m ≡ k
    by_form p f none g = let z : ◌≡◌ {A = Made Part} (stopped 69 k) (stopped n m) = rw (f, g, form_made) at e in cc
    by_form p f (some x) g =
        cases (eqb mode 0) (λ h. never (rw h at (rw (f, g, form_made) at e)))
        (λ h. let z : ◌≡◌ {A = Made Part} (stopped 69 k) (stopped n m) = rw h at (rw (f, g, form_made) at e) in cc)

    go : (o : Option Spec) → spec_of spec ≡ o → m ≡ k
    go none f = let z : ◌≡◌ {A = Made Part} (stopped 68 k) (stopped n m) = rw (f, form_made) at e in cc
    go (some p) f = by_form p f (form_of p) refl

part_told : (t : List ℕ) (k : ℕ) (r : Record) (rs : List Record) (n m : ℕ) → part_of t k r rs ≡ stopped n m → m ≡ k
unfolding part_of
part_told t k r rs n m e =
    cases (eqb r.kind 2)
    (λ f. cases (nested rs) (λ g. let z : ◌≡◌ {A = Made Part} (stopped 69 k) (stopped n m) = rw (f, g) at e in cc) (λ g. form_told k r.mode (texts_of t rs) n m (rw (f, g) at e)))
    (λ f. never (rw f at e))

past_more : (k : ℕ) (r : Record) → fields_past k r ≡ k + (if eqb r.kind 2 then 1 else 0)
unfolding fields_past
past_more k r = cases (eqb r.kind 2) (λ e. rw e (omega arith)) (λ e. rw e (omega arith))

parts_stopped : (t : List ℕ) (j : ℕ) (xs : List TopItem) (n k : ℕ) → parts_from t j xs ≡ stopped n k → RefusedField t j xs n k
unfolding parts_from followed fields_in
parts_stopped t j [] n k e = never e
parts_stopped t j (i ∷ xs) n k e = go (part_of t j i.0 i.1) refl (parts_from t (fields_past j i.0) xs) refl (parts_stopped t (fields_past j i.0) xs n k)
  where
    go : (o : Made Part) → part_of t j i.0 i.1 ≡ o → (q : Made (List Part)) → parts_from t (fields_past j i.0) xs ≡ q
        → (parts_from t (fields_past j i.0) xs ≡ stopped n k → RefusedField t (fields_past j i.0) xs n k) → RefusedField t j (i ∷ xs) n k
    go (stopped n' k') f q g ih =
        let z : ◌≡◌ {A = Made (List Part)} (stopped n' k') (stopped n k) = rw f at e in
        let a : n' ≡ n = cc in
        let b : k' ≡ k = cc in
        let c : k' ≡ j = part_told t j i.0 i.1 n' k' f in
        record { before = []; item = i; after = xs; parts = []; items = refl; made_before = refl; told = omega arith; why = ap (λ m. part_of t m i.0 i.1) (sym b ∙ c) ∙ f ∙ ap₂ stopped a b }
    go (made p) f (stopped n' k') g ih =
        let z : ◌≡◌ {A = Made (List Part)} (stopped n' k') (stopped n k) = rw (f, g) at e in
        let r = ih (g ∙ ap₂ stopped (cc) (cc)) in
        let m = past_more j i.0 in
        let d = r.told in
        record {
          before = i ∷ r.before;
          item = r.item;
          after = r.after;
          parts = p ∷ r.parts;
          items = ap (λ l. i ∷ l) r.items;
          made_before = rw (f, r.made_before);
          told = omega arith;
          why = r.why;
        }
    go (made p) f (made ps) g ih = never (rw (f, g) at e)

pub template_stopped : (x : Answer) (n k : ℕ) → template_of x ≡ stopped n k → RefusedField x.text 0 (items_from 0 x.records) n k
unfolding template_of
template_stopped x n k e = parts_stopped x.text 0 (items_from 0 x.records) n k e

-- A REFUSED ROW: those before it have lines, and its number is told
pub record RefusedRow (ps : List Part) (i : ℕ) (rs : List (Option (List Integer))) (n k : ℕ) : Type 0 where
  pub before : List (Option (List Integer))
  pub row : Option (List Integer)
  pub after : List (Option (List Integer))
  pub lines : List (List ℕ)
  pub rows : rs ≡ before ++ (row ∷ after)
  pub made_before : lines_from ps i before ≡ made lines
  pub told : k ≡ i + length before
  pub why : row_made ps k row ≡ stopped n k

row_told : (ps : List Part) (i : ℕ) (r : Option (List Integer)) (n k : ℕ) → row_made ps i r ≡ stopped n k → k ≡ i
unfolding row_made
row_told ps i none n k e = cc
row_told ps i (some vs) n k e =
    cases (eqb (length vs) (field_count ps))
    (λ f.
    cases (all_in_range vs) (λ g. never (rw (f, g) at e))
    (λ g. let z : ◌≡◌ {A = Made (List ℕ)} (stopped 72 i) (stopped n k) = rw (f, g) at e in cc))
    (λ f. let z : ◌≡◌ {A = Made (List ℕ)} (stopped 71 i) (stopped n k) = rw f at e in cc)

pub lines_stopped : (ps : List Part) (i : ℕ) (rs : List (Option (List Integer))) (n k : ℕ) → lines_from ps i rs ≡ stopped n k → RefusedRow ps i rs n k
unfolding lines_from followed
lines_stopped ps i [] n k e = never e
lines_stopped ps i (r ∷ rs) n k e = go (row_made ps i r) refl (lines_from ps (suc i) rs) refl (lines_stopped ps (suc i) rs n k)
  where
    go : (o : Made (List ℕ)) → row_made ps i r ≡ o → (q : Made (List (List ℕ))) → lines_from ps (suc i) rs ≡ q
        → (lines_from ps (suc i) rs ≡ stopped n k → RefusedRow ps (suc i) rs n k) → RefusedRow ps i (r ∷ rs) n k
    go (stopped n' k') f q g ih =
        let z : ◌≡◌ {A = Made (List (List ℕ))} (stopped n' k') (stopped n k) = rw f at e in
        let a : n' ≡ n = cc in
        let b : k' ≡ k = cc in
        let c : k' ≡ i = row_told ps i r n' k' f in
        record { before = []; row = r; after = rs; lines = []; rows = refl; made_before = refl; told = omega arith; why = ap (λ m. row_made ps m r) (sym b ∙ c) ∙ f ∙ ap₂ stopped a b }
    go (made l) f (stopped n' k') g ih =
        let z : ◌≡◌ {A = Made (List (List ℕ))} (stopped n' k') (stopped n k) = rw (f, g) at e in
        let s = ih (g ∙ ap₂ stopped (cc) (cc)) in
        let d = s.told in
        record {
          before = r ∷ s.before;
          row = s.row;
          after = s.after;
          lines = l ∷ s.lines;
          rows = ap (λ x. r ∷ x) s.rows;
          made_before = rw (f, s.made_before);
          told = omega arith;
          why = s.why;
        }
    go (made l) f (made ls) g ih = never (rw (f, g) at e)
