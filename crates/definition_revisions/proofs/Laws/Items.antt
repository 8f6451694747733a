-- THE ITEMS of well-formed records: each is one, and together they are all records in order. Assumes nothing.
use mathlib.Core.Path.{◌≡◌, refl, sym, ◌∙◌, ap}
use mathlib.Core.Bool.{Bool, true, false, ◌&&◌, beq}
use mathlib.Core.List.{List, [], ◌∷◌, ◌++◌, map, append_assoc, append-nil}
use mathlib.Core.Logic.{◌⊎◌, inl, inr}
use Prim.Native.Nat.{ℕ, zero, suc, ◌+◌, ◌≤◌}
use native.Mathlib.Nat.{le_of_suc-le-suc, not-suc-le-zero}
use native.Mathlib.Omega.{arith}
use lib.Dec.{eqb, leb}
use lib.ListN.{length}
use borrow.Author.Tests.{eqb-true, eqb-false, leb-true}
use Rattle.definition.specs.Records.{Record}
use Rattle.definition.specs.Words.{owing, is_conversion, fits, all_fit, has_spec, ordered}
use Rattle.definition_revisions.specs.IsCompared as s
use Rattle.definition_formed.specs.Formed.{Lent, lent_answer, is_formed}
use Rattle.definition_revisions.specs.Revisions.{Shape, shape_of, onto, items_from, items_of}
use Rattle.definition_revisions.specs.IsCompared.{AreItems, AllItems, records_of}
use Rattle.definition.proofs.Moves.CharLaws.{cases}
use Rattle.definition_names.proofs.NameOrder.{never}
use Rattle.definition_revisions.proofs.Laws.Runs.{Items}
use Rattle.definition_formed.proofs.Formed.FormedLaws.{both, is_formed_lem}

-- the items of some shapes, in front of them one that is open; it ends where nothing is owed
unfoldable pub opened : (owed : ℕ) → List Shape → Items
opened zero xs = [] ∷ items_from 0 xs
opened (suc n) xs = items_from (suc n) xs

-- shapes in front of the first item
unfoldable pub onto_all : List Shape → Items → Items
onto_all [] is = is
onto_all (x ∷ xs) is = onto x (onto_all xs is)

pub items_turn : (owed : ℕ) (x : Shape) (xs : List Shape) → items_from owed (x ∷ xs) ≡ onto x (opened (owing owed x.parts) xs)
unfolding items_from opened onto
items_turn owed x xs = go (owing owed x.parts) refl
  where
    go : (n : ℕ) → owing owed x.parts ≡ n → items_from owed (x ∷ xs) ≡ onto x (opened (owing owed x.parts) xs)
    go zero e = rw (e, items_from) refl
    go (suc n) e = rw (e, items_from) refl

pub opened_turn : (n m : ℕ) (x : Shape) (xs : List Shape) → m ≡ n + x.parts → opened (suc n) (x ∷ xs) ≡ onto x (opened m xs)
unfolding opened
opened_turn n m x xs e = let f : owing (suc n) x.parts ≡ m = omega arith in items_turn (suc n) x xs ∙ ap (λ k. onto x (opened k xs)) f

pub onto_append : (xs ys : List Shape) (is : Items) → onto_all (xs ++ ys) is ≡ onto_all xs (onto_all ys is)
unfolding onto_all
onto_append [] ys is = refl
onto_append (x ∷ xs) ys is = ap (onto x) (onto_append xs ys is)

pub onto_first : (xs i : List Shape) (is : Items) → onto_all xs (i ∷ is) ≡ (xs ++ i) ∷ is
unfolding onto_all onto
onto_first [] i is = refl
onto_first (x ∷ xs) i is = rw (onto_first xs i is) refl

-- n items are passed where they are owed
pub items_passed : (n : ℕ) (ps : List Shape) → AreItems n ps → (k : ℕ) (rest : List Shape) → opened (n + k) (ps ++ rest) ≡ onto_all ps (opened k rest)
unfolding onto_all
items_passed n ps s.none k rest = let e : 0 + k ≡ k = omega arith in ap (λ m. opened m rest) e
items_passed n ps (s.alone x m xs p h a) k rest =
    let e : suc m + k ≡ suc (m + k) = omega arith in
    rw e (opened_turn (m + k) (m + k) x (xs ++ rest) (omega arith) ∙ ap (onto x) (items_passed m xs a k rest))
items_passed n ps (s.field x y m qs xs e p f a b) k rest =
    let g : suc m + k ≡ suc (m + k) = omega arith in
    rw (g, append_assoc)
    (opened_turn (m + k) (suc (m + k)) x (y ∷ (qs ++ (xs ++ rest))) (omega arith)
    ∙ ap (onto x)
    (opened_turn (m + k) (y.parts + (m + k)) y (qs ++ (xs ++ rest)) (omega arith)
    ∙ ap (onto y)
    (items_passed y.parts qs a (m + k) (xs ++ rest)
    ∙ ap (onto_all qs) (items_passed m xs b k rest)
    ∙ sym (onto_append qs xs (opened k rest)))))

-- AN ITEM IS THE FIRST of what begins with it
pub items_first : (ps : List Shape) → AreItems 1 ps → (rest : List Shape) → items_from 0 (ps ++ rest) ≡ ps ∷ items_from 0 rest
unfolding opened
items_first [] a rest = elim a [ ]
items_first (x ∷ ps) a rest =
    items_turn 0 x (ps ++ rest) ∙ sym (items_turn 1 x (ps ++ rest)) ∙ items_passed 1 (x ∷ ps) a 0 rest ∙ onto_first (x ∷ ps) [] (items_from 0 rest) ∙ ap (λ i. i ∷ items_from 0 rest) (append-nil (x ∷ ps))

-- THERE IS NO OTHER WAY to cut them
pub items_one : (is : Items) → AllItems is → items_from 0 (records_of is) ≡ is
unfolding items_from records_of
items_one is s.none = refl
items_one is (s.one i is' a b) = items_first i a (records_of is') ∙ ap (λ l. i ∷ l) (items_one is' b)

-- WHAT THE RULES SAY OF A RECORD that is no spec: it has no parts, or it is a field with one
beq_true : (a b : Bool) → beq a b ≡ true → a ≡ b
beq_true true true h = refl
beq_true true false h = never refl h
beq_true false true h = never refl h
beq_true false false h = refl

parts_of_lem : (kind size mode parts place : ℕ) → fits kind size mode parts place ≡ true → eqb kind 3 ≡ false → (parts ≡ 0) ⊎ ((kind ≡ 2) × (parts ≡ 1))
unfolding fits
parts_of_lem kind size mode parts place h n =
    cases (eqb kind 1)
    (λ e. inl (eqb-true parts 0 (both (eqb parts 0) (eqb place 0) (rw e at h)).0))
    (λ e. cases (eqb kind 2)
    (λ f. let p = leb-true parts 1 (both (is_conversion mode) (leb parts 1) (rw (e, f) at h)).1 in
    cases (eqb parts 0) (λ z. inl (eqb-true parts 0 z)) (λ z. inr (eqb-true kind 2 f, let q = eqb-false parts 0 z in one parts p q)))
    (λ f. inl (eqb-true parts 0 (both (eqb kind 4) (eqb parts 0) (both (eqb kind 4 && eqb parts 0) (eqb place 0) (rw (e, f, n) at h)).0).1)))
  where
    one : (m : ℕ) → m ≤ 1 → (m ≡ 0 → ⊥) → m ≡ 1
    one zero p q = absurd (q refl)
    one (suc m) p q = omega arith

order_of : (due : Bool) (owed : ℕ) (r : Record) (rs : List Record) → ordered due owed (r ∷ rs) ≡ true
    → (eqb r.kind 3 ≡ due) × (ordered (has_spec r.kind r.parts) (owing owed r.parts) rs ≡ true)
unfolding ordered
order_of due owed r rs h = let p = both _ _ h in (beq_true (eqb r.kind 3) due (both _ _ p.0).0, p.1)

fit_of : (r : Record) (rs : List Record) → all_fit (r ∷ rs) ≡ true → (fits r.kind r.size r.mode r.parts r.place ≡ true) × (all_fit rs ≡ true)
unfolding all_fit
fit_of r rs h = both _ _ h

module _ (text : List ℕ) where
  abbrev shapes : List Record → List Shape
  shapes = map (shape_of text)

  split_more : {A : Type 0} (a b c d e : List A) → a ≡ b ++ c → c ≡ d ++ e → a ≡ (b ++ d) ++ e
  split_more a b c d e p q = p ∙ ap (λ t. b ++ t) q ∙ sym (append_assoc b d e)

  -- n items in front of records that then owe k
  record Parsed (n k : ℕ) (rs : List Record) : Type 0 where
    before : List Shape
    rest : List Record
    splits : shapes rs ≡ before ++ shapes rest
    items : AreItems n before
    order : ordered false k rest ≡ true
    fit : all_fit rest ≡ true
    less : length rest + n ≤ length rs

  no_spec : (kind parts : ℕ) → parts ≡ 0 → has_spec kind parts ≡ false
  no_spec kind parts e = rw e (go (eqb kind 2))
    where
      go : (b : Bool) → (b && eqb 0 1) ≡ false
      go true = refl
      go false = refl

  abbrev Parses : ℕ → Type 0
  Parses fuel = (n k : ℕ) (rs : List Record) → length rs ≤ fuel → all_fit rs ≡ true → ordered false (n + k) rs ≡ true → Parsed n k rs

  -- a field, its spec, the spec's parts, and n items more
  with_spec : (fuel n k : ℕ) (r : Record) (rs : List Record) → Parses fuel → length rs ≤ fuel → r.kind ≡ 2 → r.parts ≡ 1 → all_fit rs ≡ true → ordered true (suc (n + k)) rs ≡ true
      → Parsed (suc n) k (r ∷ rs)
  unfolding shape_of ordered
  with_spec fuel n k r [] ih l e d f o = absurd (let z = eqb-true (suc (n + k)) 0 o in omega arith)
  with_spec fuel n k r (y ∷ rs) ih l e d f o =
      let p = order_of true (suc (n + k)) y rs o in
      let q = fit_of y rs f in
      let t = eqb-true y.kind 3 p.0 in
      let w : owing (suc (n + k)) y.parts ≡ y.parts + (n + k) = omega arith in
      let u : has_spec y.kind y.parts ≡ false = rw t refl in
      let g = ih y.parts (n + k) rs (omega arith) q.1 (rw (u, w) at p.1) in
      let v = g.less in
      let h = ih n k g.rest (omega arith) g.fit g.order in
      record {
        before = shape_of text r ∷ shape_of text y ∷ (g.before ++ h.before);
        rest = h.rest;
        splits = ap (λ t. shape_of text r ∷ shape_of text y ∷ t) (split_more (shapes rs) g.before (shapes g.rest) h.before (shapes h.rest) g.splits h.splits);
        items = s.field (shape_of text r) (shape_of text y) n g.before h.before e d t g.items h.items;
        order = h.order;
        fit = h.fit;
        less = let z = h.less in omega arith;
      }

  step : (fuel : ℕ) → Parses fuel → Parses (suc fuel)
  unfolding shape_of ordered
  step fuel ih zero k rs l f o = let e : 0 + k ≡ k = omega arith in record { before = []; rest = rs; splits = refl; items = s.none; order = rw e at o; fit = f; less = omega arith }
  step fuel ih (suc n) k [] l f o = absurd (let z = eqb-true (suc n + k) 0 o in omega arith)
  step fuel ih (suc n) k (r ∷ rs) l f o =
      let p = order_of false (suc n + k) r rs o in
      let q = fit_of r rs f in
      elim (parts_of_lem r.kind r.size r.mode r.parts r.place q.0 p.0) [
        | inl e ↦
            let w : owing (suc n + k) r.parts ≡ n + k = omega arith in
            let g = ih n k rs (le_of_suc-le-suc l) q.1 (rw (no_spec r.kind r.parts e, w) at p.1) in
            record {
              before = shape_of text r ∷ g.before;
              rest = g.rest;
              splits = ap (λ t. shape_of text r ∷ t) g.splits;
              items = s.alone (shape_of text r) n g.before e (eqb-false r.kind 3 p.0) g.items;
              order = g.order;
              fit = g.fit;
              less = let h = g.less in omega arith;
            }
        | inr e ↦
            let w : owing (suc n + k) r.parts ≡ suc (n + k) = let z = e.1 in omega arith in
            let u : has_spec r.kind r.parts ≡ true = rw (e.0, e.1) refl in
            with_spec fuel n k r rs ih (le_of_suc-le-suc l) e.0 e.1 q.1 (rw (u, w) at p.1)
      ]

  parse : (fuel : ℕ) → Parses fuel
  unfolding ordered
  parse zero zero k rs l f o = let e : 0 + k ≡ k = omega arith in record { before = []; rest = rs; splits = refl; items = s.none; order = rw e at o; fit = f; less = omega arith }
  parse zero (suc n) k [] l f o = absurd (let z = eqb-true (suc n + k) 0 o in omega arith)
  parse zero (suc n) k (r ∷ rs) l f o = absurd (not-suc-le-zero l)
  parse (suc fuel) n k rs l f o = step fuel (λ n k rs l f o. parse fuel n k rs l f o) n k rs l f o

  -- ALL ITEMS: each is one, and together they are the records in order
  pub record Cut (rs : List Record) : Type 0 where
    pub each : AllItems (items_from 0 (shapes rs))
    pub all : records_of (items_from 0 (shapes rs)) ≡ shapes rs

  cut_first : (rs : List Record) (i : List Shape) (rest : List Record) → shapes rs ≡ i ++ shapes rest → AreItems 1 i → Cut rest → Cut rs
  unfolding records_of
  cut_first rs i rest e a c =
      let f : items_from 0 (shapes rs) ≡ i ∷ items_from 0 (shapes rest) = ap (items_from 0) e ∙ items_first i a (shapes rest) in
      record { each = rw f (s.one i (items_from 0 (shapes rest)) a c.each); all = rw f (ap (λ t. i ++ t) c.all ∙ sym e) }

  abbrev Cuts : ℕ → Type 0
  Cuts fuel = (rs : List Record) → length rs ≤ fuel → all_fit rs ≡ true → ordered false 0 rs ≡ true → Cut rs

  cut_none : Cut []
  unfolding items_from records_of
  cut_none = record { each = s.none; all = refl }

  cut_step : (fuel : ℕ) → Cuts fuel → Cuts (suc fuel)
  unfolding shape_of
  cut_step fuel ih [] l f o = cut_none
  cut_step fuel ih (r ∷ rs) l f o =
      let p = order_of false 0 r rs o in
      let q = fit_of r rs f in
      elim (parts_of_lem r.kind r.size r.mode r.parts r.place q.0 p.0) [
        | inl e ↦
            let w : owing 0 r.parts ≡ 0 = omega arith in
            let a = s.alone (shape_of text r) 0 [] e (eqb-false r.kind 3 p.0) s.none in
            cut_first (r ∷ rs) (shape_of text r ∷ []) rs refl a (ih rs (le_of_suc-le-suc l) q.1 (rw (no_spec r.kind r.parts e, w) at p.1))
        | inr e ↦
            let w : owing 0 r.parts ≡ 1 = let z = e.1 in omega arith in
            let u : has_spec r.kind r.parts ≡ true = rw (e.0, e.1) refl in
            let g = with_spec fuel 0 0 r rs (parse fuel) (le_of_suc-le-suc l) e.0 e.1 q.1 (rw (u, w) at p.1) in
            let v = g.less in
            cut_first (r ∷ rs) g.before g.rest g.splits g.items (ih g.rest (omega arith) g.fit g.order)
      ]

  pub cut : (fuel : ℕ) (rs : List Record) → length rs ≤ fuel → all_fit rs ≡ true → ordered false 0 rs ≡ true → Cut rs
  cut zero [] l f o = cut_none
  cut zero (r ∷ rs) l f o = absurd (not-suc-le-zero l)
  cut (suc fuel) rs l f o = cut_step fuel (λ rs l f o. cut fuel rs l f o) rs l f o

-- its items
pub items_each : (x : Lent) → is_formed x ≡ true → AllItems (items_of x)
unfolding items_of
items_each x h = let f = is_formed_lem x h in (cut (lent_answer x).text (length (lent_answer x).records) (lent_answer x).records (omega arith) f.fit f.order).each

pub items_all : (x : Lent) → is_formed x ≡ true → records_of (items_of x) ≡ map (shape_of (lent_answer x).text) (lent_answer x).records
unfolding items_of
items_all x h = let f = is_formed_lem x h in (cut (lent_answer x).text (length (lent_answer x).records) (lent_answer x).records (omega arith) f.fit f.order).all
