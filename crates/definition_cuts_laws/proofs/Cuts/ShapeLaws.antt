-- What is compared of readings: kinds, texts, conversions and parts of records are those of their items, and of joined readings those of both. Assumes nothing.
use Rattle.std.specs.Prelude.{if◌then◌else◌}
use mathlib.Core.Path.{◌≡◌, refl, sym, ◌∙◌, ap, ap₂, subst}
use mathlib.Core.Bool.{Bool, true, false, ◌&&◌}
use mathlib.Core.List.{List, [], ◌∷◌, ◌++◌, map, map-append, append_assoc}
use Prim.Native.Nat.{ℕ, zero, suc, ◌+◌, ◌-◌}
use native.Mathlib.Omega.{arith}
use borrow.Author.Tests.{eqb-true, eq-eqb}
use lib.Dec.{eqb}
use lib.ListN.{length, length-append}
use lib.Seq.{take-append_seam, drop-append_seam}
use Rattle.definition.specs.Chars.{part, same}
use Rattle.definition.specs.Body.{Piece, literal, field, spec}
use Rattle.definition.specs.Records.{top, inner, touching, covers, Item, item, item_of, Record, glue, merge, both_items, merged, texts, record_at, laid, cover, Sort, Answer, answer_of}
use Rattle.definition.specs.Join.{seam, join_sort, join}
use Rattle.definition_cuts.specs.Cuts.{conversion, same_record, same_records}
use Rattle.definition.proofs.Moves.CharLaws.{no, cases}
use Rattle.definition_laws.proofs.Moves.Cases.{and_both}
use Rattle.definition_laws.proofs.Join.Seam.{glue_true, glue_false, merge_append, map_glue}
use Rattle.definition_laws.proofs.Join.Laid.{item_role, items_assoc, answer_append, texts_merged}
use Rattle.definition_cuts_laws.proofs.Windows.WindowFields.{bare}
use Rattle.definition_cuts_laws.proofs.Tokens.TokenSteps.{norm, norm_append, Eq}

-- what is compared of a record, and of an item
pub record Shape : Type 0 where
  pub kind : ℕ
  pub text : List ℕ
  pub conversion : ℕ
  pub parts : ℕ

abbrev shape_at : List ℕ → Record → Shape
shape_at text r = record { kind = r.kind; text = part text r.offset (r.offset + r.size); conversion = conversion r; parts = r.parts }

abbrev pub shape : Item → Shape
shape x = record { kind = x.kind; text = x.text; conversion = if eqb x.kind 2 then x.mode else 0; parts = x.parts }

-- two texts that are the same
pub same_refl : (t : List ℕ) → same t t ≡ true
unfolding same
same_refl [] = refl
same_refl (x ∷ t) = rw (eq-eqb x x refl) (same_refl t)

pub same_true : (t u : List ℕ) → same t u ≡ true → t ≡ u
unfolding same
same_true [] [] e = refl
same_true [] (y ∷ u) e = no e
same_true (x ∷ t) [] e = no e
same_true (x ∷ t) (y ∷ u) e = let b = and_both (eqb x y) (same t u) e in ap₂ (λ (a : ℕ) (l : List ℕ). a ∷ l) (eqb-true x y b.0) (same_true t u b.1)

-- records that are the same have one list of shapes, and the other way round
pub same_shapes : (t t' : List ℕ) (rs rs' : List Record) → same_records t t' rs rs' ≡ true → map (shape_at t) rs ≡ map (shape_at t') rs'
unfolding same_records same_record
same_shapes t t' [] [] e = refl
same_shapes t t' [] (r ∷ rs) e = no e
same_shapes t t' (r ∷ rs) [] e = no e
same_shapes t t' (r ∷ rs) (r' ∷ rs') e =
    let K = eqb r.kind r'.kind in
    let T = same (part t r.offset (r.offset + r.size)) (part t' r'.offset (r'.offset + r'.size)) in
    let C = eqb (conversion r) (conversion r') in
    let P = eqb r.parts r'.parts in
    let a = and_both (K && T && C && P) (same_records t t' rs rs') e in
    let b = and_both (K && T && C) P a.0 in
    let c = and_both (K && T) C b.0 in
    let d = and_both K T c.0 in
    let k = eqb-true r.kind r'.kind d.0 in
    let x = same_true (part t r.offset (r.offset + r.size)) (part t' r'.offset (r'.offset + r'.size)) d.1 in
    let y = eqb-true (conversion r) (conversion r') c.1 in
    let z = eqb-true r.parts r'.parts b.1 in
    λ i. record { kind = k i; text = x i; conversion = y i; parts = z i } ∷ same_shapes t t' rs rs' a.1 i

pub heads : {A : Type 0} (a b : A) (l m : List A) → ◌≡◌ {A = List A} (a ∷ l) (b ∷ m) → a ≡ b
heads a b l m e = cc

pub tails : {A : Type 0} (a b : A) (l m : List A) → ◌≡◌ {A = List A} (a ∷ l) (b ∷ m) → l ≡ m
tails a b l m e = cc

pub shapes_same : (t t' : List ℕ) (rs rs' : List Record) → map (shape_at t) rs ≡ map (shape_at t') rs' → same_records t t' rs rs' ≡ true
unfolding same_records same_record
shapes_same t t' [] [] e = refl
shapes_same t t' [] (r ∷ rs) e = let z : ◌≡◌ {A = ℕ} 0 1 = cc in absurd (omega arith)
shapes_same t t' (r ∷ rs) [] e = let z : ◌≡◌ {A = ℕ} 0 1 = cc in absurd (omega arith)
shapes_same t t' (r ∷ rs) (r' ∷ rs') e =
    let h = heads (shape_at t r) (shape_at t' r') (map (shape_at t) rs) (map (shape_at t') rs') e in
    let k : r.kind ≡ r'.kind = ap (λ x. x.kind) h in
    let x : part t r.offset (r.offset + r.size) ≡ part t' r'.offset (r'.offset + r'.size) = ap (λ x. x.text) h in
    let y : conversion r ≡ conversion r' = ap (λ x. x.conversion) h in
    let z : r.parts ≡ r'.parts = ap (λ x. x.parts) h in
    let xs : same (part t r.offset (r.offset + r.size)) (part t' r'.offset (r'.offset + r'.size)) ≡ true = ap (λ l. same (part t r.offset (r.offset + r.size)) l) (sym x) ∙ same_refl (part t r.offset (r.offset + r.size)) in
    rw (eq-eqb r.kind r'.kind k, xs, eq-eqb (conversion r) (conversion r') y, eq-eqb r.parts r'.parts z)
    (shapes_same t t' rs rs' (tails (shape_at t r) (shape_at t' r') (map (shape_at t) rs) (map (shape_at t') rs') e))

-- a field carries no whole range
abbrev Good : Item → Type 0
Good x = (eqb x.kind 2 && covers x.role) ≡ false

abbrev pub AllGood : List Item → Type 0
AllGood [] = Unit {0}
AllGood (x ∷ xs) = Good x × AllGood xs

pub good_append : (xs ys : List Item) → AllGood xs → AllGood ys → AllGood (xs ++ ys)
good_append [] ys h k = k
good_append (x ∷ xs) ys h k = (h.0, good_append xs ys h.1 k)

good_glue : (a : Item) (ys : List Item) → Good a → AllGood ys → AllGood (glue item_role both_items a ys)
unfolding glue both_items
good_glue a [] h k = (h, tt)
good_glue a (b ∷ bs) h k = go (touching a.role b.role) refl
  where
    go : (t : Bool) → touching a.role b.role ≡ t → AllGood (glue item_role both_items a (b ∷ bs))
    go true t = subst AllGood (sym (glue_true item_role both_items a b bs t)) (h, k.1)
    go false t = subst AllGood (sym (glue_false item_role both_items a b bs t)) (h, k)

good_merged : (xs : List Item) → AllGood xs → AllGood (merged xs)
unfolding merged merge
good_merged [] h = tt
good_merged (x ∷ xs) h = good_glue x (merge item_role both_items xs) h.0 (good_merged xs h.1)

pub good_pieces : (start end base : ℕ) (ps : List Piece) → AllGood (map (item_of 1 start end base) ps)
unfolding item_of item covers
good_pieces start end base [] = tt
good_pieces start end base (literal zero t ∷ ps) = (refl, good_pieces start end base ps)
good_pieces start end base (literal (suc d) t ∷ ps) = (refl, good_pieces start end base ps)
good_pieces start end base (field d e c n i g ∷ ps) = (refl, good_pieces start end base ps)
good_pieces start end base (spec n ∷ ps) = (refl, good_pieces start end base ps)

-- a text in the middle of another
middle : (pre t post : List ℕ) → part (pre ++ (t ++ post)) (length pre) (length pre + length t) ≡ t
middle pre t post =
    let e : length pre + length t - length pre ≡ length t = omega arith in
    rw (e, drop-append_seam pre (t ++ post)) (take-append_seam t post)

covered : (s e u n : ℕ) (x : Item) → Good x → conversion (cover s e u (record_at n x)) ≡ (if eqb x.kind 2 then x.mode else 0)
unfolding conversion cover record_at
covered s e u n x h =
    cases (eqb x.kind 2)
    (λ t. let c : covers x.role ≡ false = rw t at h in rw (t, c) refl)
    (λ t. rw t refl)

laid_shapes : (s e u : ℕ) (pre : List ℕ) (xs : List Item) → AllGood xs → map (shape_at (pre ++ texts xs)) (map (cover s e u) (laid (length pre) xs)) ≡ map shape xs
unfolding laid texts cover record_at
laid_shapes s e u pre [] h = refl
laid_shapes s e u pre (x ∷ xs) h =
    ap₂ (λ (a : Shape) (l : List Shape). a ∷ l) first (rest (laid_shapes s e u (pre ++ x.text) xs h.1))
  where
    T : List ℕ
    T = pre ++ (x.text ++ texts xs)

    first : shape_at T (cover s e u (record_at (length pre) x)) ≡ shape x
    first = λ i. record { kind = x.kind; text = middle pre x.text (texts xs) i; conversion = covered s e u (length pre) x h.0 i; parts = x.parts }

    rest : map (shape_at ((pre ++ x.text) ++ texts xs)) (map (cover s e u) (laid (length (pre ++ x.text)) xs)) ≡ map shape xs
        → map (shape_at T) (map (cover s e u) (laid (length pre + length x.text) xs)) ≡ map shape xs
    rest ih =
        ap₂ (λ (n : ℕ) (t : List ℕ). map (shape_at t) (map (cover s e u) (laid n xs))) (sym (length-append pre x.text)) (sym (append_assoc pre x.text (texts xs)))
        ∙ ih

pub answer_shapes : (q : Sort) (u s e c : ℕ) (xs : List Item) → AllGood xs → map (shape_at (answer_of q u s e c xs).text) (answer_of q u s e c xs).records ≡ map shape (merged xs)
unfolding answer_of
answer_shapes q u s e c xs h = laid_shapes s e u [] (merged xs) (good_merged xs h)

-- an item without its range and place
abbrev pub bare_item : Item → Item
bare_item x = record { role = x.role; kind = x.kind; text = x.text; start = 0; end = 0; mode = x.mode; parts = x.parts; place = 0 }

map_merge : (xs : List Item) → map bare_item (merged xs) ≡ merge item_role both_items (map bare_item xs)
unfolding merged merge both_items
map_merge [] = refl
map_merge (x ∷ xs) =
    map_glue item_role both_items item_role both_items bare_item (λ a. refl) (λ a b. refl) x (merge item_role both_items xs)
    ∙ ap (glue item_role both_items (bare_item x)) (map_merge xs)

map_shape : (xs : List Item) → map shape (map bare_item xs) ≡ map shape xs
map_shape [] = refl
map_shape (x ∷ xs) = ap (λ l. shape x ∷ l) (map_shape xs)

pub bare_pieces : (start end base : ℕ) (ps : List Piece) → map bare_item (map (item_of 1 start end base) ps) ≡ map (item_of 1 0 0 0) (map bare ps)
unfolding item_of item
bare_pieces start end base [] = refl
bare_pieces start end base (literal zero t ∷ ps) = ap (λ l. item top 1 t 0 0 0 0 0 ∷ l) (bare_pieces start end base ps)
bare_pieces start end base (literal (suc d) t ∷ ps) = ap (λ l. item inner 1 t 0 0 0 0 0 ∷ l) (bare_pieces start end base ps)
bare_pieces start end base (field d e c n i g ∷ ps) = ap (λ l. item inner 2 e 0 0 c n 0 ∷ l) (bare_pieces start end base ps)
bare_pieces start end base (spec n ∷ ps) = ap (λ l. item inner 3 [] 0 0 0 n 0 ∷ l) (bare_pieces start end base ps)

-- AN ANSWER THAT HAS THESE PIECES, but for places
pub record Has (x : Answer) (ps : List Piece) : Type 0 where
  pub sort : Sort
  pub u : ℕ
  pub start : ℕ
  pub end : ℕ
  pub chars : ℕ
  pub items : List Item
  pub is : x ≡ answer_of sort u start end chars items
  pub good : AllGood items
  pub same_items : merge item_role both_items (map bare_item items) ≡ norm ps

-- the join has both
pub has_join : (x y : Answer) (ps qs : List Piece) → Has x ps → Has y qs → Has (join x y) (ps ++ qs)
unfolding both_items
has_join x y ps qs h k = record {
  sort = join_sort h.sort k.sort;
  u = h.u;
  start = h.start;
  end = k.end;
  chars = h.chars + k.chars;
  items = h.items ++ k.items;
  is = ap₂ join h.is k.is ∙ sym (answer_append h.sort k.sort h.u k.u h.start k.start h.end k.end h.chars k.chars h.items k.items);
  good = good_append h.items k.items h.good k.good;
  same_items = ap (merge item_role both_items) (map-append bare_item h.items k.items) ∙ merge_append item_role both_items (λ a b. refl) items_assoc (map bare_item h.items) (map bare_item k.items) ∙ ap₂ (seam item_role both_items) h.same_items k.same_items ∙ sym (norm_append ps qs);
}

has_shapes : (x : Answer) (ps : List Piece) → Has x ps → map (shape_at x.text) x.records ≡ map shape (norm ps)
has_shapes x ps h =
    ap (λ (y : Answer). map (shape_at y.text) y.records) h.is
    ∙ answer_shapes h.sort h.u h.start h.end h.chars h.items h.good
    ∙ sym (map_shape (merged h.items))
    ∙ ap (map shape) (map_merge h.items ∙ h.same_items)

-- EQUAL if the pieces are, and if they are equal the texts are
pub has_equal : (x y : Answer) (ps qs : List Piece) → Has x ps → Has y qs → Eq ps qs → same_records x.text y.text x.records y.records ≡ true
has_equal x y ps qs h k e = shapes_same x.text y.text x.records y.records (has_shapes x ps h ∙ ap (map shape) e ∙ sym (has_shapes y qs k))

-- the text of pieces
abbrev pub text_of : List Piece → List ℕ
text_of [] = []
text_of (literal d t ∷ ps) = t ++ text_of ps
text_of (field d e c n i g ∷ ps) = e ++ text_of ps
text_of (spec n ∷ ps) = text_of ps

shape_texts : (xs ys : List Item) → map shape xs ≡ map shape ys → texts xs ≡ texts ys
unfolding texts
shape_texts [] [] e = refl
shape_texts [] (y ∷ ys) e = let z : ◌≡◌ {A = ℕ} 0 1 = cc in absurd (omega arith)
shape_texts (x ∷ xs) [] e = let z : ◌≡◌ {A = ℕ} 0 1 = cc in absurd (omega arith)
shape_texts (x ∷ xs) (y ∷ ys) e =
    let h = heads (shape x) (shape y) (map shape xs) (map shape ys) e in
    ap₂ ◌++◌ (ap (λ z. z.text) h) (shape_texts xs ys (tails (shape x) (shape y) (map shape xs) (map shape ys) e))

pieces_text : (ps : List Piece) → texts (map (item_of 1 0 0 0) (map bare ps)) ≡ text_of ps
unfolding texts item_of item
pieces_text [] = refl
pieces_text (literal zero t ∷ ps) = ap (λ l. t ++ l) (pieces_text ps)
pieces_text (literal (suc d) t ∷ ps) = ap (λ l. t ++ l) (pieces_text ps)
pieces_text (field d e c n i g ∷ ps) = ap (λ l. e ++ l) (pieces_text ps)
pieces_text (spec n ∷ ps) = pieces_text ps

pub norm_text : (ps : List Piece) → texts (norm ps) ≡ text_of ps
unfolding merged
norm_text ps = texts_merged (map (item_of 1 0 0 0) (map bare ps)) ∙ pieces_text ps

pub equal_texts : (x y : Answer) (ps qs : List Piece) → Has x ps → Has y qs → same_records x.text y.text x.records y.records ≡ true → text_of ps ≡ text_of qs
equal_texts x y ps qs h k e =
    sym (norm_text ps)
    ∙ shape_texts (norm ps) (norm qs) (sym (has_shapes x ps h) ∙ same_shapes x.text y.text x.records y.records e ∙ has_shapes y qs k)
    ∙ norm_text qs
