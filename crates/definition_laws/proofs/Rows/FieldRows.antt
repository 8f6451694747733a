-- THE ROWS OF AN ACCEPTED LIST ARE ITS FIELDS, in record order. Assumes nothing.
use Rattle.std.specs.Prelude.{if◌then◌else◌}
use mathlib.Core.Path.{◌≡◌, refl, sym, ◌∙◌, ap, ap₂}
use mathlib.Core.Bool.{Bool, true, false}
use mathlib.Core.List.{List, [], ◌∷◌, ◌++◌, map}
use mathlib.Core.Option.{Option, none, some}
use Prim.Native.Nat.{ℕ, zero, suc, ◌+◌}
use native.Mathlib.Omega.{arith}
use borrow.Author.Tests.{ne_eqb}
use lib.Dec.{eqb}
use lib.ListN.{length}
use Rattle.definition.specs.Numbers.{is_fstring, is_bytes}
use Rattle.definition.specs.Escapes.{Naming, Read, got, refused}
use Rattle.definition.specs.Body.{Piece, literal, field, spec, string_n, enough, alone, read_body}
use Rattle.definition.specs.Records.{Role, top, raw, inner, touching, covers, Item, item, item_of, glue, merge, both_items, merged, record_at, laid, cover, Answer, answer_of}
use Rattle.definition.specs.Entry.{Literal, place_of, body, Refusal, first_start, entry}
use Rattle.definition.specs.Reading.{Outcome, accepts, refuses, all_chars, refusal_in, read_literal, and_then, read_from, sort_of, u_mark, last_end, answered, read}
use Rattle.definition.specs.Rows.{Row, sign_at, signs_at, field_rows, pieces_of, literal_rows, all_rows, row_field, record_fields}
use Rattle.definition.proofs.Moves.CharLaws.{no}
use Rattle.definition_laws.proofs.Join.Seam.{glue_true, glue_false}
use Rattle.definition_laws.proofs.Join.Laid.{item_role}
use Rattle.definition_laws.proofs.Rows.SpecLaws.{Spelt, parts_by_colon, body_spelt}

-- the same of items
abbrev item_field : Item → List (List ℕ) → List (List ℕ)
item_field x r = if eqb x.kind 2 then (x.start ∷ x.place ∷ length x.text ∷ x.mode ∷ x.parts ∷ []) ∷ r else r

abbrev item_fields : List Item → List (List ℕ)
item_fields [] = []
item_fields (x ∷ xs) = item_field x (item_fields xs)

-- a field is no record that touches others or covers the whole call
abbrev Apart : Item → Type 0
Apart x = covers x.role ≡ true → eqb x.kind 2 ≡ false

abbrev AllApart : List Item → Type 0
AllApart [] = Unit {0}
AllApart (x ∷ xs) = Apart x × AllApart xs

touching_covers : (a b : Role) → touching a b ≡ true → (covers a ≡ true) × (covers b ≡ true)
unfolding touching covers
touching_covers top top e = (refl, refl)
touching_covers top raw e = no e
touching_covers top inner e = no e
touching_covers raw top e = no e
touching_covers raw raw e = (refl, refl)
touching_covers raw inner e = no e
touching_covers inner b e = no e

glue_fields : (a : Item) (bs : List Item) → Apart a → AllApart bs → (item_fields (glue item_role both_items a bs) ≡ item_fields (a ∷ bs)) × AllApart (glue item_role both_items a bs)
unfolding glue both_items
glue_fields a [] p q = (refl, (p, tt))
glue_fields a (b ∷ bs) p q = go (touching a.role b.role) refl
  where
    go : (t : Bool) → touching a.role b.role ≡ t → (item_fields (glue item_role both_items a (b ∷ bs)) ≡ item_fields (a ∷ b ∷ bs)) × AllApart (glue item_role both_items a (b ∷ bs))
    go true t =
        let c = touching_covers a.role b.role t in
        rw (glue_true item_role both_items a b bs t, p c.0, q.0 c.1) (refl, ((λ e. refl), q.1))
    go false t = rw (glue_false item_role both_items a b bs t) (refl, (p, q))

merged_fields : (xs : List Item) → AllApart xs → (item_fields (merged xs) ≡ item_fields xs) × AllApart (merged xs)
unfolding merged merge
merged_fields [] p = (refl, tt)
merged_fields (x ∷ xs) p =
    let h = merged_fields xs p.1 in
    let g = glue_fields x (merge item_role both_items xs) p.0 h.1 in
    (g.0 ∙ ap (item_field x) h.0, g.1)

laid_fields : (s e u n : ℕ) (xs : List Item) → AllApart xs → record_fields (map (cover s e u) (laid n xs)) ≡ item_fields xs
unfolding laid record_fields cover record_at
laid_fields s e u n [] p = refl
laid_fields s e u n (x ∷ xs) p = go (laid_fields s e u (n + length x.text) xs p.1) (covers x.role) refl
  where
    go : record_fields (map (cover s e u) (laid (n + length x.text) xs)) ≡ item_fields xs → (t : Bool) → covers x.role ≡ t → record_fields (map (cover s e u) (laid n (x ∷ xs))) ≡ item_fields (x ∷ xs)
    go ih true t = rw (p.0 t) ih
    go ih false t = rw (t, ih)

-- THE FIELDS OF AN ANSWER are those of its items
answer_fields : (s : List ℕ) (ls : List Literal) (xs : List Item) → AllApart xs → record_fields (answer_of (sort_of ls) (u_mark ls) (first_start ls) (last_end 0 ls) (all_chars s ls) xs).records ≡ item_fields xs
unfolding answer_of
answer_fields s ls xs p =
    let h = merged_fields xs p in laid_fields (first_start ls) (last_end 0 ls) (u_mark ls) 0 (merged xs) h.1 ∙ h.0

-- items whose fields are so many rows
abbrev Same : List Item → List Row → Type 0
Same xs rs = AllApart xs × (item_fields xs ≡ map row_field rs)

-- of a literal's pieces they are its rows
module _ (kind start end base : ℕ) where
  abbrev of : Piece → Item
  of = item_of kind start end base

  piece_apart : (p : Piece) → Apart (of p)
  unfolding item_of item covers
  piece_apart (literal zero t) = go (is_bytes kind)
    where
      go : (b : Bool) → Apart (if b then item raw 4 t start end 0 0 0 else item top 1 t start end 0 0 0)
      go true e = refl
      go false e = refl
  piece_apart (literal (suc d) t) = λ e. refl
  piece_apart (field d e c n i g) = λ e. no e
  piece_apart (spec n) = λ e. refl

  same_colon : (j : ℕ) → eqb (sign_at base j) 0 ≡ eqb j 0
  unfolding sign_at
  same_colon zero = refl
  same_colon (suc j) = ne_eqb (base + suc j) 0 (λ e. omega arith) ∙ sym (ne_eqb (suc j) 0 (λ e. omega arith))

  pieces_same : (b : List ℕ) (ps : List Piece) → Spelt b ps → Same (map of ps) (field_rows start base ps)
  unfolding field_rows item_of item row_field signs_at
  pieces_same b [] s = (tt, refl)
  pieces_same b (literal zero t ∷ ps) s = let h = pieces_same b ps s in ((piece_apart (literal zero t), h.0), go h.1 (is_bytes kind) refl)
    where
      go : item_fields (map of ps) ≡ map row_field (field_rows start base ps) → (b : Bool) → is_bytes kind ≡ b → item_fields (map of (literal zero t ∷ ps)) ≡ map row_field (field_rows start base ps)
      go ih true e = rw e ih
      go ih false e = rw e ih
  pieces_same b (literal (suc d) t ∷ ps) s = let h = pieces_same b ps s in ((piece_apart (literal (suc d) t), h.0), h.1)
  pieces_same b (field d e c n i g ∷ ps) s =
      let h = pieces_same b ps s.1 in
      let k : n ≡ (if eqb (sign_at base g.colon) 0 then 0 else 1) = rw (same_colon g.colon) (parts_by_colon b g s.0) in
      ((piece_apart (field d e c n i g), h.0), ap₂ (λ m r. (start ∷ (base + i) ∷ length e ∷ c ∷ m ∷ []) ∷ r) k h.1)
  pieces_same b (spec n ∷ ps) s = let h = pieces_same b ps s in ((piece_apart (spec n), h.0), h.1)

items_append : (xs ys : List Item) → item_fields (xs ++ ys) ≡ item_fields xs ++ item_fields ys
items_append [] ys = refl
items_append (x ∷ xs) ys = go (items_append xs ys) (eqb x.kind 2) refl
  where
    go : item_fields (xs ++ ys) ≡ item_fields xs ++ item_fields ys → (t : Bool) → eqb x.kind 2 ≡ t → item_fields (x ∷ xs ++ ys) ≡ item_fields (x ∷ xs) ++ item_fields ys
    go ih true t = rw t (ap (λ r. (x.start ∷ x.place ∷ length x.text ∷ x.mode ∷ x.parts ∷ []) ∷ r) ih)
    go ih false t = rw t ih

apart_append : (xs ys : List Item) → AllApart xs → AllApart ys → AllApart (xs ++ ys)
apart_append [] ys p q = q
apart_append (x ∷ xs) ys p q = (p.0, apart_append xs ys p.1 q)

rows_append : (xs ys : List Row) → map row_field (xs ++ ys) ≡ map row_field xs ++ map row_field ys
rows_append [] ys = refl
rows_append (x ∷ xs) ys = ap (λ r. row_field x ∷ r) (rows_append xs ys)

both_same : (xs ys : List Item) (ps qs : List Row) → Same xs ps → Same ys qs → Same (xs ++ ys) (ps ++ qs)
both_same xs ys ps qs h k =
    (apart_append xs ys h.0 k.0, items_append xs ys ∙ ap₂ (λ a b. a ++ b) h.1 k.1 ∙ sym (rows_append ps qs))

-- an outcome is one or the other
pub never : {P A : Type 0} (r : Refusal) (x : A) → ◌≡◌ {A = Outcome A} (refuses r) (accepts x) → P
never r x e = let z : ◌≡◌ {A = ℕ} 0 1 = cc in absurd (omega arith)

module _ (look : Naming) (s : List ℕ) where
  literal_items : (i : ℕ) (l : Literal) (xs : List Item) → read_literal look s i l ≡ accepts xs → Same xs (literal_rows look s l)
  unfolding read_literal pieces_of literal_rows
  literal_items i l xs e = go (read_body look l.kind (body s l)) refl
    where
      go : (r : Read (List Piece)) → read_body look l.kind (body s l) ≡ r → Same xs (literal_rows look s l)
      go (got ps j) f =
          let g : ◌≡◌ {A = Outcome (List Item)} (accepts (map (item_of l.kind l.start l.end (place_of l 0)) ps)) (accepts xs) = rw (f, read_literal) at e in
          let h : xs ≡ map (item_of l.kind l.start l.end (place_of l 0)) ps = cc in
          rw (h, f) (pieces_same l.kind l.start l.end (place_of l 0) (body s l) ps (body_spelt look l.kind (body s l) ps j f))
      go (refused x) f = never (refusal_in s i l x) xs (rw (f, read_literal) at e)

  pub then_accepts : {P : Type 0} (o p : Outcome (List Item)) (xs : List Item) → and_then o p ≡ accepts xs
      → ((ys zs : List Item) → o ≡ accepts ys → p ≡ accepts zs → xs ≡ ys ++ zs → P) → P
  unfolding and_then
  then_accepts (refuses r) p xs e f = never r xs e
  then_accepts (accepts ys) (refuses r) xs e f = never r xs e
  then_accepts (accepts ys) (accepts zs) xs e f = f ys zs refl refl cc

  list_items : (i : ℕ) (ls : List Literal) (xs : List Item) → read_from look s i ls ≡ accepts xs → Same xs (all_rows look s ls)
  unfolding read_from all_rows
  list_items i [] xs e = let h : xs ≡ [] = cc in rw h (tt, refl)
  list_items i (l ∷ ls) xs e =
      then_accepts (read_literal look s i l) (read_from look s (suc i) ls) xs e (λ ys zs f g h.
      rw h (both_same ys zs (literal_rows look s l) (all_rows look s ls) (literal_items i l ys f) (list_items (suc i) ls zs g)))

  -- AN ACCEPTED LIST HAS THE FIELDS OF ITS ROWS, in order
  pub list_fields : (ls : List Literal) (x : Answer) → read look s ls ≡ accepts x → record_fields x.records ≡ map row_field (all_rows look s ls)
  unfolding read answered
  list_fields ls x e = go (entry s ls) refl
    where
      ended : (o : Outcome (List Item)) → read_from look s 0 ls ≡ o → answered s ls o ≡ accepts x → record_fields x.records ≡ map row_field (all_rows look s ls)
      ended (refuses r) f g = let z : ◌≡◌ {A = ℕ} 0 1 = cc in absurd (omega arith)
      ended (accepts xs) f g =
          let h : x ≡ answer_of (sort_of ls) (u_mark ls) (first_start ls) (last_end 0 ls) (all_chars s ls) xs = cc in
          let k = list_items 0 ls xs f in
          rw h (answer_fields s ls xs k.0 ∙ k.1)

      go : (c : Option Refusal) → entry s ls ≡ c → record_fields x.records ≡ map row_field (all_rows look s ls)
      go (some r) p = never r x (rw (p, read) at e)
      go none p = ended (read_from look s 0 ls) refl (rw (p, read) at e)

  -- no kind but the f-strings' has a field
  pub others_none : (l : Literal) → is_fstring l.kind ≡ false → literal_rows look s l ≡ []
  unfolding read_body field_rows pieces_of alone literal_rows
  others_none l e = rw (e, read_body) (go (string_n look (enough (body s l)) l.kind (body s l) 0 []))
    where
      go : (r : Read (List ℕ)) → field_rows l.start (place_of l 0) (pieces_of (alone r)) ≡ []
      go (got t j) = refl
      go (refused x) = refl
