-- THE SPECS OF AN ACCEPTED LIST: as its rows are written in the script and as its records have them, they are the same. Assumes nothing.
use Rattle.std.specs.Prelude.{if◌then◌else◌}
use mathlib.Core.Path.{◌≡◌, refl, sym, ◌∙◌, ap, ap₂}
use mathlib.Core.Bool.{Bool, true, false}
use mathlib.Core.List.{List, [], ◌∷◌, ◌++◌, map, append_assoc}
use Prim.Native.Nat.{ℕ, zero, suc, ◌+◌, ◌-◌, ◌≤◌}
use native.Mathlib.Nat.{zero-add, suc-add, add-sub_cancel_left}
use native.Mathlib.Omega.{arith}
use borrow.Author.Tests.{ne_eqb}
use lib.Dec.{eqb}
use lib.ListN.{length, take, drop, length-append}
use lib.Seq.{take-take, drop-drop, take-append_seam, drop-append_seam}
use Rattle.definition.specs.Numbers.{is_bytes}
use Rattle.definition.specs.Chars.{part}
use Rattle.definition.specs.Escapes.{Naming, Read, got, refused}
use Rattle.definition.specs.Body.{Signs, Piece, literal, field, spec, read_body}
use Rattle.definition.specs.Records.{Role, top, raw, inner, touching, Item, Record, item, item_of, glue, merge, both_items, merged, texts, record_at, laid, cover, Answer, answer_of}
use Rattle.definition.specs.Entry.{Literal, place_of, body, first_start}
use Rattle.definition.specs.Reading.{Outcome, accepts, refusal_in, read_literal, read_from, u_mark, last_end, read}
use Rattle.definition.specs.Rows.{sign_at, signs_at, field_rows, pieces_of, literal_rows, all_rows, FieldSpec, absent, verbatim, nested, braced, written_spec, row_spec, parts_spec, record_spec, record_specs}
use Rattle.definition.proofs.Moves.CharLaws.{no}
use Rattle.definition_laws.proofs.Moves.Moves.{part_short}
use Rattle.definition_laws.proofs.Join.Seam.{glue_true, glue_false}
use Rattle.definition_laws.proofs.Join.Laid.{item_role}
use Rattle.definition_laws.proofs.Join.EntrySplit.{Each}
use Rattle.definition_laws.proofs.Formed.Accepted.{accepted}
use Rattle.definition_laws.proofs.Rows.SignLaws.{Met, After, Signed, body_signed}
use Rattle.definition_laws.proofs.Rows.SpecLaws.{PiecesSay, says_absent, says_empty, says_text, says_field, says_many, Spelt, body_spelt}
use Rattle.definition_laws.proofs.Rows.FieldRows.{never, then_accepts}

-- ITEMS SAY what a field's spec is, after a field of so many parts: a spec and its parts are never joined
data ItemsSay : FieldSpec → ℕ → List Item → Type 0 where
  item_absent : {xs : List Item} → ItemsSay absent 0 xs
  item_empty : {y : Item} {ys : List Item} → y.role ≡ inner → y.parts ≡ 0 → ItemsSay (verbatim []) 1 (y ∷ ys)
  item_text : {y z : Item} {zs : List Item} → y.role ≡ inner → y.parts ≡ 1 → z.role ≡ inner → z.kind ≡ 1 → ItemsSay (verbatim z.text) 1 (y ∷ z ∷ zs)
  item_field_lem : {y z : Item} {zs : List Item} → y.role ≡ inner → y.parts ≡ 1 → z.role ≡ inner → z.kind ≡ 2 → ItemsSay nested 1 (y ∷ z ∷ zs)
  item_many : {y : Item} {ys : List Item} (m : ℕ) → y.role ≡ inner → y.parts ≡ suc (suc m) → ItemsSay nested 1 (y ∷ ys)

-- and of every field among items
data AllSay : List FieldSpec → List Item → Type 0 where
  nothing : AllSay [] []
  other : {x : Item} {vs : List FieldSpec} {xs : List Item} → eqb x.kind 2 ≡ false → AllSay vs xs → AllSay vs (x ∷ xs)
  one : {x : Item} {v : FieldSpec} {vs : List FieldSpec} {xs : List Item} → eqb x.kind 2 ≡ true → x.role ≡ inner → ItemsSay v x.parts xs → AllSay vs xs → AllSay (v ∷ vs) (x ∷ xs)

items_append : {v : FieldSpec} {n : ℕ} {xs : List Item} (ys : List Item) → ItemsSay v n xs → ItemsSay v n (xs ++ ys)
items_append ys item_absent = item_absent
items_append ys (item_empty r p) = item_empty r p
items_append ys (item_text r p q k) = item_text r p q k
items_append ys (item_field_lem r p q k) = item_field_lem r p q k
items_append ys (item_many m r p) = item_many m r p

say_append : {vs ws : List FieldSpec} {xs ys : List Item} → AllSay vs xs → AllSay ws ys → AllSay (vs ++ ws) (xs ++ ys)
say_append nothing k = k
say_append (other e h) k = other e (say_append h k)
say_append {ys = ys} (one e r s h) k = one e r (items_append ys s) (say_append h k)

-- MERGED: what is inner stays apart
glue_inner : (x : Item) (ys : List Item) → x.role ≡ inner → glue item_role both_items x ys ≡ x ∷ ys
unfolding glue touching
glue_inner x [] r = refl
glue_inner x (y ∷ ys) r = glue_false item_role both_items x y ys (rw r refl)

items_merged : {v : FieldSpec} {n : ℕ} {xs : List Item} → ItemsSay v n xs → ItemsSay v n (merged xs)
unfolding merged merge
items_merged item_absent = item_absent
items_merged {xs = y ∷ ys} (item_empty r p) = rw (glue_inner y (merged ys) r) (item_empty r p)
items_merged {xs = y ∷ z ∷ zs} (item_text r p q k) = rw (glue_inner y (merged (z ∷ zs)) r, glue_inner z (merged zs) q) (item_text r p q k)
items_merged {xs = y ∷ z ∷ zs} (item_field_lem r p q k) = rw (glue_inner y (merged (z ∷ zs)) r, glue_inner z (merged zs) q) (item_field_lem r p q k)
items_merged {xs = y ∷ ys} (item_many m r p) = rw (glue_inner y (merged ys) r) (item_many m r p)

-- two that touch are no fields
inner_no : (r : Role) → touching r inner ≡ true → ⊥
unfolding touching
inner_no top t = no t
inner_no raw t = no t
inner_no inner t = no t

say_both : (x : Item) {vs : List FieldSpec} {y : Item} {ys : List Item} → eqb x.kind 2 ≡ false → touching x.role y.role ≡ true → AllSay vs (y ∷ ys) → AllSay vs (both_items x y ∷ ys)
unfolding both_items
say_both x e t (other f k) = other e k
say_both x e t (one f r s k) = absurd (inner_no x.role (rw r at t))

say_glue : (x : Item) (vs : List FieldSpec) (ys : List Item) → eqb x.kind 2 ≡ false → AllSay vs ys → AllSay vs (glue item_role both_items x ys)
unfolding glue
say_glue x vs [] e h = other e h
say_glue x vs (y ∷ ys) e h = go (touching x.role y.role) refl
  where
    go : (t : Bool) → touching x.role y.role ≡ t → AllSay vs (glue item_role both_items x (y ∷ ys))
    go false t = rw (glue_false item_role both_items x y ys t) (other e h)
    go true t = rw (glue_true item_role both_items x y ys t) (say_both x e t h)

say_merged : {vs : List FieldSpec} {xs : List Item} → AllSay vs xs → AllSay vs (merged xs)
unfolding merged merge
say_merged nothing = nothing
say_merged {vs = vs} {xs = x ∷ xs} (other e h) = say_glue x vs (merged xs) e (say_merged h)
say_merged {xs = x ∷ xs} (one e r s h) = rw (glue_inner x (merged xs) r) (one e r (items_merged s) (say_merged h))

-- LAID OUT over one text, they are what the records have
part_at : (before t rest : List ℕ) → part (before ++ (t ++ rest)) (length before) (length before + length t) ≡ t
part_at before t rest = rw (add-sub_cancel_left, drop-append_seam before (t ++ rest)) (take-append_seam t rest)

module _ (S E u : ℕ) where
  abbrev L : ℕ → List Item → List Record
  L n xs = map (cover S E u) (laid n xs)

  items_laid : (before : List ℕ) {v : FieldSpec} {n : ℕ} {xs : List Item} → ItemsSay v n xs → record_spec (before ++ texts xs) n (L (length before) xs) ≡ v
  unfolding record_spec parts_spec laid record_at cover texts
  items_laid before item_absent = refl
  items_laid before {xs = y ∷ ys} (item_empty r p) = rw p refl
  items_laid before {xs = y ∷ z ∷ zs} (item_text r p q k) =
      let e : before ++ (y.text ++ (z.text ++ texts zs)) ≡ (before ++ y.text) ++ (z.text ++ texts zs) = sym (append_assoc before y.text (z.text ++ texts zs)) in
      rw (p, k, e, ← length-append before y.text) (ap verbatim (part_at (before ++ y.text) z.text (texts zs)))
  items_laid before {xs = y ∷ z ∷ zs} (item_field_lem r p q k) = rw (p, k) refl
  items_laid before {xs = y ∷ ys} (item_many m r p) = rw p refl

  say_laid : (before : List ℕ) {vs : List FieldSpec} {xs : List Item} → AllSay vs xs → record_specs (before ++ texts xs) (L (length before) xs) ≡ vs
  unfolding record_specs laid record_at cover texts
  say_laid before nothing = refl
  say_laid before {xs = x ∷ xs} (other e h) =
      let k = say_laid (before ++ x.text) h in
      rw e (rw (append_assoc before x.text (texts xs), length-append before x.text) at k)
  say_laid before {xs = x ∷ xs} (one e r s h) =
      let j = items_laid (before ++ x.text) s in
      let k = say_laid (before ++ x.text) h in
      rw e (ap₂ ◌∷◌ (rw (append_assoc before x.text (texts xs), length-append before x.text) at j) (rw (append_assoc before x.text (texts xs), length-append before x.text) at k))

-- A PART OF A BODY is the script's
take_drop : (i k : ℕ) (l : List ℕ) → drop i (take (i + k) l) ≡ take k (drop i l)
take_drop zero k l = rw (zero-add k) refl
take_drop (suc i) zero [] = rw (suc-add i 0) refl
take_drop (suc i) (suc k) [] = rw (suc-add i (suc k)) refl
take_drop (suc i) k (b ∷ l) = rw (suc-add i k) (take_drop i k l)

part_part : (s : List ℕ) (o m i j : ℕ) → i ≤ m → j ≤ m → part (part s o (o + m)) i j ≡ part s (o + i) (o + j)
part_part s o m i j h k =
    let a : o + m - o ≡ i + (m - i) = omega arith in
    let b : o + j - (o + i) ≡ j - i = omega arith in
    rw (a, take_drop i (m - i) (drop o s), take-take (j - i) (m - i) (drop i (drop o s)) (omega arith), drop-drop i o s, b) refl

-- so a field's spec is written there as in its body
module _ (s : List ℕ) (l : Literal) (begins : l.offset ≡ place_of l 0) where
  written_in_lem : (i : ℕ) (g : Signs) → Met (body s l) i g → After (body s l) i 125 g.close → written_spec s (signs_at (place_of l 0) g) ≡ written_spec (body s l) g
  unfolding written_spec signs_at sign_at body
  written_in_lem i g m a = go g.colon g.close m.colon_after a
    where
      go : (c e : ℕ) → (1 ≤ c → After (body s l) i 58 c) → After (body s l) i 125 e
          → (if eqb (sign_at (place_of l 0) c) 0 then absent else if braced (part s (sign_at (place_of l 0) c) (sign_at (place_of l 0) e - 1)) then nested else verbatim (part s (sign_at (place_of l 0) c) (sign_at (place_of l 0) e - 1)))
          ≡ (if eqb c 0 then absent else if braced (part (body s l) c (e - 1)) then nested else verbatim (part (body s l) c (e - 1)))
      go zero e p q = refl
      go (suc c) zero p q = let x = q.0 in absurd (omega arith)
      go (suc c) (suc e) p q =
          let x = q.1 in
          let v = (p (omega arith)).1 in
          let y = part_short s l.offset (l.offset + l.size) in
          let z : place_of l 0 + suc e - 1 ≡ place_of l 0 + e = omega arith in
          let w : suc e - 1 ≡ e = omega arith in
          let same : part s (place_of l 0 + suc c) (place_of l 0 + e) ≡ part (body s l) (suc c) e = ap (λ k. part s (k + suc c) (k + e)) (sym begins) ∙ sym (part_part s l.offset l.size (suc c) e (omega arith) (omega arith)) in
          rw (ne_eqb (place_of l 0 + suc c) 0 (λ n. omega arith), ne_eqb (suc c) 0 (λ n. omega arith), z, w, same) refl

  -- and its items say it
  abbrev of : Piece → Item
  of = item_of l.kind l.start l.end (place_of l 0)

  items_say : {v : FieldSpec} {n : ℕ} {ps : List Piece} → PiecesSay v n ps → ItemsSay v n (map of ps)
  unfolding item_of item
  items_say says_absent = item_absent
  items_say says_empty = item_empty refl refl
  items_say says_text = item_text refl refl refl refl
  items_say says_field = item_field_lem refl refl refl refl
  items_say (says_many {m}) = item_many m refl refl

  pieces_say : (ps : List Piece) → Signed (body s l) ps → Spelt (body s l) ps → AllSay (map (row_spec s) (field_rows l.start (place_of l 0) ps)) (map of ps)
  unfolding field_rows item_of item
  pieces_say [] h k = nothing
  pieces_say (literal zero t ∷ ps) h k = other (by (is_bytes l.kind)) (pieces_say ps h k)
    where
      by : (b : Bool) → eqb (if b then item raw 4 t l.start l.end 0 0 0 else item top 1 t l.start l.end 0 0 0).kind 2 ≡ false
      by true = refl
      by false = refl
  pieces_say (literal (suc d) t ∷ ps) h k = other refl (pieces_say ps h k)
  pieces_say (field d e c n i g ∷ ps) h k = rw (written_in_lem i g h.0.0 h.0.1) (one refl refl (items_say k.0) (pieces_say ps h.1 k.1))
  pieces_say (spec n ∷ ps) h k = other refl (pieces_say ps h k)

-- a literal whose body begins after its opening, as a script's own do
abbrev pub Begun : Literal → Type 0
Begun l = l.offset ≡ place_of l 0

map_append : {A B : Type 0} (f : A → B) (xs ys : List A) → map f (xs ++ ys) ≡ map f xs ++ map f ys
map_append f [] ys = refl
map_append f (x ∷ xs) ys = ap (λ r. f x ∷ r) (map_append f xs ys)

module _ (look : Naming) (s : List ℕ) where
  literal_say : (i : ℕ) (l : Literal) (xs : List Item) → Begun l → read_literal look s i l ≡ accepts xs → AllSay (map (row_spec s) (literal_rows look s l)) xs
  unfolding read_literal pieces_of literal_rows
  literal_say i l xs b e = go (read_body look l.kind (body s l)) refl
    where
      go : (r : Read (List Piece)) → read_body look l.kind (body s l) ≡ r → AllSay (map (row_spec s) (literal_rows look s l)) xs
      go (got ps j) f =
          let g : ◌≡◌ {A = Outcome (List Item)} (accepts (map (item_of l.kind l.start l.end (place_of l 0)) ps)) (accepts xs) = rw (f, read_literal) at e in
          let h : xs ≡ map (item_of l.kind l.start l.end (place_of l 0)) ps = cc in
          rw (h, f) (pieces_say s l b ps (body_signed look l.kind (body s l) ps j f) (body_spelt look l.kind (body s l) ps j f))
      go (refused x) f = never (refusal_in s i l x) xs (rw (f, read_literal) at e)

  list_say : (i : ℕ) (ls : List Literal) (xs : List Item) → Each Begun ls → read_from look s i ls ≡ accepts xs → AllSay (map (row_spec s) (all_rows look s ls)) xs
  unfolding read_from all_rows
  list_say i [] xs b e = let h : xs ≡ [] = cc in rw h nothing
  list_say i (l ∷ ls) xs b e =
      then_accepts look s (read_literal look s i l) (read_from look s (suc i) ls) xs e (λ ys zs f g h.
      rw (h, map_append (row_spec s) (literal_rows look s l) (all_rows look s ls)) (say_append (literal_say i l ys b.0 f) (list_say (suc i) ls zs b.1 g)))

  -- THE SPECS OF AN ACCEPTED LIST, of literals whose bodies stand where their starts say
  pub list_specs : (ls : List Literal) (x : Answer) → Each Begun ls → read look s ls ≡ accepts x → map (row_spec s) (all_rows look s ls) ≡ record_specs x.text x.records
  unfolding answer_of
  list_specs ls x b e =
      let f = accepted look s ls x e in
      rw f.is (sym (say_laid (first_start ls) (last_end 0 ls) (u_mark ls) [] (say_merged (list_say 0 ls f.items b f.reads))))
