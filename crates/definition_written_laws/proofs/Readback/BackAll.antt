-- What every accepted answer holds: fields at most two deep, whose expressions are clean and not blank. Assumes nothing.
use mathlib.Core.Path.{◌≡◌, refl, sym, ◌∙◌, ap, ap₂, subst}
use mathlib.Core.Bool.{Bool, true, false, ◌&&◌}
use mathlib.Core.List.{List, [], ◌∷◌, ◌++◌, map, append_assoc, append-nil}
use Prim.Native.Nat.{ℕ, zero, suc, ◌+◌, ◌≤◌}
use native.Mathlib.Omega.{arith}
use lib.Dec.{leb}
use lib.ListN.{length}
use borrow.Author.Tests.{lt-ltb}
use Rattle.definition.specs.Numbers.{is_fstring, is_bytes}
use Rattle.definition.specs.Escapes.{Naming, got}
use Rattle.definition.specs.Body.{Piece, literal, text_n, enough, read_body}
use Rattle.definition.specs.Records.{Role, top, raw, inner, touching, covers, Item, item, item_of, glue, merge, both_items, merged, Answer}
use Rattle.definition.specs.Entry.{Literal, place_of, body, first_start}
use Rattle.definition.specs.Reading.{accepts, read_literal, sort_of, u_mark, last_end, all_chars, read}
use Rattle.definition_written.specs.Written.{Content, empty, says, puts, forms, first_parts, later_parts, holding, content, Where, early, past_field, spelled}
use Rattle.definition_written.specs.ReadsBack.{text_reads, begins_well, field_reads, parts_read, reads_back}
use Rattle.definition.proofs.Moves.CharLaws.{cases, Utf8}
use Rattle.definition_laws.proofs.Join.Seam.{glue_true, glue_false}
use Rattle.definition_laws.proofs.Join.Laid.{item_role}
use Rattle.definition_laws.proofs.Join.EntrySplit.{utf8_each, passes}
use Rattle.definition_laws.proofs.Formed.Grammar.{Parts, done, run, bare, full, count, flat, flat_append, All, TreeRead}
use Rattle.definition_laws.proofs.Formed.Accepted.{accepted, Holds, each_holds, literal_holds, f_no_bytes, alone_piece}
use Rattle.definition_written_laws.proofs.Readback.BackTree.{strip}
use Rattle.definition_written_laws.proofs.Readback.BackAnswer.{chained, chained_empty, next_of, held_by, answer_held}
use Rattle.definition_written_laws.proofs.Readback.BackTrees.{trees}
use Rattle.definition_written_laws.proofs.Readback.BackClean.{Clean, KeepsAt, keeps_fresh, keeps_step}
use Rattle.definition_written_laws.proofs.Readback.BackOnly.{FieldsOk}

-- an item of a role, a kind and parts
abbrev Of : Item → Role → (kind parts : ℕ) → Type 0
Of x r kind parts = (x.role ≡ r) × (x.kind ≡ kind) × (x.parts ≡ parts)

-- ITEMS LAID OUT at a depth: so many things, and what they hold
data Lay : (depth things : ℕ) → List Item → Content → Type 0 where
  nothing : {d : ℕ} → Lay d 0 [] empty
  text_at : {n : ℕ} {xs : List Item} {p : Content} → (x : Item) → Of x top 1 0 → Lay 0 n xs p → Lay 0 (suc n) (x ∷ xs) (says x.text p)
  bytes_at : {n : ℕ} {xs : List Item} {p : Content} → (x : Item) → Of x raw 4 0 → Lay 0 n xs p → Lay 0 n (x ∷ xs) p
  part_at : {d n : ℕ} {xs : List Item} {p : Content} → (x : Item) → Of x inner 1 0 → Lay (suc d) n xs p → Lay (suc d) (suc n) (x ∷ xs) (says x.text p)
  bare_at : {d n : ℕ} {xs : List Item} {p : Content} → (x : Item) → Of x inner 2 0 → d ≤ 1 → Clean x.text x.mode → Lay d n xs p → Lay d (suc n) (x ∷ xs) (puts x.text x.mode p)
  full_at : {d n m : ℕ} {xs ys : List Item} {p q : Content} → (x y : Item) → Of x inner 2 1 → Of y inner 3 m → d ≤ 1 → Clean x.text x.mode → Lay (suc d) m ys q → Lay d n xs p
      → Lay d (suc n) (x ∷ y ∷ (ys ++ xs)) (forms x.text x.mode q p)

lay_fields : {d n : ℕ} {xs : List Item} {p : Content} → Lay d n xs p → FieldsOk d p
lay_fields nothing = tt
lay_fields (text_at x o h) = lay_fields h
lay_fields (bytes_at x o h) = lay_fields h
lay_fields (part_at x o h) = lay_fields h
lay_fields (bare_at x o l c h) = (l, c, lay_fields h)
lay_fields (full_at x y o o' l c k h) = (l, c, lay_fields k, lay_fields h)

lay_first : {d n : ℕ} {xs : List Item} {p : Content} → Lay d n xs p → (r : Content) → first_parts n (chained p r) ≡ p
unfolding first_parts
lay_first nothing r = refl
lay_first (text_at x o h) r = ap (says x.text) (lay_first h r)
lay_first (bytes_at x o h) r = lay_first h r
lay_first (part_at x o h) r = ap (says x.text) (lay_first h r)
lay_first (bare_at x o l c h) r = ap (puts x.text x.mode) (lay_first h r)
lay_first (full_at {q = q} x y o o' l c k h) r = ap (forms x.text x.mode q) (lay_first h r)

lay_after : {d n : ℕ} {xs : List Item} {p : Content} → Lay d n xs p → (r : Content) → later_parts n (chained p r) ≡ r
unfolding later_parts
lay_after nothing r = refl
lay_after (text_at x o h) r = lay_after h r
lay_after (bytes_at x o h) r = lay_after h r
lay_after (part_at x o h) r = lay_after h r
lay_after (bare_at x o l c h) r = lay_after h r
lay_after (full_at x y o o' l c k h) r = lay_after h r

-- what they hold
lay_held : {d n : ℕ} {xs : List Item} {p : Content} → (u : ℕ) → Lay d n xs p → (zs : List Item) → held_by u (xs ++ zs) ≡ chained p (held_by u zs)
unfolding held_by holding next_of covers
lay_held u nothing zs = refl
lay_held u (text_at x o h) zs = rw o.1 (ap (says x.text) (lay_held u h zs))
lay_held u (bytes_at x o h) zs = rw o.1 (lay_held u h zs)
lay_held u (part_at x o h) zs = rw o.1 (ap (says x.text) (lay_held u h zs))
lay_held u (bare_at x o l c h) zs = rw (o.0, o.1, o.2) (ap (puts x.text x.mode) (lay_held u h zs))
lay_held u (full_at {n = n} {m = m} {xs = xs} {ys = ys} {p = p} {q = q} x y o o' l c k h) zs =
    let e : held_by u ((ys ++ xs) ++ zs) ≡ chained q (chained p (held_by u zs)) = ap (held_by u) (append_assoc ys xs zs) ∙ lay_held u k (xs ++ zs) ∙ ap (chained q) (lay_held u h zs) in
    rw (o.0, o.1, o.2, o'.1, o'.2) (ap (λ z. forms x.text x.mode (first_parts m z) (later_parts m z)) e ∙ ap₂ (forms x.text x.mode) (lay_first k (chained p (held_by u zs))) (lay_after k (chained p (held_by u zs))))

-- ONE AFTER ANOTHER, and touching ones joined
abbrev Laid : List Item → Type 0
Laid xs = (n : ℕ) × (p : Content) × Lay 0 n xs p

lay_append : {n : ℕ} {xs : List Item} {p : Content} → Lay 0 n xs p → (ys : List Item) → Laid ys → Laid (xs ++ ys)
lay_append nothing ys l = l
lay_append (text_at x o h) ys l = let (n, p, k) = lay_append h ys l in (suc n, says x.text p, text_at x o k)
lay_append (bytes_at x o h) ys l = let (n, p, k) = lay_append h ys l in (n, p, bytes_at x o k)
lay_append (bare_at x o d c h) ys l = let (n, p, k) = lay_append h ys l in (suc n, puts x.text x.mode p, bare_at x o d c k)
lay_append (full_at {xs = xs} {ys = zs} {q = q} x y o o' d c g h) ys l =
    let (n, p, k) = lay_append h ys l in
    (suc n, forms x.text x.mode q p, subst (λ (t : List Item). Lay 0 (suc n) (x ∷ y ∷ t) (forms x.text x.mode q p)) (sym (append_assoc zs xs ys)) (full_at x y o o' d c g k))

abbrev AllInner : List Item → Type 0
AllInner [] = Unit {0}
AllInner (x ∷ xs) = (x.role ≡ inner) × AllInner xs

inner_append : (xs ys : List Item) → AllInner xs → AllInner ys → AllInner (xs ++ ys)
inner_append [] ys h k = k
inner_append (x ∷ xs) ys h k = (h.0, inner_append xs ys h.1 k)

all_inner : {d n : ℕ} {xs : List Item} {p : Content} → Lay d n xs p → (e : ℕ) → d ≡ suc e → AllInner xs
all_inner nothing e q = tt
all_inner (text_at x o h) e q = absurd (omega arith)
all_inner (bytes_at x o h) e q = absurd (omega arith)
all_inner (part_at x o h) e q = (o.0, all_inner h e q)
all_inner (bare_at x o l c h) e q = (o.0, all_inner h e q)
all_inner (full_at {d = d} {xs = xs} {ys = ys} x y o o' l c k h) e q = (o.0, (o'.0, inner_append ys xs (all_inner k d refl) (all_inner h e q)))

glue_inner : (x : Item) (ys : List Item) → x.role ≡ inner → glue item_role both_items x ys ≡ x ∷ ys
unfolding glue touching
glue_inner x [] e = refl
glue_inner x (y ∷ ys) e = glue_false item_role both_items x y ys (ap (λ r. touching r y.role) e)

merge_inner : (ys zs : List Item) → AllInner ys → merge item_role both_items (ys ++ zs) ≡ ys ++ merge item_role both_items zs
unfolding merge
merge_inner [] zs h = refl
merge_inner (y ∷ ys) zs h = ap (glue item_role both_items y) (merge_inner ys zs h.1) ∙ glue_inner y (ys ++ merge item_role both_items zs) h.0

-- a text before others
glue_text : (x : Item) → Of x top 1 0 → (ys : List Item) → Laid ys → Laid (glue item_role both_items x ys)
unfolding glue both_items touching
glue_text x o ys (n, p, l) = go ys l
  where
    apart : (y : Item) (ys : List Item) → y.role ≡ inner → glue item_role both_items x (y ∷ ys) ≡ x ∷ y ∷ ys
    apart y ys e = glue_false item_role both_items x y ys (ap₂ touching o.0 e)

    go : {n : ℕ} {p : Content} (ys : List Item) → Lay 0 n ys p → Laid (glue item_role both_items x ys)
    go ys nothing = (1, says x.text empty, text_at x o nothing)
    go ys (text_at {n = n} {xs = xs} {p = p} y o' h) = subst Laid (sym (glue_true item_role both_items x y xs (ap₂ touching o.0 o'.0))) (suc n, says (x.text ++ y.text) p, text_at (both_items x y) o h)
    go ys (bytes_at {n = n} {xs = xs} {p = p} y o' h) = subst Laid (sym (glue_false item_role both_items x y xs (ap₂ touching o.0 o'.0))) (suc n, says x.text p, text_at x o (bytes_at y o' h))
    go ys (bare_at {n = n} {xs = xs} {p = p} y o' d c h) = subst Laid (sym (apart y xs o'.0)) (suc (suc n), says x.text (puts y.text y.mode p), text_at x o (bare_at y o' d c h))
    go ys (full_at {n = n} {xs = xs} {ys = zs} {p = p} {q = q} y z o' o'' d c k h) = subst Laid (sym (apart y (z ∷ (zs ++ xs)) o'.0)) (suc (suc n), says x.text (forms y.text y.mode q p), text_at x o (full_at y z o' o'' d c k h))

glue_bytes : (x : Item) → Of x raw 4 0 → (ys : List Item) → Laid ys → Laid (glue item_role both_items x ys)
unfolding glue both_items touching
glue_bytes x o ys (n, p, l) = go ys l
  where
    apart : (y : Item) (ys : List Item) → y.role ≡ inner → glue item_role both_items x (y ∷ ys) ≡ x ∷ y ∷ ys
    apart y ys e = glue_false item_role both_items x y ys (ap₂ touching o.0 e)

    go : {n : ℕ} {p : Content} (ys : List Item) → Lay 0 n ys p → Laid (glue item_role both_items x ys)
    go ys nothing = (0, empty, bytes_at x o nothing)
    go ys (text_at {n = n} {xs = xs} {p = p} y o' h) = subst Laid (sym (glue_false item_role both_items x y xs (ap₂ touching o.0 o'.0))) (suc n, says y.text p, bytes_at x o (text_at y o' h))
    go ys (bytes_at {n = n} {xs = xs} {p = p} y o' h) = subst Laid (sym (glue_true item_role both_items x y xs (ap₂ touching o.0 o'.0))) (n, p, bytes_at (both_items x y) o h)
    go ys (bare_at {n = n} {xs = xs} {p = p} y o' d c h) = subst Laid (sym (apart y xs o'.0)) (suc n, puts y.text y.mode p, bytes_at x o (bare_at y o' d c h))
    go ys (full_at {n = n} {xs = xs} {ys = zs} {p = p} {q = q} y z o' o'' d c k h) = subst Laid (sym (apart y (z ∷ (zs ++ xs)) o'.0)) (suc n, forms y.text y.mode q p, bytes_at x o (full_at y z o' o'' d c k h))

lay_merge : {n : ℕ} {xs : List Item} {p : Content} → Lay 0 n xs p → Laid (merge item_role both_items xs)
unfolding merge
lay_merge nothing = (0, empty, nothing)
lay_merge (text_at {xs = xs} x o h) = glue_text x o (merge item_role both_items xs) (lay_merge h)
lay_merge (bytes_at {xs = xs} x o h) = glue_bytes x o (merge item_role both_items xs) (lay_merge h)
lay_merge (bare_at {xs = xs} x o d c h) = let (n, p, l) = lay_merge h in subst Laid (sym (glue_inner x (merge item_role both_items xs) o.0)) (suc n, puts x.text x.mode p, bare_at x o d c l)
lay_merge (full_at {xs = xs} {ys = ys} {q = q} x y o o' d c k h) =
    let (n, p, l) = lay_merge h in
    let e = merge_inner (x ∷ y ∷ ys) xs (o.0, (o'.0, all_inner k 0 refl)) in
    subst Laid (sym e) (suc n, forms x.text x.mode q p, full_at x y o o' d c k l)

-- THE ITEMS OF A TREE of clean fields
module _ (kind start end base : ℕ) (texts : is_bytes kind ≡ false) where
  abbrev I : Piece → Item
  I = item_of kind start end base

  map_both : (ps qs : List Piece) → map I (ps ++ qs) ≡ map I ps ++ map I qs
  map_both [] qs = refl
  map_both (p ∷ ps) qs = ap (λ l. I p ∷ l) (map_both ps qs)

  lay_tree : (d : ℕ) (p : Parts) → All Clean d p → Lay d (count p) (map I (flat d p [])) (strip p)
  unfolding item_of item
  lay_tree d done a = nothing
  lay_tree zero (run t p) a = rw texts (text_at (item top 1 t start end 0 0 0) (refl, refl, refl) (lay_tree zero p a))
  lay_tree (suc d) (run t p) a = part_at (item inner 1 t start end 0 0 0) (refl, refl, refl) (lay_tree (suc d) p a)
  lay_tree d (bare e c i g p) a = bare_at (item inner 2 e start end c 0 (base + i)) (refl, refl, refl) a.0 a.1 (lay_tree d p a.2)
  lay_tree d (full e c i g q p) a =
      let z = sym (map_both (flat (suc d) q []) (flat d p [])) ∙ ap (map I) (flat_append (suc d) q [] (flat d p [])) in
      subst (λ (l : List Item). Lay d (suc (count p)) (item inner 2 e start end c 1 (base + i) ∷ item inner 3 [] start end 0 (count q) 0 ∷ l) (forms e c (strip q) (strip p))) z
      (full_at (item inner 2 e start end c 1 (base + i)) (item inner 3 [] start end 0 (count q) 0) (refl, refl, refl) (refl, refl, refl) a.0 a.1 (lay_tree (suc d) q a.2) (lay_tree d p a.3))

-- a string's or bytes' one item
lay_alone : (kind start end base : ℕ) (t : List ℕ) → Laid (map (item_of kind start end base) (literal 0 t ∷ []))
unfolding item_of item
lay_alone kind start end base t =
    cases (is_bytes kind) (λ e. rw e (0, empty, bytes_at (item raw 4 t start end 0 0 0) (refl, refl, refl) nothing)) (λ e. rw e (1, says t empty, text_at (item top 1 t start end 0 0 0) (refl, refl, refl) nothing))

-- EVERY LITERAL'S ITEMS
both_laid : (xs ys : List Item) → Laid xs → Laid ys → Laid (xs ++ ys)
both_laid xs ys (n, p, l) k = lay_append l ys k

literal_laid : (look : Naming) (script : List ℕ) (i : ℕ) (l : Literal) → Utf8 (body script l) → Holds look Laid (0, empty, nothing) both_laid (read_literal look script i l)
unfolding read_body
literal_laid look script i l utf8 = literal_holds look Laid (0, empty, nothing) both_laid script i l (λ ps j e. go (is_fstring l.kind) refl ps j e)
  where
    s : List ℕ
    s = body script l

    go : (t : Bool) → is_fstring l.kind ≡ t → (ps : List Piece) (j : ℕ) → read_body look l.kind s ≡ got ps j → Laid (map (item_of l.kind l.start l.end (place_of l 0)) ps)
    go true f ps j e =
        let r : text_n look (enough s) l.kind s 0 0 [] [] ≡ got ps j = rw (f, read_body) at e in
        let (p, q, a) = subst (TreeRead Clean 0) r ((trees look l.kind s (KeepsAt s utf8) Clean (keeps_fresh s utf8) (keeps_step s utf8) (enough s)).text 0 0 [] [] (done, refl, tt)) in
        subst (λ (z : List Piece). Laid (map (item_of l.kind l.start l.end (place_of l 0)) z)) (sym q) (count p, strip p, lay_tree l.kind l.start l.end (place_of l 0) (f_no_bytes l.kind f) 0 p a)
    go false f ps j e = let t = alone_piece look l.kind s ps j f e in rw t.1 (lay_alone l.kind l.start l.end (place_of l 0) t.0)

-- EVERY ACCEPTED ANSWER: its fields lie at most two deep, and their expressions are clean and not blank. So 55 comes of a reading by a brace or by the length only
pub reading_fields : (look : Naming) (script : List ℕ) (ls : List Literal) (x : Answer) → read look script ls ≡ accepts x → FieldsOk 0 (content x)
unfolding merged held_by
reading_fields look script ls x e =
    let f = accepted look script ls x e in
    let (n, p, l) = each_holds look Laid (0, empty, nothing) both_laid (λ l. Utf8 (body script l)) script (literal_laid look script) ls f.items (utf8_each script ls (passes script ls f.passed).well) f.reads in
    let (m, q, k) = lay_merge l in
    let h : content x ≡ q = ap content f.is ∙ answer_held (sort_of ls) (u_mark ls) (first_start ls) (last_end 0 ls) (all_chars script ls) f.items ∙ ap (held_by (u_mark ls)) (sym (append-nil (merge item_role both_items f.items))) ∙ lay_held (u_mark ls) k [] ∙ chained_empty q in
    subst (FieldsOk 0) (sym h) (lay_fields k)

-- 55 OF A READING: braces alone tell, where fields are such
abbrev pub unbraced : Where → Content → Bool
unbraced w empty = true
unbraced w (says t p) = text_reads w t && unbraced w p
unbraced w (puts e c p) = begins_well w e && unbraced (past_field w) p
unbraced w (forms e c q p) = begins_well w e && unbraced early q && unbraced (past_field w) p

field_ok : (d : ℕ) (w : Where) (e : List ℕ) (c : ℕ) → d ≤ 1 → Clean e c → field_reads d w e ≡ begins_well w e
unfolding field_reads
field_ok d w e c l h = rw (lt-ltb d 2 (omega arith), h.0, h.1) (cases (begins_well w e) (λ t. rw t refl) (λ t. rw t refl))

pub braces_tell : (d : ℕ) (w : Where) (p : Content) → FieldsOk d p → parts_read d w p ≡ unbraced w p
unfolding parts_read
braces_tell d w empty h = refl
braces_tell d w (says t p) h = ap (λ b. text_reads w t && b) (braces_tell d w p h)
braces_tell d w (puts e c p) h = ap₂ ◌&&◌ (field_ok d w e c h.0 h.1) (braces_tell d (past_field w) p h.2)
braces_tell d w (forms e c q p) h = ap₂ ◌&&◌ (ap₂ ◌&&◌ (field_ok d w e c h.0 h.1) (braces_tell (suc d) early q h.2)) (braces_tell d (past_field w) p h.3)

-- so of a reading 55 is given only for A, B and C
pub reading_braces : (look : Naming) (script : List ℕ) (ls : List Literal) (x : Answer) → read look script ls ≡ accepts x
    → reads_back (content x) ≡ (unbraced Where.top (content x) && leb (length (spelled Where.top (content x))) 1048576)
unfolding reads_back
reading_braces look script ls x e = ap (λ b. b && leb (length (spelled Where.top (content x))) 1048576) (braces_tell 0 Where.top (content x) (reading_fields look script ls x e))
