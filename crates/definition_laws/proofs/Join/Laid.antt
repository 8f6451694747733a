-- Laying out two lists of items as one: the seam of their records, the second's offsets raised. Assumes nothing.
use mathlib.Core.Path.{◌≡◌, refl, sym, ◌∙◌, ap, ap₂}
use mathlib.Core.Bool.{Bool, true, false}
use mathlib.Core.List.{List, [], ◌∷◌, ◌++◌, map, append_assoc, append-nil}
use Prim.Native.Nat.{ℕ, suc, ◌+◌}
use native.Mathlib.Nat.{add_assoc, add-zero, zero-add}
use lib.ListN.{length, length-append}
use Rattle.definition.specs.Records.{Role, touching, Item, Record, glue, merge, both_items, merged, texts, record_at, laid, cover, Sort, answer_of}
use Rattle.definition.specs.Join.{both_records, raise, seam, seamed, join_sort, join}
use Rattle.definition_laws.proofs.Join.Seam.{glue_true, glue_false, merge_append}
use Rattle.definition_laws.proofs.Join.Assoc.{role_of, text_at, cover_seamed, cover_cover, cover_raise}

-- an item's role, as a function
abbrev pub item_role : Item → Role
item_role x = x.role

-- an item with another text
abbrev texted : List ℕ → Item → Item
texted t x = record { role = x.role; kind = x.kind; text = t; start = x.start; end = x.end; mode = x.mode; parts = x.parts; place = x.place }

pub items_assoc : (a b c : Item) → both_items (both_items a b) c ≡ both_items a (both_items b c)
unfolding both_items
items_assoc a b c = ap (λ t. texted t a) (append_assoc a.text b.text c.text)

at_both : (n m : ℕ) (a b : Item) → record_at n (both_items a b) ≡ both_records (record_at n a) (record_at m b)
unfolding record_at both_items both_records
at_both n m a b = ap (λ l. text_at n l (record_at n a)) (length-append a.text b.text)

-- a record for each item
pub laid_length : (f : Record → Record) (n : ℕ) (xs : List Item) → length (map f (laid n xs)) ≡ length xs
unfolding laid
laid_length f n [] = refl
laid_length f n (x ∷ xs) = ap suc (laid_length f (n + length x.text) xs)

-- the text is kept
texts_glue : (a : Item) (ys : List Item) → texts (glue item_role both_items a ys) ≡ a.text ++ texts ys
unfolding glue texts both_items
texts_glue a [] = refl
texts_glue a (b ∷ bs) = go (touching a.role b.role) refl
  where
    go : (t : Bool) → touching a.role b.role ≡ t → texts (glue item_role both_items a (b ∷ bs)) ≡ a.text ++ (b.text ++ texts bs)
    go true t = ap texts (glue_true item_role both_items a b bs t) ∙ append_assoc a.text b.text (texts bs)
    go false t = ap texts (glue_false item_role both_items a b bs t)

texts_seam : (xs ys : List Item) → texts (seam item_role both_items xs ys) ≡ texts xs ++ texts ys
unfolding seam texts
texts_seam [] ys = refl
texts_seam (a ∷ []) ys = texts_glue a ys ∙ ap (λ l. l ++ texts ys) (sym (append-nil a.text))
texts_seam (a ∷ b ∷ l) ys = ap (λ r. a.text ++ r) (texts_seam (b ∷ l) ys) ∙ sym (append_assoc a.text (texts (b ∷ l)) (texts ys))

pub texts_merged : (xs : List Item) → texts (merged xs) ≡ texts xs
unfolding merged merge texts
texts_merged [] = refl
texts_merged (x ∷ xs) = texts_glue x (merge item_role both_items xs) ∙ ap (λ t. x.text ++ t) (texts_merged xs)

-- the records of two lists
laid_glue : (n : ℕ) (a : Item) (ys : List Item) → laid n (glue item_role both_items a ys) ≡ glue role_of both_records (record_at n a) (laid (n + length a.text) ys)
unfolding glue laid record_at both_items
laid_glue n a [] = refl
laid_glue n a (b ∷ bs) = go (touching a.role b.role) refl
  where
    m : ℕ
    m = n + length a.text

    far : n + length (a.text ++ b.text) ≡ m + length b.text
    far = ap (λ k. n + k) (length-append a.text b.text) ∙ sym (add_assoc n (length a.text) (length b.text))

    go : (t : Bool) → touching a.role b.role ≡ t
        → laid n (glue item_role both_items a (b ∷ bs)) ≡ glue role_of both_records (record_at n a) (record_at m b ∷ laid (m + length b.text) bs)
    go true t =
        ap (laid n) (glue_true item_role both_items a b bs t)
        ∙ ap₂ (λ r k. r ∷ laid k bs) (at_both n m a b) far
        ∙ sym (glue_true role_of both_records (record_at n a) (record_at m b) (laid (m + length b.text) bs) t)
    go false t =
        ap (laid n) (glue_false item_role both_items a b bs t)
        ∙ sym (glue_false role_of both_records (record_at n a) (record_at m b) (laid (m + length b.text) bs) t)

laid_seam : (n : ℕ) (xs ys : List Item) → laid n (seam item_role both_items xs ys) ≡ seamed (laid n xs) (laid (n + length (texts xs)) ys)
unfolding seam seamed laid texts
laid_seam n [] ys = ap (λ k. laid k ys) (sym (add-zero n))
laid_seam n (a ∷ []) ys = laid_glue n a ys ∙ ap (λ t. glue role_of both_records (record_at n a) (laid (n + length t) ys)) (sym (append-nil a.text))
laid_seam n (a ∷ b ∷ l) ys =
    ap (λ r. record_at n a ∷ r)
    (laid_seam (n + length a.text) (b ∷ l) ys
    ∙ ap (λ k. seamed (laid (n + length a.text) (b ∷ l)) (laid k ys))
    (add_assoc n (length a.text) (length (texts (b ∷ l))) ∙ ap (λ k. n + k) (sym (length-append a.text (texts (b ∷ l))))))

laid_raise : (n m : ℕ) (xs : List Item) → laid (n + m) xs ≡ map (raise n) (laid m xs)
unfolding laid record_at raise
laid_raise n m [] = refl
laid_raise n m (x ∷ xs) =
    ap (λ l. record_at (n + m) x ∷ l) (ap (λ k. laid k xs) (add_assoc n m (length x.text)) ∙ laid_raise n (m + length x.text) xs)

-- the answer over two lists of items is the join of the two answers
pub answer_append : (q q' : Sort) (u u' s s' e e' c c' : ℕ) (xs ys : List Item)
    → answer_of (join_sort q q') u s e' (c + c') (xs ++ ys) ≡ join (answer_of q u s e c xs) (answer_of q' u' s' e' c' ys)
unfolding answer_of join merged both_items
answer_append q q' u u' s s' e e' c c' xs ys = λ i. record { sort = join_sort q q'; u_mark = u; start = s; end = e'; records = records i; text = text i; chars = c + c' }
  where
    X : List Item
    X = merge item_role both_items xs

    Y : List Item
    Y = merge item_role both_items ys

    M : List Record → List Record
    M = map (cover s e' u)

    n : ℕ
    n = length (texts X)

    two : merge item_role both_items (xs ++ ys) ≡ seam item_role both_items X Y
    two = merge_append item_role both_items (λ a b. refl) items_assoc xs ys

    text : texts (merge item_role both_items (xs ++ ys)) ≡ texts X ++ texts Y
    text = ap texts two ∙ texts_seam X Y

    laid_two : laid 0 (seam item_role both_items X Y) ≡ seamed (laid 0 X) (map (raise n) (laid 0 Y))
    laid_two = laid_seam 0 X Y ∙ ap (λ k. seamed (laid 0 X) (laid k Y)) (zero-add n ∙ sym (add-zero n)) ∙ ap (seamed (laid 0 X)) (laid_raise n 0 Y)

    records : M (laid 0 (merge item_role both_items (xs ++ ys)))
        ≡ M (seamed (map (cover s e u) (laid 0 X)) (map (raise n) (map (cover s' e' u') (laid 0 Y))))
    records =
        ap (λ l. M (laid 0 l)) two
        ∙ ap M laid_two
        ∙ cover_seamed s e' u (laid 0 X) (map (raise n) (laid 0 Y))
        ∙ ap₂ seamed (sym (cover_cover s e' u s e u (laid 0 X))) (sym (cover_raise s e' u n s' e' u' (laid 0 Y)))
        ∙ sym (cover_seamed s e' u (map (cover s e u) (laid 0 X)) (map (raise n) (map (cover s' e' u') (laid 0 Y))))
