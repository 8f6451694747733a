-- Without an f-string there is exactly one record, which carries the whole range and u mark. Assumes nothing.
use Rattle.std.specs.Prelude.{if◌then◌else◌}
use mathlib.Core.Path.{◌≡◌, refl, sym, ◌∙◌, ap, ap₂}
use mathlib.Core.Bool.{Bool, true, false, ◌&&◌, ◌||◌, not, true≢false}
use mathlib.Core.List.{List, [], ◌∷◌, ◌++◌, map, append-nil}
use mathlib.Core.Option.{none}
use Prim.Native.Nat.{ℕ, suc}
use native.Mathlib.Omega.{arith}
use lib.ListN.{length}
use Rattle.definition.specs.Numbers.{is_fstring, is_bytes, mixed_bytes}
use Rattle.definition.specs.Body.{Piece, literal, read_body}
use Rattle.definition.specs.Escapes.{Naming, Read, got, refused}
use Rattle.definition.specs.Records.{Role, top, raw, touching, covers, Item, item, item_of, words_of, glue, merge, both_items, merged, texts, record_at, laid, cover, Answer, answer_of}
use Rattle.definition.specs.Entry.{Literal, place_of, body, refusal, any_of, first_start, not_empty, not_mixed, first_of, entry}
use Rattle.definition.specs.Reading.{Outcome, accepts, refuses, read_literal, and_then, read_from, sort_of, u_mark, last_end, all_chars, read, all_words}
use Rattle.definition_laws.proofs.Join.Seam.{glue_true}
use Rattle.definition_laws.proofs.Join.Laid.{item_role}
use Rattle.definition_laws.proofs.Join.EntrySplit.{failed, not_bytes, passes}
use Rattle.definition_laws.proofs.Formed.Accepted.{From, accepted, neither, Holds, literal_holds, all_hold, alone_piece}

-- the role and the kind of bytes, and of others
abbrev role_for : Bool → Role
role_for true = raw
role_for false = top

abbrev kind_for : Bool → ℕ
kind_for true = 4
kind_for false = 1

abbrev Like : Bool → Item → Type 0
Like b x = (x.role ≡ role_for b) × (x.kind ≡ kind_for b) × (x.parts ≡ 0) × (x.place ≡ 0)

abbrev Same : Bool → List Item → Type 0
Same b [] = Unit {0}
Same b (x ∷ xs) = Like b x × Same b xs

same_append : (b : Bool) (xs ys : List Item) → Same b xs → Same b ys → Same b (xs ++ ys)
same_append b [] ys h k = k
same_append b (x ∷ xs) ys h k = (h.0, same_append b xs ys h.1 k)

-- no f-string, and bytes or not
abbrev other : Bool → ℕ → Bool
other b kind = is_fstring kind || (if b then not (is_bytes kind) else is_bytes kind)

like_item : (b : Bool) (kind start end base : ℕ) (t : List ℕ) → is_bytes kind ≡ b → Like b (item_of kind start end base (literal 0 t))
unfolding item_of item
like_item true kind start end base t e = rw e (refl, refl, refl, refl)
like_item false kind start end base t e = rw e (refl, refl, refl, refl)

no_other : (b : Bool) (kind : ℕ) → other b kind ≡ false → (is_fstring kind ≡ false) × (is_bytes kind ≡ b)
no_other b kind = go (is_fstring kind) b (is_bytes kind)
  where
    go : (f b c : Bool) → f || (if b then not c else c) ≡ false → (f ≡ false) × (c ≡ b)
    go true b c e = absurd (true≢false e)
    go false true true e = (refl, refl)
    go false true false e = absurd (true≢false e)
    go false false c e = (refl, e)

literal_same : (look : Naming) → (b : Bool) (script : List ℕ) (i : ℕ) (l : Literal) → other b l.kind ≡ false → Holds look (Same b) tt (same_append b) (read_literal look script i l)
literal_same look b script i l h = literal_holds look (Same b) tt (same_append b) script i l go
  where
    k : (is_fstring l.kind ≡ false) × (is_bytes l.kind ≡ b)
    k = no_other b l.kind h

    go : (ps : List Piece) (j : ℕ) → read_body look l.kind (body script l) ≡ got ps j → Same b (map (item_of l.kind l.start l.end (place_of l 0)) ps)
    go ps j e = let t = alone_piece look l.kind (body script l) ps j k.0 e in rw t.1 (like_item b l.kind l.start l.end (place_of l 0) t.0 k.1, tt)

-- some item
some_item : (look : Naming) → (script : List ℕ) (i : ℕ) (l : Literal) (ls : List Literal) (xs : List Item) → is_fstring l.kind ≡ false → read_from look script i (l ∷ ls) ≡ accepts xs → (x : Item) × (ys : List Item) × (xs ≡ x ∷ ys)
unfolding read_from read_literal and_then
some_item look script i l ls xs h e = go (read_body look l.kind (body script l)) refl (read_from look script (suc i) ls) refl
  where
    I : Piece → Item
    I = item_of l.kind l.start l.end (place_of l 0)

    no_items : {P : Type 0} (r : _) (zs : List Item) → ◌≡◌ {A = Outcome (List Item)} (refuses r) (accepts zs) → P
    no_items r zs q = let z : ◌≡◌ {A = ℕ} 0 1 = cc in absurd (omega arith)

    same_items : (zs : List Item) → ◌≡◌ {A = Outcome (List Item)} (accepts zs) (accepts xs) → zs ≡ xs
    same_items zs q = cc

    go : (r : Read (List Piece)) → read_body look l.kind (body script l) ≡ r → (o : Outcome (List Item)) → read_from look script (suc i) ls ≡ o → (x : Item) × (ys : List Item) × (xs ≡ x ∷ ys)
    go (refused x) p o q = no_items _ xs (rw (p, read_literal) at e)
    go (got ps j) p (refuses r) q = no_items r xs (rw (p, q, read_literal) at e)
    go (got ps j) p (accepts zs) q =
        let t = alone_piece look l.kind (body script l) ps j h p in
        let s = same_items (map I ps ++ zs) (rw (p, q, read_literal) at e) in
        (I (literal 0 t.0), zs, sym s ∙ ap (λ l. map I l ++ zs) t.1)

-- they become one
touch_self : (b : Bool) → touching (role_for b) (role_for b) ≡ true
unfolding touching
touch_self true = refl
touch_self false = refl

merged_one : (b : Bool) (x : Item) (xs : List Item) → Same b (x ∷ xs) → (y : Item) × (merged (x ∷ xs) ≡ y ∷ []) × Like b y
unfolding merged merge glue both_items
merged_one b x [] h = (x, refl, h.0)
merged_one b x (x' ∷ xs) h = go (merged_one b x' xs h.1)
  where
    go : (y : Item) × (merged (x' ∷ xs) ≡ y ∷ []) × Like b y → (y : Item) × (merged (x ∷ x' ∷ xs) ≡ y ∷ []) × Like b y
    go (y, e, k) = (
      both_items x y,
      ap (glue item_role both_items x) e ∙ glue_true item_role both_items x y [] (ap₂ touching h.0.0 k.0 ∙ touch_self b),
      (h.0.0, h.0.1, h.0.2, h.0.3),
    )

-- the words of the one record that a string or bytes have
abbrev pub one_record : Bool → Answer → List ℕ
one_record b x = kind_for b ∷ 0 ∷ length x.text ∷ x.start ∷ x.end ∷ x.u_mark ∷ 0 ∷ 0 ∷ []

cover_for : {A : Type 0} (b : Bool) (x y : A) → (if covers (role_for b) then x else y) ≡ x
unfolding covers
cover_for true x y = refl
cover_for false x y = refl

covered_for : (b : Bool) (r : Role) (p q : ℕ) → r ≡ role_for b → (if covers r then p else q) ≡ p
covered_for b r p q e = rw e (cover_for b p q)

one_words : (b : Bool) (q : _) (u s e n : ℕ) (xs : List Item) (y : Item) → merged xs ≡ y ∷ [] → Like b y → all_words (answer_of q u s e n xs).records ≡ one_record b (answer_of q u s e n xs)
unfolding answer_of laid record_at cover all_words words_of texts
one_words b q u s e n xs y m (r, k, p, a) =
    rw (m, append-nil y.text, k, p, a, covered_for b y.role s y.start r, covered_for b y.role e y.end r, covered_for b y.role u y.mode r) refl

pub not_mixed_lem : (ls : List Literal) → not_mixed ls ≡ none → any_of is_bytes ls && any_of not_bytes ls ≡ false
unfolding not_mixed
not_mixed_lem ls e = failed (any_of is_bytes ls && any_of not_bytes ls) (refusal mixed_bytes 0 (first_start ls) 0 0) e

none_other : (b : Bool) (ls : List Literal) → any_of is_fstring ls ≡ false → any_of (λ kind. if b then not (is_bytes kind) else is_bytes kind) ls ≡ false → any_of (other b) ls ≡ false
unfolding any_of
none_other b [] h k = refl
none_other b (l ∷ ls) h k = go (is_fstring l.kind) (any_of is_fstring ls) (if b then not (is_bytes l.kind) else is_bytes l.kind) (any_of (λ kind. if b then not (is_bytes kind) else is_bytes kind) ls) h k (none_other b ls)
  where
    go : (f g c d : Bool) → f || g ≡ false → c || d ≡ false → (g ≡ false → d ≡ false → any_of (other b) ls ≡ false) → (f || c) || any_of (other b) ls ≡ false
    go true g c d h k m = absurd (true≢false h)
    go false g true d h k m = absurd (true≢false k)
    go false g false d h k m = m h k

-- all are bytes, or none is: `b` is whether any is
bytes_all : (ls : List Literal) → any_of is_bytes ls && any_of not_bytes ls ≡ false → any_of (λ kind. if any_of is_bytes ls then not (is_bytes kind) else is_bytes kind) ls ≡ false
bytes_all ls h = go (any_of is_bytes ls) refl h
  where
    go : (b : Bool) → any_of is_bytes ls ≡ b → b && any_of not_bytes ls ≡ false → any_of (λ kind. if b then not (is_bytes kind) else is_bytes kind) ls ≡ false
    go true e h = h
    go false e h = e

not_empty_lem : {P : Type 0} (script : List ℕ) → entry script [] ≡ none → P
unfolding entry not_empty first_of
not_empty_lem script e = let z : ◌≡◌ {A = ℕ} 0 1 = cc in absurd (omega arith)

first_plain : (l : Literal) (ls : List Literal) → any_of is_fstring (l ∷ ls) ≡ false → is_fstring l.kind ≡ false
unfolding any_of
first_plain l ls h = (neither (is_fstring l.kind) (any_of is_fstring ls) h).0

-- WITHOUT AN F-STRING: the words of all records are those of one
pub one_record_lem : (look : Naming) → (script : List ℕ) (ls : List Literal) (x : Answer) → any_of is_fstring ls ≡ false → read look script ls ≡ accepts x → all_words x.records ≡ one_record (any_of is_bytes ls) x
one_record_lem look script [] x h e = not_empty_lem script (accepted look script [] x e).passed
one_record_lem look script (l ∷ ls) x h e = go (accepted look script (l ∷ ls) x e)
  where
    b : Bool
    b = any_of is_bytes (l ∷ ls)

    given : (xs : List Item) → read_from look script 0 (l ∷ ls) ≡ accepts xs → Same b xs → (y : Item) × (merged xs ≡ y ∷ []) × Like b y
    given xs r same =
        let (x, ys, i) = some_item look script 0 l ls xs (first_plain l ls h) r in
        rw i (merged_one b x ys (rw i at same))

    go : From look script (l ∷ ls) x → all_words x.records ≡ one_record b x
    go f =
        let xs = f.items in
        let none_is : any_of (other b) (l ∷ ls) ≡ false = none_other b (l ∷ ls) h (bytes_all (l ∷ ls) (not_mixed_lem (l ∷ ls) (passes script (l ∷ ls) f.passed).unmixed)) in
        let same = all_hold look (Same b) tt (same_append b) (other b) script (literal_same look b script) (l ∷ ls) xs none_is f.reads in
        let (y, m, k) = given xs f.reads same in
        rw f.is (one_words b (sort_of (l ∷ ls)) (u_mark (l ∷ ls)) (first_start (l ∷ ls)) (last_end 0 (l ∷ ls)) (all_chars script (l ∷ ls)) xs y m k)
