-- EVERY READING'S TEXTS ARE UTF-8, so what it leaves is well formed when it is lent again. Assumes nothing.
use mathlib.Core.Path.{◌≡◌, refl, sym, ◌∙◌, ap}
use mathlib.Core.Bool.{Bool, true, false, ◌&&◌, ◌||◌, true≢false}
use mathlib.Core.List.{List, [], ◌∷◌, ◌++◌, map, append_assoc}
use mathlib.Core.Option.{Option, none, some}
use Prim.{Unit, tt}
use Prim.Native.String.{String}
use Prim.Native.Nat.{ℕ, zero, suc, ◌+◌, ◌≤◌, ◌<◌}
use native.Mathlib.Nat.{add-sub_cancel_left}
use native.Mathlib.Omega.{arith}
use lib.Dec.{ltb, leb, eqb}
use lib.ListN.{length, length-append}
use lib.Seq.{take-append_seam, drop-append_seam}
use borrow.Author.Tests.{eq-eqb, ltb-true, ltb-false, leb-true}
use Rattle.definition.specs.Numbers.{is_fstring, is_bytes, not_utf8, not_sixes}
use Rattle.definition.specs.Chars.{ascii, part, no_code, well_formed, same}
use Rattle.definition.specs.Escapes.{Naming, got, held, lookup, held_names}
use Rattle.definition.specs.Body.{Piece, literal, field, spec, read_body}
use Rattle.definition.specs.Records.{Role, top, raw, inner, touching, Item, item, item_of, glue, merge, both_items, merged, texts, record_at, laid, cover, Answer, answer_of}
use Rattle.definition.specs.Entry.{Literal, sixes, place_of, body, Refusal, refusal, first_bad, formed, ill_formed, all_utf8}
use Rattle.definition.specs.Reading.{Outcome, accepts, refuses, read, read_literal, read_from, Call, called, read_into, read_numbers, numbers_by}
use Rattle.definition_formed.specs.Formed.{is_utf8, texts_utf8, is_formed}
use Rattle.definition.proofs.Moves.CharLaws.{cases, either}
use Rattle.definition_laws.proofs.Join.EntrySplit.{Each, passes}
use Rattle.definition_laws.proofs.Formed.Accepted.{accepted, Holds, each_holds, literal_holds, f_no_bytes, alone_piece}
use Rattle.definition_laws.proofs.Outcomes.Room.{roomed_accepts}
use Rattle.definition_laws.proofs.Characters.Utf8.{Scalar, below, above}
use Rattle.definition_names.specs.Names.{is_scalar, searched}
use Rattle.definition_names.specs.NamedReading.{named_numbers}
use Rattle.definition_names.proofs.NamesShown.{Coded, coded, uncoded, searched_coded}
use Rattle.definition_names.proofs.NameCalls.{by_check}
use Rattle.definition_formed.proofs.Characters.WholeChars.{Chars, no_char, chars_append, chars_utf8, utf8_chars}
use Rattle.definition_formed.proofs.Characters.TextsRead.{Scalars, AllFine, body_fine}
use Rattle.definition_formed.proofs.Formed.FormedLaws.{both}
use Rattle.definition_formed.proofs.Formed.LentAgain.{lent_of, into_again}

-- an item's text: bytes are kind 4, all else is characters
abbrev RoleFine : Role → ℕ → List ℕ → Type 0
RoleFine raw k t = k ≡ 4
RoleFine top k t = Chars t
RoleFine inner k t = Chars t

abbrev ItemFine : Item → Type 0
ItemFine x = RoleFine x.role x.kind x.text

abbrev ItemsFine : List Item → Type 0
ItemsFine [] = Unit {0}
ItemsFine (x ∷ xs) = ItemFine x × ItemsFine xs

items_append : (xs ys : List Item) → ItemsFine xs → ItemsFine ys → ItemsFine (xs ++ ys)
items_append [] ys p q = q
items_append (x ∷ xs) ys p q = (p.0, items_append xs ys p.1 q)

both_fine : (r r' : Role) (k k' : ℕ) (t t' : List ℕ) → touching r r' ≡ true → RoleFine r k t → RoleFine r' k' t' → RoleFine r k (t ++ t')
unfolding touching
both_fine top top k k' t t' e p q = chars_append t t' p q
both_fine top raw k k' t t' e p q = let z : ◌≡◌ {A = ℕ} 0 1 = cc in absurd (omega arith)
both_fine top inner k k' t t' e p q = let z : ◌≡◌ {A = ℕ} 0 1 = cc in absurd (omega arith)
both_fine raw r' k k' t t' e p q = p
both_fine inner r' k k' t t' e p q = let z : ◌≡◌ {A = ℕ} 0 1 = cc in absurd (omega arith)

glue_fine : (x : Item) (xs : List Item) → ItemFine x → ItemsFine xs → ItemsFine (glue (λ x. x.role) both_items x xs)
unfolding glue both_items
glue_fine x [] p q = (p, tt)
glue_fine x (y ∷ ys) p q =
    cases (touching x.role y.role) (λ e. rw (e, glue) (both_fine x.role y.role x.kind y.kind x.text y.text e p q.0, q.1)) (λ e. rw (e, glue) (p, q))

merged_fine : (xs : List Item) → ItemsFine xs → ItemsFine (merged xs)
unfolding merged merge
merged_fine [] p = tt
merged_fine (x ∷ xs) p = glue_fine x (merged xs) p.0 (merged_fine xs p.1)

-- the records' texts
part_at : (n : ℕ) (before t rest : List ℕ) → length before ≡ n → part (before ++ (t ++ rest)) n (n + length t) ≡ t
part_at n before t rest l = rw (← l, add-sub_cancel_left, drop-append_seam before (t ++ rest)) (take-append_seam t rest)

role_utf8 : (r : Role) (k : ℕ) (t : List ℕ) → RoleFine r k t → (eqb k 4 || is_utf8 t) ≡ true
role_utf8 raw k t p = rw (eq-eqb k 4 p) refl
role_utf8 top k t p = rw (chars_utf8 t p) (last (eqb k 4))
  where
    last : (b : Bool) → (b || true) ≡ true
    last true = refl
    last false = refl
role_utf8 inner k t p = rw (chars_utf8 t p) (last (eqb k 4))
  where
    last : (b : Bool) → (b || true) ≡ true
    last true = refl
    last false = refl

laid_utf8 : (S E u n : ℕ) (before : List ℕ) (xs : List Item) → length before ≡ n → ItemsFine xs → texts_utf8 (before ++ texts xs) (map (cover S E u) (laid n xs)) ≡ true
unfolding texts_utf8 texts laid record_at cover
laid_utf8 S E u n before [] l p = refl
laid_utf8 S E u n before (x ∷ xs) l p =
    let e : length (before ++ x.text) ≡ n + length x.text = length-append before x.text ∙ ap (λ k. k + length x.text) l in
    let k = rw append_assoc at (laid_utf8 S E u (n + length x.text) (before ++ x.text) xs e p.1) in
    rw (part_at n before x.text (texts xs) l, role_utf8 x.role x.kind x.text p.0) k

-- THE BODIES that pass 6 are characters
ill_not : (script : List ℕ) (p : ℕ) (l : Literal) → ill_formed script p l ≡ false → length (body script l) ≤ well_formed (body script l)
unfolding ill_formed formed
ill_not script p l e = ltb-false (well_formed (body script l)) (length (body script l)) e

module _ (script : List ℕ) (why : ℕ → Literal → Refusal) where
  next_bad : (p i : ℕ) (l : Literal) (ls : List Literal) → first_bad (ill_formed script) why p i (l ∷ ls) ≡ none → (ill_formed script p l ≡ false) × (first_bad (ill_formed script) why l.end (suc i) ls ≡ none)
  unfolding first_bad
  next_bad p i l ls e = go (ill_formed script p l) refl
    where
      go : (b : Bool) → ill_formed script p l ≡ b → (ill_formed script p l ≡ false) × (first_bad (ill_formed script) why l.end (suc i) ls ≡ none)
      go true t = let z : ◌≡◌ {A = Option Refusal} (some (why i l)) none = rw (t, first_bad) at e in (cc, cc)
      go false t = (t, rw (t, first_bad) at e)

  each_chars : (p i : ℕ) (ls : List Literal) → first_bad (ill_formed script) why p i ls ≡ none → Each (λ l. Chars (body script l)) ls
  each_chars p i [] e = tt
  each_chars p i (l ∷ ls) e = let h = next_bad p i l ls e in (utf8_chars (body script l) (ill_not script p l h.0), each_chars l.end (suc i) ls h.1)

bodies_chars : (script : List ℕ) (ls : List Literal) → all_utf8 script ls ≡ none → Each (λ l. Chars (body script l)) ls
unfolding all_utf8
bodies_chars script ls e = each_chars script (λ i l. refusal not_utf8 i (place_of l (formed script l)) 0 0) 0 0 ls e

-- ITEMS of a body
pieces_items : (look : Naming) (names : Scalars look) (s : List ℕ) (kind start end base : ℕ) (b : is_bytes kind ≡ false) (ps : List Piece) → AllFine s look names kind b ps → ItemsFine (map (item_of kind start end base) ps)
unfolding item_of item
pieces_items look names s kind start end base b [] p = tt
pieces_items look names s kind start end base b (literal zero t ∷ ps) p = rw b (p.0, pieces_items look names s kind start end base b ps p.1)
pieces_items look names s kind start end base b (literal (suc d) t ∷ ps) p = (p.0, pieces_items look names s kind start end base b ps p.1)
pieces_items look names s kind start end base b (field d e c n i g ∷ ps) p = (p.0, pieces_items look names s kind start end base b ps p.1)
pieces_items look names s kind start end base b (spec n ∷ ps) p = (no_char, pieces_items look names s kind start end base b ps p.1)

bytes_item : (kind start end base : ℕ) (t : List ℕ) → is_bytes kind ≡ true → ItemsFine (map (item_of kind start end base) (literal 0 t ∷ []))
unfolding item_of item
bytes_item kind start end base t b = rw b (refl, tt)

not_f : (kind : ℕ) → is_bytes kind ≡ true → is_fstring kind ≡ false
not_f kind b = cases (is_fstring kind) (λ f. let z : ◌≡◌ {A = Bool} true false = sym b ∙ f_no_bytes kind f in absurd (true≢false z)) (λ f. f)

as_list : (look : Naming) (script ns words text : List ℕ) (ls : List Literal) → sixes ns ≡ some ls → read_numbers look script ns words text ≡ read_into look script ls words text
unfolding read_numbers numbers_by
as_list look script ns words text ls e = rw (e, read_numbers, numbers_by) refl

none_read : {P : Type 0} (look : Naming) (script ns words text : List ℕ) (x : Answer) → sixes ns ≡ none → (read_numbers look script ns words text).outcome ≡ accepts x → P
unfolding read_numbers numbers_by called
none_read look script ns words text x z e = let k : ◌≡◌ {A = Outcome Answer} (refuses (refusal not_sixes 0 0 0 0)) (accepts x) = rw (z, read_numbers, numbers_by) at e in let y : ◌≡◌ {A = ℕ} 0 1 = cc in absurd (omega arith)

-- WHAT A CALL LEAVES AFTER AN ACCEPTANCE is well formed when it is lent again
abbrev pub LeavesFormed : Call → Type 0
LeavesFormed c = (x : Answer) → c.outcome ≡ accepts x → is_formed (lent_of c) ≡ true

module _ (look : Naming) (names : Scalars look) where
  literal_fine : (script : List ℕ) (i : ℕ) (l : Literal) → Chars (body script l) → Holds look ItemsFine tt items_append (read_literal look script i l)
  literal_fine script i l p = literal_holds look ItemsFine tt items_append script i l (λ ps j e. cases (is_bytes l.kind) (λ b. as_bytes ps j e b) (λ b. as_text ps j e b))
    where
      as_bytes : (ps : List Piece) (j : ℕ) → read_body look l.kind (body script l) ≡ got ps j → is_bytes l.kind ≡ true → ItemsFine (map (item_of l.kind l.start l.end (place_of l 0)) ps)
      as_bytes ps j e b = let t = alone_piece look l.kind (body script l) ps j (not_f l.kind b) e in rw t.1 (bytes_item l.kind l.start l.end (place_of l 0) t.0 b)

      as_text : (ps : List Piece) (j : ℕ) → read_body look l.kind (body script l) ≡ got ps j → is_bytes l.kind ≡ false → ItemsFine (map (item_of l.kind l.start l.end (place_of l 0)) ps)
      as_text ps j e b =
          let h : AllFine (body script l) look names l.kind b ps = rw e at (body_fine (body script l) look names l.kind b p) in
          pieces_items look names (body script l) l.kind l.start l.end (place_of l 0) b ps h

  items_fine : (script : List ℕ) (ls : List Literal) (xs : List Item) → all_utf8 script ls ≡ none → read_from look script 0 ls ≡ accepts xs → ItemsFine xs
  items_fine script ls xs u e = each_holds look ItemsFine tt items_append (λ l. Chars (body script l)) script (literal_fine script) ls xs (bodies_chars script ls u) e

  -- THE TEXTS OF AN ACCEPTED READING
  pub read_utf8 : (script : List ℕ) (ls : List Literal) (x : Answer) → read look script ls ≡ accepts x → texts_utf8 x.text x.records ≡ true
  unfolding answer_of
  read_utf8 script ls x h =
      let f = accepted look script ls x h in
      rw f.is (laid_utf8 _ _ _ 0 [] (merged f.items) refl (merged_fine f.items (items_fine script ls f.items (passes script ls f.passed).well f.reads)))

  -- of descriptors, and of flat numbers
  pub into_formed : (script : List ℕ) (ls : List Literal) (words text : List ℕ) → LeavesFormed (read_into look script ls words text)
  unfolding read_into called
  into_formed script ls words text x e =
      into_again look script ls words text x e ∙ read_utf8 script ls x (roomed_accepts (length words) (length text) (read look script ls) x e)

  pub numbers_formed : (script ns words text : List ℕ) → LeavesFormed (read_numbers look script ns words text)
  numbers_formed script ns words text x e = go (sixes ns) refl
    where
      go : (o : Option (List Literal)) → sixes ns ≡ o → is_formed (lent_of (read_numbers look script ns words text)) ≡ true
      go none z = none_read look script ns words text x z e
      go (some ls) z = rw (as_list look script ns words text ls z) (into_formed script ls words text x (rw (as_list look script ns words text ls z) at e))

-- THE HELD NAMES have scalars
unfoldable all_scalar : List (String × ℕ) → Bool
all_scalar [] = true
all_scalar (h ∷ hs) = (ltb h.1 0xD800 && all_scalar hs)

lookup_scalar : (hs : List (String × ℕ)) → all_scalar hs ≡ true → Scalars (lookup hs)
unfolding lookup all_scalar
lookup_scalar [] a t n = absurd (n refl)
lookup_scalar (h ∷ hs) a t n = go (same (ascii h.0) t) refl (λ n. lookup_scalar hs (both (ltb h.1 0xD800) (all_scalar hs) a).1 t n)
  where
    first : h.1 < 0xD800
    first = ltb-true h.1 0xD800 (both (ltb h.1 0xD800) (all_scalar hs) a).0

    go : (b : Bool) → same (ascii h.0) t ≡ b → ((lookup hs t ≡ no_code → ⊥) → Scalar (lookup hs t)) → Scalar (lookup (h ∷ hs) t)
    go true e ih = rw (e, lookup) (below first)
    go false e ih = rw (e, lookup) (ih (rw (e, lookup) at n))

pub held_scalars : Scalars held_names
unfolding all_scalar
held_scalars = lookup_scalar held refl

-- A LENT FILE'S have scalars too, checked or not
scalar_of : (c : ℕ) → is_scalar c ≡ true → Scalar c
scalar_of c h =
    either (ltb c 0xD800) (leb 0xE000 c && ltb c no_code) h (λ t. below (ltb-true c 0xD800 t))
    (λ t. let p = both (leb 0xE000 c) (ltb c no_code) t in above (leb-true 0xE000 c p.0) (let k = ltb-true c no_code p.1 in omega arith))

pub searched_scalars : (file index : List ℕ) → Scalars (searched file index)
searched_scalars file index t n = go (searched_coded file index t)
  where
    go : Coded (searched file index t) → Scalar (searched file index t)
    go (coded h) = scalar_of (searched file index t) h
    go (uncoded h) = absurd (n h)

-- EVERY CALL: with the held names, with a file that is searched, and with one that is checked
pub held_formed : (script ns words text : List ℕ) → LeavesFormed (read_numbers held_names script ns words text)
held_formed = numbers_formed held_names held_scalars

pub searched_formed : (file index script ns words text : List ℕ) → LeavesFormed (read_numbers (searched file index) script ns words text)
searched_formed file index = numbers_formed (searched file index) (searched_scalars file index)

pub named_formed : (file index script ns words text : List ℕ) → LeavesFormed (named_numbers file index script ns words text)
unfolding called
named_formed file index script ns words text =
    by_check file index script ns words text LeavesFormed (searched_formed file index script ns words text) (λ r h x e. let z : ◌≡◌ {A = ℕ} 0 1 = cc in absurd (omega arith))
