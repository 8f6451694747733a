-- Room known beforehand: what an accepted list needs at most, and that a call with so much room is never refused for room. Assumes nothing.
use Rattle.std.specs.Prelude.{if◌then◌else◌}
use mathlib.Core.Path.{◌≡◌, refl, ap}
use mathlib.Core.Bool.{Bool, true, false}
use mathlib.Core.List.{List, [], ◌∷◌, ◌++◌, map}
use mathlib.Core.Option.{Option, none, some}
use Prim.Native.Nat.{ℕ, zero, suc, ◌+◌, ◌*◌, ◌≤◌}
use native.Mathlib.Omega.{arith}
use lib.ListN.{length, length-append, length-map}
use Rattle.definition.specs.Numbers.{is_bytes}
use Rattle.definition.specs.Escapes.{Naming, Read, got, refused}
use Rattle.definition.specs.Body.{Piece, literal, field, spec, read_body}
use Rattle.definition.specs.Records.{touching, Item, raw, top, item, item_of, glue, merge, both_items, merged, texts, cover, Answer, answer_of}
use Rattle.definition.specs.Entry.{Literal, sixes, place_of, body, Refusal, refusal, total, first_start, entry}
use Rattle.definition.specs.Reading.{Outcome, accepts, refuses, read_literal, and_then, read_from, u_mark, last_end, answered, read, roomed, called, read_into, read_numbers, numbers_by}
use Rattle.definition_laws.proofs.Moves.Moves.{part_short}
use Rattle.definition_laws.proofs.Join.Seam.{glue_true, glue_false}
use Rattle.definition_laws.proofs.Join.Laid.{item_role, laid_length, texts_merged}
use Rattle.definition_laws.proofs.Outcomes.Room.{roomed_enough, Below, read_below}
use Rattle.definition_laws.proofs.Outcomes.Tight.{bytes, Fits, body_fits}

-- JOINING MAKES FEWER
glued_fewer : (a : Item) (xs : List Item) → length (glue item_role both_items a xs) ≤ suc (length xs)
unfolding glue
glued_fewer a [] = omega arith
glued_fewer a (b ∷ bs) = go (touching a.role b.role) refl
  where
    go : (t : Bool) → touching a.role b.role ≡ t → length (glue item_role both_items a (b ∷ bs)) ≤ suc (suc (length bs))
    go true t = rw (glue_true item_role both_items a b bs t) (omega arith)
    go false t = rw (glue_false item_role both_items a b bs t) (omega arith)

pub merged_fewer : (xs : List Item) → length (merged xs) ≤ length xs
unfolding merged merge
merged_fewer [] = omega arith
merged_fewer (x ∷ xs) = omega (arith, glued_fewer x (merged xs), merged_fewer xs)

-- items have the text of their pieces
module _ (kind start end base : ℕ) where
  abbrev items : List Piece → List Item
  items ps = map (item_of kind start end base) ps

  top_text : (t : List ℕ) → (item_of kind start end base (literal zero t)).text ≡ t
  unfolding item_of item
  top_text t = go (is_bytes kind)
    where
      go : (b : Bool) → (if b then item raw 4 t start end 0 0 0 else item top 1 t start end 0 0 0).text ≡ t
      go true = refl
      go false = refl

  items_text : (ps : List Piece) → length (texts (items ps)) ≡ bytes ps
  unfolding texts item_of item
  items_text [] = refl
  items_text (literal zero t ∷ ps) =
      let x = item_of kind start end base (literal zero t) in
      omega (arith, length-append x.text (texts (items ps)), ap length (top_text t), items_text ps)
  items_text (literal (suc d) t ∷ ps) = omega (arith, length-append t (texts (items ps)), items_text ps)
  items_text (field d e c n i g ∷ ps) = omega (arith, length-append e (texts (items ps)), items_text ps)
  items_text (spec n ∷ ps) = items_text ps

texts_append : (xs ys : List Item) → length (texts (xs ++ ys)) ≡ length (texts xs) + length (texts ys)
unfolding texts
texts_append [] ys = omega arith
texts_append (x ∷ xs) ys = omega (arith, length-append x.text (texts (xs ++ ys)), length-append x.text (texts xs), texts_append xs ys)

-- THE ITEMS OF A LIST: n records and t text bytes at most
abbrev ItemsNeed : ℕ → ℕ → Outcome (List Item) → Type 0
ItemsNeed n t (accepts xs) = (length xs ≤ n) × (length (texts xs) ≤ t)
ItemsNeed n t (refuses r) = Unit {0}

literal_needs : (look : Naming) → (script : List ℕ) (i : ℕ) (l : Literal) → ItemsNeed (l.size + 1) (2 * l.size) (read_literal look script i l)
unfolding read_literal body
literal_needs look script i l = go (read_body look l.kind (body script l)) refl (body_fits look l.kind (body script l))
  where
    go : (r : Read (List Piece)) → read_body look l.kind (body script l) ≡ r → Fits (length (body script l)) r → ItemsNeed (l.size + 1) (2 * l.size) (read_literal look script i l)
    go (got ps j) e h =
        let short = part_short script l.offset (l.offset + l.size) in
        rw (e, read_literal)
        (omega (arith, length-map ps (item_of l.kind l.start l.end (place_of l 0))), omega (arith, items_text l.kind l.start l.end (place_of l 0) ps))
    go (refused x) e h = rw (e, read_literal) tt

then_needs : (n t n' t' : ℕ) (o p : Outcome (List Item)) → ItemsNeed n t o → ItemsNeed n' t' p → ItemsNeed (n + n') (t + t') (and_then o p)
unfolding and_then
then_needs n t n' t' (refuses r) p h k = tt
then_needs n t n' t' (accepts xs) (refuses r) h k = tt
then_needs n t n' t' (accepts xs) (accepts ys) h k = (omega (arith, length-append xs ys), omega (arith, texts_append xs ys))

more_needs : (n t n' t' : ℕ) (o : Outcome (List Item)) → n ≤ n' → t ≤ t' → ItemsNeed n t o → ItemsNeed n' t' o
more_needs n t n' t' (accepts xs) h k p = (omega arith, omega arith)
more_needs n t n' t' (refuses r) h k p = tt

from_needs : (look : Naming) → (script : List ℕ) (i : ℕ) (ls : List Literal) → ItemsNeed (total ls + length ls) (2 * total ls) (read_from look script i ls)
unfolding read_from total texts
from_needs look script i [] = (omega arith, omega arith)
from_needs look script i (l ∷ ls) =
    more_needs (l.size + 1 + (total ls + length ls)) (2 * l.size + 2 * total ls) (total (l ∷ ls) + length (l ∷ ls)) (2 * total (l ∷ ls)) (and_then (read_literal look script i l) (read_from look script (suc i) ls)) (omega arith) (omega arith)
    (then_needs (l.size + 1) (2 * l.size) (total ls + length ls) (2 * total ls) (read_literal look script i l) (read_from look script (suc i) ls) (literal_needs look script i l) (from_needs look script (suc i) ls))

-- AN ANSWER NEEDS AT MOST a record for each body byte and each literal, and two text bytes for each body byte
abbrev pub Needs : List Literal → Outcome Answer → Type 0
Needs ls (accepts x) = (length x.records ≤ total ls + length ls) × (length x.text ≤ 2 * total ls)
Needs ls (refuses r) = Unit {0}

answered_needs : (script : List ℕ) (ls : List Literal) (o : Outcome (List Item)) → ItemsNeed (total ls + length ls) (2 * total ls) o → Needs ls (answered script ls o)
unfolding answered answer_of
answered_needs script ls (refuses r) h = tt
answered_needs script ls (accepts xs) h = (omega (arith, laid_length (cover (first_start ls) (last_end 0 ls) (u_mark ls)) 0 (merged xs), merged_fewer xs), omega (arith, ap length (texts_merged xs)))

read_need : (look : Naming) → (script : List ℕ) (ls : List Literal) → Needs ls (read look script ls)
unfolding read
read_need look script ls = go (entry script ls) refl
  where
    go : (c : Option Refusal) → entry script ls ≡ c → Needs ls (read look script ls)
    go none e = rw (e, read) (answered_needs script ls (read_from look script 0 ls) (from_needs look script 0 ls))
    go (some r) e = rw (e, read) tt

pub read_needs : (look : Naming) → (script : List ℕ) (ls : List Literal) (x : Answer) → read look script ls ≡ accepts x → (length x.records ≤ total ls + length ls) × (length x.text ≤ 2 * total ls)
read_needs look script ls x e = rw e at (read_need look script ls)

-- SO MUCH IS LENT: eight words for each record, and the text bytes
abbrev pub Lent : List Literal → List ℕ → List ℕ → Type 0
Lent ls words text = ((total ls + length ls) * 8 ≤ length words) × (2 * total ls ≤ length text)

roomed_lent : (ls : List Literal) (words text : List ℕ) (o : Outcome Answer) → Lent ls words text → Needs ls o → roomed (length words) (length text) o ≡ o
unfolding roomed
roomed_lent ls words text (refuses r) h k = refl
roomed_lent ls words text (accepts x) h k = roomed_enough (length words) (length text) x (omega arith) (omega arith)

-- THEN A CALL RETURNS WHAT IS READ WITH ROOM FOR ANYTHING, and is never refused by 30 or 31
module _ (look : Naming) (script words text : List ℕ) where
  pub into_lent : (ls : List Literal) → Lent ls words text → read_into look script ls words text ≡ called (read look script ls) words text
  unfolding read_into
  into_lent ls h = ap (λ o. called o words text) (roomed_lent ls words text (read look script ls) h (read_need look script ls))

  pub numbers_lent : (ns : List ℕ) (ls : List Literal) → sixes ns ≡ some ls → Lent ls words text → read_numbers look script ns words text ≡ called (read look script ls) words text
  unfolding read_numbers numbers_by
  numbers_lent ns ls e h = rw (e, read_numbers, numbers_by) (into_lent ls h)

  pub into_below : (ls : List Literal) → Lent ls words text → Below (read_into look script ls words text).outcome
  unfolding called
  into_below ls h = rw (into_lent ls h) (read_below look script ls)

  pub numbers_below : (ns : List ℕ) → ((ls : List Literal) → sixes ns ≡ some ls → Lent ls words text) → Below (read_numbers look script ns words text).outcome
  unfolding read_numbers numbers_by called refusal
  numbers_below ns h = go (sixes ns) refl
    where
      go : (o : Option (List Literal)) → sixes ns ≡ o → Below (read_numbers look script ns words text).outcome
      go none e = rw (e, read_numbers, numbers_by) (omega arith)
      go (some ls) e = rw (e, read_numbers, numbers_by) (into_below ls (h ls e))
