-- Distinct names, one after another, and names looked up through an index. Assumes nothing.
use mathlib.Core.Path.{◌≡◌, refl, sym, ap, ◌∙◌}
use mathlib.Core.Bool.{true}
use mathlib.Core.List.{List, [], ◌∷◌, ◌++◌, map}
use Prim.{tt}
use Prim.Native.Nat.{ℕ, zero, suc, ◌+◌, ◌≤◌, ◌<◌}
use native.Mathlib.Nat.{not-suc-le-zero, le_of_suc-le-suc}
use native.Mathlib.Omega.{arith}
use lib.ListN.{length, get_or}
use Rattle.definition.specs.Chars.{same, no_code}
use Rattle.definition_names.specs.Names.{at_most, name_of, Entry, at, insert, by_name, lookup_in, code_at}
use Rattle.definition_names.specs.IsIndex.{in_order, count, Perm}
use Rattle.definition.proofs.Moves.CharLaws.{cases, same_true, same_eq}
use Rattle.definition_names.proofs.NameOrder.{order_same}
use Rattle.definition_names.proofs.NameLists.{same?, count_here, count_later, count_none, count_at}
use Rattle.definition_names.proofs.NameIndex.{All, all_none, all_cons, all_first, all_rest, NotIn, Distinct, Faithful}

-- as many entries
insert_length : (e : Entry) (es : List Entry) → length (insert e es) ≡ suc (length es)
unfolding insert
insert_length e [] = refl
insert_length e (f ∷ es) =
    cases (at_most e.name f.name) (λ t. rw t) (λ t. rw t (ap suc (insert_length e es)))

pub by_name_length : (es : List Entry) → length (by_name es) ≡ length es
unfolding by_name
by_name_length [] = refl
by_name_length (e ∷ es) = insert_length e (by_name es) ∙ ap suc (by_name_length es)

-- an element in two places
count_two : (l : List ℕ) (i j : ℕ) → i < j → j < length l → get_or l i 0 ≡ get_or l j 0 → 2 ≤ count (get_or l j 0) l
count_two [] i j h k e = absurd (not-suc-le-zero k)
count_two (y ∷ l) i zero h k e = absurd (not-suc-le-zero h)
count_two (y ∷ l) zero (suc j) h k e =
    let c = count_here (get_or l j 0) y l (sym e) in
    let d = count_at l j (le_of_suc-le-suc k) in
    omega arith
count_two (y ∷ l) (suc i) (suc j) h k e =
    let c = count_two l i j (le_of_suc-le-suc h) (le_of_suc-le-suc k) e in
    same? (get_or l j 0) y (λ q. let d = count_here (get_or l j 0) y l q in omega arith) (λ q. let d = count_later (get_or l j 0) y l q in omega arith)

-- distinct entries have distinct offsets, and one offset to a name
module _ (file : List ℕ) where
  pub not_there : (n : List ℕ) (es : List Entry) → Faithful file es → NotIn n es → (x : ℕ) → name_of file x ≡ n → count x (map at es) ≡ 0
  not_there n [] f a x e = count_none x
  not_there n (g ∷ es) f a x e =
      count_later x (at g) (map at es) (λ q. all_first _ g es a (sym (all_first _ g es f) ∙ ap (name_of file) (sym q) ∙ e)) ∙ not_there n es (all_rest _ g es f) (all_rest _ g es a) x e

  pub distinct_once : (es : List Entry) → Faithful file es → Distinct es → (x : ℕ) → count x (map at es) ≤ 1
  unfolding Distinct
  distinct_once [] f d x = let c = count_none x in omega arith
  distinct_once (e ∷ es) f d x =
      same? x (at e)
      (λ q.
      let c = count_here x (at e) (map at es) q in
      let z = not_there e.name es (all_rest _ e es f) d.0 x (ap (name_of file) q ∙ all_first _ e es f) in
      omega arith)
      (λ q. let c = count_later x (at e) (map at es) q in let m = distinct_once es (all_rest _ e es f) d.1 x in omega arith)

  pub distinct_inj : (es : List Entry) → Faithful file es → Distinct es → (x y : ℕ) → 1 ≤ count x (map at es) → 1 ≤ count y (map at es) → name_of file x ≡ name_of file y → x ≡ y
  unfolding Distinct
  distinct_inj [] f d x y hx hy w = let c = count_none x in absurd (omega arith)
  distinct_inj (e ∷ es) f d x y hx hy w =
      let f' = all_rest _ e es f in
      same? x (at e)
      (λ q.
      same? y (at e) (λ r. q ∙ sym r)
      (λ r.
      let c = count_later y (at e) (map at es) r in
      let z = not_there e.name es f' d.0 y (sym w ∙ ap (name_of file) q ∙ all_first _ e es f) in
      absurd (omega arith)))
      (λ q.
      let b = count_later x (at e) (map at es) q in
      same? y (at e)
      (λ r.
      let z = not_there e.name es f' d.0 x (w ∙ ap (name_of file) r ∙ all_first _ e es f) in
      absurd (omega arith))
      (λ r. let c = count_later y (at e) (map at es) r in distinct_inj es f' d.1 x y (omega arith) (omega arith) w))

  -- offsets in order, one of which has its neighbour's name: then the names are not distinct
  pub falls_twice : (es : List Entry) (l : List ℕ) → Faithful file es → Perm l (map at es) → ((i j : ℕ) → i < j → j < length l → in_order file (get_or l i 0) (get_or l j 0) ≡ true) → (k : ℕ) → k + 1 < length l → in_order file (get_or l (k + 1) 0) (get_or l k 0) ≡ true → Distinct es → ⊥
  falls_twice es l f p s k hi h d =
      let n = order_same file (get_or l k 0) (get_or l (k + 1) 0) (s k (k + 1) (omega arith) hi) h in
      let a = count_at l k (omega arith) in
      let b = count_at l (k + 1) hi in
      let pa = p (get_or l k 0) in
      let pb = p (get_or l (k + 1) 0) in
      let e = distinct_inj es f d (get_or l k 0) (get_or l (k + 1) 0) (omega arith) (omega arith) n in
      let t = count_two l k (k + 1) (omega arith) hi e in
      let o = distinct_once es f d (get_or l (k + 1) 0) in
      omega arith

  -- a name among entries, by the offset that has it
  abbrev Codes : List Entry → Type 0
  Codes es = All (λ e. code_at file e.at ≡ e.code) es

  pub lookup_has : (es : List Entry) (n : List ℕ) → Faithful file es → Codes es → Distinct es → (x : ℕ) → 1 ≤ count x (map at es) → name_of file x ≡ n → lookup_in es n ≡ code_at file x
  unfolding lookup_in Distinct
  lookup_has [] n f c d x h w = let z = count_none x in absurd (omega arith)
  lookup_has (e ∷ es) n f c d x h w =
      same? x (at e)
      (λ q. rw (same_eq e.name n (sym (all_first _ e es f) ∙ ap (name_of file) (sym q) ∙ w)) (sym (all_first _ e es c) ∙ ap (code_at file) (sym q)))
      (λ q.
      let b = count_later x (at e) (map at es) q in
      cases (same e.name n)
      (λ t.
      let z = not_there e.name es (all_rest _ e es f) d.0 x (w ∙ sym (same_true e.name n t)) in
      absurd (omega arith))
      (λ t. rw t (lookup_has es n (all_rest _ e es f) (all_rest _ e es c) d.1 x (omega arith) w)))

  pub lookup_none : (es : List Entry) (n : List ℕ) → Faithful file es → ((x : ℕ) → 1 ≤ count x (map at es) → name_of file x ≡ n → ⊥) → lookup_in es n ≡ no_code
  unfolding lookup_in
  lookup_none [] n f h = refl
  lookup_none (e ∷ es) n f h =
      cases (same e.name n)
      (λ t. absurd (h (at e) (let c = count_here (at e) (at e) (map at es) refl in omega arith) (all_first _ e es f ∙ same_true e.name n t)))
      (λ t.
      rw t
      (lookup_none es n (all_rest _ e es f)
      (λ x k w.
      h x (same? x (at e) (λ q. let c = count_here x (at e) (map at es) q in omega arith) (λ q. let c = count_later x (at e) (map at es) q in omega arith)) w)))

-- names distinct in two runs of entries
pub all_append : (P : Entry → Type 0) (a b : List Entry) → All P a → All P b → All P (a ++ b)
all_append P [] b x y = y
all_append P (e ∷ a) b x y = all_cons P e (a ++ b) (all_first P e a x) (all_append P a b (all_rest P e a x) y)

pub all_left : (P : Entry → Type 0) (a b : List Entry) → All P (a ++ b) → All P a
all_left P [] b x = all_none P
all_left P (e ∷ a) b x = all_cons P e a (all_first P e (a ++ b) x) (all_left P a b (all_rest P e (a ++ b) x))

pub all_right : (P : Entry → Type 0) (a b : List Entry) → All P (a ++ b) → All P b
all_right P [] b x = x
all_right P (e ∷ a) b x = all_right P a b (all_rest P e (a ++ b) x)

pub distinct_left : (a b : List Entry) → Distinct (a ++ b) → Distinct a
unfolding Distinct
distinct_left [] b d = tt
distinct_left (e ∷ a) b d = (all_left _ a b d.0, distinct_left a b d.1)

pub distinct_right : (a b : List Entry) → Distinct (a ++ b) → Distinct b
unfolding Distinct
distinct_right [] b d = d
distinct_right (e ∷ a) b d = distinct_right a b d.1

-- no entry of b has the name of one of a
abbrev pub Apart : List Entry → List Entry → Type 0
Apart a b = All (λ e. NotIn e.name b) a

pub distinct_join : (a b : List Entry) → Distinct a → Distinct b → Apart a b → Distinct (a ++ b)
unfolding Distinct
distinct_join [] b d h x = h
distinct_join (e ∷ a) b d h x =
    (all_append _ a b d.0 (all_first _ e a x), distinct_join a b d.1 h (all_rest _ e a x))

pub distinct_apart : (a b : List Entry) → Distinct (a ++ b) → Apart a b
unfolding Distinct
distinct_apart [] b d = all_none _
distinct_apart (e ∷ a) b d = all_cons _ e a (all_right _ a b d.0) (distinct_apart a b d.1)
