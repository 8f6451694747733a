-- The index of a file's entries: the one list of their offsets that rises by name. Assumes nothing.
use mathlib.Core.Path.{◌≡◌, refl, sym, ◌∙◌}
use mathlib.Core.Bool.{true, false}
use mathlib.Core.List.{List, [], ◌∷◌, map}
use Prim.{Unit, tt}
use Prim.Native.Nat.{ℕ, zero, suc, ◌≤◌, ◌<◌}
use native.Mathlib.Nat.{not-suc-le-zero, le_of_suc-le-suc}
use native.Mathlib.Omega.{arith}
use lib.Dec.{ltb}
use lib.ListN.{length, get_or}
use borrow.Author.Tests.{ltb-true, ltb-false}
use Rattle.definition.specs.Chars.{same}
use Rattle.definition_names.specs.Names.{at_most, name_of, Entry, at, insert, by_name, index_of, has, twice}
use Rattle.definition_names.specs.IsIndex.{in_order, count, Perm, Rising}
use Rattle.definition.proofs.Moves.CharLaws.{cases, same_true, same_eq}
use Rattle.definition_names.proofs.NameOrder.{never, trans, antisym, refl_most, order_total, order_refl}
use Rattle.definition_names.proofs.NameLists.{same?, count_here, count_later, stands, more_first, swap_first, pigeons, rising_once, unique}

-- a property of every entry
unfoldable pub All : (Entry → Type 0) → List Entry → Type 0
All P [] = Unit {0}
All P (e ∷ es) = P e × All P es

module _ (P : Entry → Type 0) where
  pub all_none : All P []
  unfolding All
  all_none = tt

  pub all_cons : (e : Entry) (es : List Entry) → P e → All P es → All P (e ∷ es)
  unfolding All
  all_cons e es p a = (p, a)

  pub all_first : (e : Entry) (es : List Entry) → All P (e ∷ es) → P e
  unfolding All
  all_first e es a = a.0

  pub all_rest : (e : Entry) (es : List Entry) → All P (e ∷ es) → All P es
  unfolding All
  all_rest e es a = a.1

  pub all_insert : (e : Entry) (es : List Entry) → P e → All P es → All P (insert e es)
  unfolding insert
  all_insert e [] p a = all_cons e [] p a
  all_insert e (f ∷ es) p a =
      cases (at_most e.name f.name) (λ t. rw t (all_cons e (f ∷ es) p a))
      (λ t. rw t (all_cons f (insert e es) (all_first f es a) (all_insert e es p (all_rest f es a))))

  pub all_by_name : (es : List Entry) → All P es → All P (by_name es)
  unfolding by_name
  all_by_name [] a = all_none
  all_by_name (e ∷ es) a = all_insert e (by_name es) (all_first e es a) (all_by_name es (all_rest e es a))

pub all_map : (P Q : Entry → Type 0) → ((e : Entry) → P e → Q e) → (es : List Entry) → All P es → All Q es
all_map P Q f [] a = all_none Q
all_map P Q f (e ∷ es) a = all_cons Q e es (f e (all_first P e es a)) (all_map P Q f es (all_rest P e es a))

-- no entry has the name; no two have one name
abbrev pub NotIn : List ℕ → List Entry → Type 0
NotIn n es = All (λ f. f.name ≡ n → ⊥) es

unfoldable pub Distinct : List Entry → Type 0
Distinct [] = Unit {0}
Distinct (e ∷ es) = NotIn e.name es × Distinct es

pub has_false : (es : List Entry) (n : List ℕ) → has es n ≡ false → NotIn n es
unfolding has
has_false [] n t = all_none _
has_false (e ∷ es) n t =
    cases (same e.name n) (λ u. never (rw u at t) refl)
    (λ u. all_cons _ e es (λ z. never u (same_eq e.name n z)) (has_false es n (rw u at t)))

pub has_true : (es : List Entry) (n : List ℕ) → has es n ≡ true → NotIn n es → ⊥
unfolding has
has_true [] n t a = never refl t
has_true (e ∷ es) n t a =
    cases (same e.name n) (λ u. all_first _ e es a (same_true e.name n u))
    (λ u. has_true es n (rw u at t) (all_rest _ e es a))

pub twice_false : (es : List Entry) → twice es ≡ false → Distinct es
unfolding twice Distinct
twice_false [] t = tt
twice_false (e ∷ es) t =
    cases (has es e.name) (λ u. never (rw u at t) refl)
    (λ u. (has_false es e.name u, twice_false es (rw u at t)))

pub twice_true : (es : List Entry) → twice es ≡ true → Distinct es → ⊥
unfolding twice Distinct
twice_true [] t d = never refl t
twice_true (e ∷ es) t d =
    cases (has es e.name) (λ u. has_true es e.name u d.0) (λ u. twice_true es (rw u at t) d.1)

pub distinct_twice : (es : List Entry) → Distinct es → twice es ≡ false
distinct_twice es d = cases (twice es) (λ t. absurd (twice_true es t d)) (λ t. t)

-- entries that rise by name
Up : List Entry → Type 0
Up [] = Unit {0}
Up (e ∷ es) = All (λ f. at_most f.name e.name ≡ false) es × Up es

up_insert : (e : Entry) (es : List Entry) → NotIn e.name es → Up es → Up (insert e es)
unfolding insert Up
up_insert e [] n u = (all_none _, tt)
up_insert e (f ∷ es) n u =
    cases (at_most e.name f.name)
    (λ t.
    rw t (
      all_cons _ f es
          (cases (at_most f.name e.name) (λ s. absurd (all_first _ f es n (antisym f.name e.name s t))) (λ s. s))
          (all_map _ _ (λ g h. cases (at_most g.name e.name) (λ s. never h (trans g.name e.name f.name s t)) (λ s. s)) es u.0),
      u,
    ))
    (λ t. rw t (all_insert _ e es t u.0, up_insert e es (all_rest _ f es n) u.1))

up_by_name : (es : List Entry) → Distinct es → Up (by_name es)
unfolding by_name Distinct Up
up_by_name [] d = tt
up_by_name (e ∷ es) d = up_insert e (by_name es) (all_by_name _ es d.0) (up_by_name es d.1)

-- ordering keeps the offsets
perm_insert : (x : ℕ) (e : Entry) (es : List Entry) → count x (map at (insert e es)) ≡ count x (at e ∷ map at es)
unfolding insert
perm_insert x e [] = refl
perm_insert x e (f ∷ es) =
    cases (at_most e.name f.name) (λ t. rw t)
    (λ t. rw t (swap_first x (at e) (at f) (map at (insert e es)) (map at es) (perm_insert x e es)))

pub perm_by_name : (es : List Entry) → Perm (index_of es) (map at es)
unfolding by_name
perm_by_name [] x = refl
perm_by_name (e ∷ es) x = perm_insert x e (by_name es) ∙ more_first x (at e) (index_of es) (map at es) (perm_by_name es x)

-- the names that stand in a file at the entries' offsets
abbrev pub Faithful : List ℕ → List Entry → Type 0
Faithful file es = All (λ e. name_of file e.at ≡ e.name) es

module _ (file : List ℕ) where
  up_at : (n : List ℕ) (es : List Entry) → Faithful file es → All (λ f. at_most f.name n ≡ false) es → (i : ℕ) → i < length (map at es) → at_most (name_of file (get_or (map at es) i 0)) n ≡ false
  up_at n [] f u i h = absurd (not-suc-le-zero h)
  up_at n (e ∷ es) f u zero h = rw (all_first _ e es f) (all_first _ e es u)
  up_at n (e ∷ es) f u (suc i) h = up_at n es (all_rest _ e es f) (all_rest _ e es u) i (le_of_suc-le-suc h)

  up_rising : (es : List Entry) → Faithful file es → Up es → Rising (in_order file) (map at es)
  unfolding Up in_order
  up_rising [] f u i j h k = absurd (not-suc-le-zero k)
  up_rising (e ∷ es) f u i zero h k = absurd (not-suc-le-zero h)
  up_rising (e ∷ es) f u zero (suc j) h k = rw (all_first _ e es f) (up_at e.name es (all_rest _ e es f) u.0 j (le_of_suc-le-suc k))
  up_rising (e ∷ es) f u (suc i) (suc j) h k = up_rising es (all_rest _ e es f) u.1 i j (le_of_suc-le-suc h) (le_of_suc-le-suc k)

  -- a right index rises
  pub index_rises : (es : List Entry) → Faithful file es → Distinct es → Rising (in_order file) (index_of es)
  index_rises es f d = up_rising (by_name es) (all_by_name _ es f) (up_by_name es d)

  -- what rises and has the entries' offsets is the right index
  pub index_unique : (es : List Entry) (l : List ℕ) → Faithful file es → Distinct es → Rising (in_order file) l → Perm l (map at es) → l ≡ index_of es
  index_unique es l f d r p =
      unique (in_order file) (order_total file) (order_refl file) l (index_of es) r (index_rises es f d)
      (λ x. p x ∙ sym (perm_by_name es x))

  -- and then the names are distinct
  Inj : List ℕ → Type 0
  Inj l = ((x : ℕ) → count x l ≤ 1) × ((x y : ℕ) → 1 ≤ count x l → 1 ≤ count y l → name_of file x ≡ name_of file y → x ≡ y)

  name_order : (x y : ℕ) → name_of file x ≡ name_of file y → in_order file x y ≡ true
  unfolding in_order
  name_order x y e = rw e (refl_most _)

  inj_rising : (l m : List ℕ) → Rising (in_order file) l → Perm l m → Inj m
  unfolding Inj
  inj_rising l m r p = (
    (λ x. let a = p x in let b = rising_once (in_order file) (order_total file) (order_refl file) l r x in omega arith),
    (λ x y hx hy e.
        let a = p x in
        let b = p y in
        let s = stands x l (omega arith) in
        let t = stands y l (omega arith) in
        same? s.at t.at (λ z. sym s.is ∙ rw z t.is)
        (λ z.
        cases (ltb s.at t.at)
        (λ w. never (r s.at t.at (ltb-true _ _ w) t.inside) (rw (s.is, t.is) (name_order y x (sym e))))
        (λ w. let v = ltb-false s.at t.at w in never (r t.at s.at (omega arith) s.inside) (rw (s.is, t.is) (name_order x y e))))),
  )

  inj_notin : (n : ℕ) (es : List Entry) → Faithful file es → ((x : ℕ) → 1 ≤ count x (map at es) → name_of file x ≡ name_of file n → x ≡ n) → count n (map at es) ≡ 0 → NotIn (name_of file n) es
  inj_notin n [] f h z = all_none _
  inj_notin n (e ∷ es) f h z =
      all_cons _ e es
      (λ w.
      let c = count_here (at e) (at e) (map at es) refl in
      let q = h (at e) (omega arith) (all_first _ e es f ∙ w) in
      let d = count_here n (at e) (map at es) (sym q) in
      omega arith)
      (inj_notin n es (all_rest _ e es f)
      (λ x k w.
      h x
      (same? x (at e) (λ q. let c = count_here x (at e) (map at es) q in omega arith) (λ q. let c = count_later x (at e) (map at es) q in omega arith))
      w)
      (same? n (at e) (λ q. let c = count_here n (at e) (map at es) q in absurd (omega arith)) (λ q. let c = count_later n (at e) (map at es) q in omega arith)))

  more_count : (x y : ℕ) (l : List ℕ) → count x l ≤ count x (y ∷ l)
  more_count x y l =
      same? x y (λ q. let c = count_here x y l q in omega arith) (λ q. let c = count_later x y l q in omega arith)

  inj_distinct : (es : List Entry) → Faithful file es → Inj (map at es) → Distinct es
  unfolding Inj Distinct
  inj_distinct [] f i = tt
  inj_distinct (e ∷ es) f i =
      let c = count_here (at e) (at e) (map at es) refl in (
        rw (← all_first _ e es f)
            (inj_notin (at e) es (all_rest _ e es f)
            (λ x k w. i.1 x (at e) (let m = more_count x (at e) (map at es) in omega arith) (omega arith) w)
            (let o = i.0 (at e) in omega arith)),
        inj_distinct es (all_rest _ e es f) (
          (λ x. let m = more_count x (at e) (map at es) in let o = i.0 x in omega arith),
          (λ x y hx hy w. i.1 x y (let m = more_count x (at e) (map at es) in omega arith) (let m = more_count y (at e) (map at es) in omega arith) w),
        ),
      )

  pub rising_distinct : (es : List Entry) (l : List ℕ) → Faithful file es → Rising (in_order file) l → Perm l (map at es) → Distinct es
  rising_distinct es l f r p = inj_distinct es f (inj_rising l (map at es) r p)

  -- as many entries, each the offset of an entry, that rise: then it is the right index
  pub checked : (es : List Entry) (l : List ℕ) → Faithful file es → Rising (in_order file) l → ((k : ℕ) → k < length l → 1 ≤ count (get_or l k 0) (map at es)) → length (map at es) ≡ length l → (twice es ≡ false) × (l ≡ index_of es)
  checked es l f r h n =
      let p = pigeons l (map at es) (λ x.
      cases (ltb 0 (count x l))
      (λ t.
      let s = stands x l (ltb-true 0 (count x l) t) in
      let o = rising_once (in_order file) (order_total file) (order_refl file) l r x in
      let m = rw s.is at (h s.at s.inside) in
      omega arith)
      (λ t. let z = ltb-false 0 (count x l) t in omega arith)) (omega arith) in
      let d = rising_distinct es l f r p in
      (distinct_twice es d, index_unique es l f d r p)
