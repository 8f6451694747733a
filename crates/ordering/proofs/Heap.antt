-- Heaps: an element that sinks, a heap made from the end on, and a list sorted by taking its first. Assumes nothing.
use mathlib.Core.Path.{◌≡◌, refl, sym, ◌∙◌}
use mathlib.Core.Bool.{Bool, true}
use mathlib.Core.List.{List, [], ◌∷◌}
use Prim.Native.Nat.{ℕ, zero, suc, ◌+◌, ◌≤◌, ◌<◌, zero-le}
use native.Mathlib.Nat.{not-suc-le-zero, le_of_suc-le-suc, le_refl}
use native.Mathlib.Omega.{arith}
use lib.Dec.{eqb, ltb}
use lib.ListN.{length, get_or, set, length-set}
use lib.Seq.{get_or-set_same, get_or-set_other}
use borrow.Author.Tests.{eqb-true, eqb-false, ltb-true, ltb-false}
use Rattle.definition_names.specs.IsIndex.{bit, count, Perm}
use Rattle.definition.proofs.Moves.CharLaws.{cases}
use Rattle.ordering.specs.Sorting.{swapped, Child, Le, Heap, Holed, Under, Sifted, Greatest, Heaped, Done, Sorted}

same? : {P : Type 0} (x y : ℕ) → (x ≡ y → P) → ((x ≡ y → ⊥) → P) → P
same? x y f g = cases (eqb x y) (λ t. f (eqb-true x y t)) (λ t. g (eqb-false x y t))

-- an element replaced
count_set : (x : ℕ) (l : List ℕ) (i v : ℕ) → i < length l → count x (set l i v) + bit (eqb x (get_or l i 0)) ≡ count x l + bit (eqb x v)
unfolding count
count_set x [] i v h = absurd (not-suc-le-zero h)
count_set x (y ∷ l) zero v h = omega arith
count_set x (y ∷ l) (suc i) v h = let e = count_set x l i v (le_of_suc-le-suc h) in omega arith

-- two elements exchanged
module _ (l : List ℕ) (i j : ℕ) (hi : i < length l) (hj : j < length l) (ne : i ≡ j → ⊥) where
  pub swapped_size : length (swapped l i j) ≡ length l
  unfolding swapped
  swapped_size = simp length-set

  pub swapped_first : get_or (swapped l i j) i 0 ≡ get_or l j 0
  unfolding swapped
  swapped_first = get_or-set_other (set l i (get_or l j 0)) j i (get_or l i 0) 0 ne ∙ get_or-set_same l i (get_or l j 0) 0 hi

  pub swapped_second : get_or (swapped l i j) j 0 ≡ get_or l i 0
  unfolding swapped
  swapped_second = get_or-set_same (set l i (get_or l j 0)) j (get_or l i 0) 0 (rw length-set hj)

  pub swapped_other : (k : ℕ) → (k ≡ i → ⊥) → (k ≡ j → ⊥) → get_or (swapped l i j) k 0 ≡ get_or l k 0
  unfolding swapped
  swapped_other k a b = get_or-set_other (set l i (get_or l j 0)) j k (get_or l i 0) 0 b ∙ get_or-set_other l i k (get_or l j 0) 0 a

  pub swapped_perm : Perm (swapped l i j) l
  unfolding swapped
  swapped_perm x =
      let u = count_set x l i (get_or l j 0) hi in
      let v = count_set x (set l i (get_or l j 0)) j (get_or l i 0) (rw length-set hj) in
      let w = rw (get_or-set_other l i j (get_or l j 0) 0 (λ e. ne (sym e))) at v in
      omega arith

module _ (le : ℕ → ℕ → Bool) (trans : (x y z : ℕ) → le x y ≡ true → le y z ≡ true → le x z ≡ true) (reflx : (x : ℕ) → le x x ≡ true) where
  -- nothing to sink
  module _ (a : List ℕ) (i n : ℕ) where
    pub sunk : ((k : ℕ) → k < n → Child le i k → Le le a k i) → Sifted le a i n a
    sunk f = record {
      heap = λ lo l h p k q m c. same? p i (λ e. let d : Child le i k = rw e at c in rw e (f k m d)) (λ ne. h.0 p k q m c ne);
      perm = λ x. refl;
      size = refl;
      rest = λ k h. refl;
      under = λ x u. u;
    }

    pub leaf : n ≤ i + i + 1 → Sifted le a i n a
    leaf h = sunk (λ k m c. absurd (omega arith))

    pub stop : {r : ℕ} → Greatest le a i n r → Le le a r i → Sifted le a i n a
    stop {r} g h = sunk (λ k m c. trans _ _ _ (g.most k m c) h)

    -- one exchange
    module _ (r : ℕ) (inl : i < n) (fit : n ≤ length a) (g : Greatest le a i n r) (h : Le le a i r) where
      abbrev b : List ℕ
      b = swapped a i r

      ir : i < r
      ir = let c = g.child in omega arith

      at_i : get_or b i 0 ≡ get_or a r 0
      at_i = let c = ir in let d = g.inside in swapped_first a i r (omega arith) (omega arith) (λ e. omega arith)

      at_r : get_or b r 0 ≡ get_or a i 0
      at_r = let c = ir in let d = g.inside in swapped_second a i r (omega arith) (omega arith) (λ e. omega arith)

      at_k : (k : ℕ) → (k ≡ i → ⊥) → (k ≡ r → ⊥) → get_or b k 0 ≡ get_or a k 0
      at_k k u v = let c = ir in let d = g.inside in swapped_other a i r (omega arith) (omega arith) (λ e. omega arith) k u v

      holed : (lo : ℕ) → lo ≤ i → Holed le a lo i n → Holed le b lo r n
      holed lo l hole = (
        (λ p k q m c ne.
            same? p i
            (λ e.
            let d : Child le i k = rw e at c in
            same? k r (λ f. rw (e, f, at_i, at_r) h)
            (λ f. rw (e, at_i, at_k k (λ z. omega arith) f) (g.most k m d)))
            (λ e.
            same? k i (λ f. let d : Child le p i = rw f at c in rw (f, at_i, at_k p e ne) (hole.1 p r q g.inside d g.child))
            (λ f.
            same? k r (λ z. let w = g.child in absurd (e (omega arith)))
            (λ z. rw (at_k k f z, at_k p e ne) (hole.0 p k q m c e))))),
        (λ p k q m c d.
            let w = g.child in
            let e : p ≡ i = omega arith in
            let v = ir in
            rw (e, at_i, at_k k (λ z. omega arith) (λ z. omega arith)) (hole.0 r k (omega arith) m d (λ z. omega arith))),
      )

      pub sink : (d : List ℕ) → Sifted le b r n d → Sifted le a i n d
      sink d s = record {
        heap = λ lo l hole. s.heap lo (let w = ir in omega arith) (holed lo l hole);
        perm = λ x. s.perm x ∙ swapped_perm a i r (let w = g.inside in omega arith) (let w = g.inside in omega arith) (λ e. let w = ir in omega arith) x;
        size = s.size ∙ swapped_size a i r (let w = g.inside in omega arith) (let w = g.inside in omega arith) (λ e. let w = ir in omega arith);
        rest = λ k q. s.rest k q ∙ at_k k (λ e. omega arith) (λ e. let w = g.inside in omega arith);
        under = λ x u. s.under x (λ k q.
            same? k i (λ e. rw (e, at_i) (u r g.inside))
            (λ e. same? k r (λ f. rw (f, at_r) (u i inl)) (λ f. rw (at_k k e f) (u k q))));
      }

  -- the greatest child: the only one, or the later of two
  pub only : (a : List ℕ) (i n : ℕ) → i + i + 1 < n → n ≤ i + i + 1 + 1 → Greatest le a i n (i + i + 1)
  only a i n h l = record {
    inside = h;
    child = (omega arith, omega arith);
    most = λ k m c. let e : k ≡ i + i + 1 = omega arith in rw e (reflx _);
  }

  pub right : (a : List ℕ) (i n : ℕ) → i + i + 1 + 1 < n → Le le a (i + i + 1) (i + i + 1 + 1) → Greatest le a i n (i + i + 1 + 1)
  right a i n h l = record {
    inside = h;
    child = (omega arith, omega arith);
    most = λ k m c.
        same? k (i + i + 1) (λ e. rw e l) (λ e. let f : k ≡ i + i + 1 + 1 = omega arith in rw f (reflx _));
  }

  pub left : (a : List ℕ) (i n : ℕ) → i + i + 1 + 1 < n → Le le a (i + i + 1 + 1) (i + i + 1) → Greatest le a i n (i + i + 1)
  left a i n h l = record {
    inside = omega arith;
    child = (omega arith, omega arith);
    most = λ k m c.
        same? k (i + i + 1) (λ e. rw e (reflx _)) (λ e. let f : k ≡ i + i + 1 + 1 = omega arith in rw f l);
  }

  -- what is left to do, while the element that was at i sinks
  pub record Sinking (a : List ℕ) (i n : ℕ) (b : List ℕ) (at : ℕ) : Type 0 where
    pub inside : at < n
    pub fits : n ≤ length b
    pub size : length b ≡ length a
    pub back : (d : List ℕ) → Sifted le b at n d → Sifted le a i n d

  pub sinking : (a : List ℕ) (i n : ℕ) → i < n → n ≤ length a → Sinking a i n a i
  sinking a i n h l = record { inside = h; fits = l; size = refl; back = λ d s. s }

  pub sinks : (a : List ℕ) (i n : ℕ) (b : List ℕ) (at r : ℕ) (d : List ℕ) → Sinking a i n b at → Greatest le b at n r → Le le b at r → d ≡ swapped b at r → Sinking a i n d r
  sinks a i n b at r d s g h e =
      let inl = s.inside in
      let fit = s.fits in
      let ins = g.inside in
      let c = g.child in
      let z : length d ≡ length b = rw e (swapped_size b at r (omega arith) (omega arith) (λ f. omega arith)) in
      record {
        inside = ins;
        fits = omega arith;
        size = z ∙ s.size;
        back = λ x t. s.back x (sink b at n r inl fit g h x (rw e at t));
      }

  -- a heap made from the end on
  pub record Heaping (a b : List ℕ) (k : ℕ) : Type 0 where
    pub inside : k ≤ length a
    pub heap : Heap le b k (length a)
    pub perm : Perm b a
    pub size : length b ≡ length a

  pub heaping : (a : List ℕ) → Heaping a a (length a)
  heaping a = record { inside = le_refl _; heap = λ p k q m c. absurd (omega arith); perm = λ x. refl; size = refl }

  pub heaps : (a b : List ℕ) (k j : ℕ) (d : List ℕ) → Heaping a b k → k ≡ suc j → Sifted le b j (length a) d → Heaping a d j
  heaps a b k j d s e t =
      let inl = s.inside in
      record {
        inside = omega arith;
        heap = t.heap j (le_refl j) ((λ p i q m c ne. s.heap p i (omega arith) m c), (λ p i q m c f. absurd (omega arith)));
        perm = λ x. t.perm x ∙ s.perm x;
        size = t.size ∙ s.size;
      }

  pub heaped : (a b : List ℕ) (k : ℕ) → Heaping a b k → k ≡ 0 → Heaped le a b
  heaped a b k s e = record { heap = rw s.size (rw e at s.heap); perm = s.perm; size = s.size }

  -- the first of a heap
  half : (k : ℕ) → (p : ℕ) × (p + p ≤ k) × (k ≤ p + p + 1)
  half zero = (0, omega arith, omega arith)
  half (suc zero) = (0, omega arith, omega arith)
  half (suc (suc k)) = let h = half k in let l = h.1 in let m = h.2 in (suc h.0, omega arith, omega arith)

  root : (a : List ℕ) (n : ℕ) → Heap le a 0 n → (f k : ℕ) → k ≤ f → k < n → Le le a k 0
  root a n h zero zero l m = reflx _
  root a n h zero (suc k) l m = absurd (omega arith)
  root a n h (suc f) zero l m = reflx _
  root a n h (suc f) (suc k) l m =
      let p = half k in
      let u = p.1 in
      let v = p.2 in
      trans _ _ _ (h p.0 (suc k) (zero-le) m (omega arith, omega arith)) (root a n h f p.0 (omega arith) (omega arith))

  -- its first put behind it, one after another
  pub record Sorting (a b : List ℕ) (m : ℕ) : Type 0 where
    pub inside : m ≤ length b
    pub heap : Heap le b 0 m
    pub done : Done le b m (length b)
    pub perm : Perm b a
    pub size : length b ≡ length a

  pub sorting : (a b : List ℕ) → Heaped le a b → Sorting b b (length b)
  sorting a b h = record { inside = le_refl _; heap = h.heap; done = λ i j l m n. absurd (omega arith); perm = λ x. refl; size = refl }

  module _ (a b : List ℕ) (m j : ℕ) (s : Sorting a b m) (e : m ≡ suc j) (pos : 1 ≤ j) where
    abbrev sw : List ℕ
    sw = swapped b 0 j

    in0 : 0 < length b
    in0 = let w = s.inside in omega arith

    inj : j < length b
    inj = let w = s.inside in omega arith

    nej : 0 ≡ j → ⊥
    nej f = omega arith

    sw_holed : Holed le sw 0 0 j
    sw_holed = (
      (λ p k q l c ne. rw (swapped_other b 0 j in0 inj nej k (λ f. omega arith) (λ f. omega arith), swapped_other b 0 j in0 inj nej p ne (λ f. omega arith)) (s.heap p k q (omega arith) c)),
      (λ p k q l c d. absurd (omega arith)),
    )

    sw_under : (x : ℕ) → Under le b m x → Under le sw j x
    sw_under x u k l =
        same? k 0 (λ f. rw (f, swapped_first b 0 j in0 inj nej) (u j (omega arith)))
        (λ f. rw (swapped_other b 0 j in0 inj nej k f (λ g. omega arith)) (u k (omega arith)))

    module _ (d : List ℕ) (t : Sifted le sw 0 j d) where
      later : (k : ℕ) → j < k → get_or d k 0 ≡ get_or b k 0
      later k l = t.rest k (omega arith) ∙ swapped_other b 0 j in0 inj nej k (λ f. omega arith) (λ f. omega arith)

      here : get_or d j 0 ≡ get_or b 0 0
      here = t.rest j (le_refl j) ∙ swapped_second b 0 j in0 inj nej

      sz : length d ≡ length b
      sz = t.size ∙ swapped_size b 0 j in0 inj nej

      sorts_done : Done le d j (length d)
      sorts_done i k l u v =
          let z = sz in
          same? k j
          (λ f.
          let w : i < j = omega arith in
          rw (f, here) (t.under (get_or b 0 0) (sw_under (get_or b 0 0) (λ x y. root b m s.heap x x (le_refl x) y)) i w))
          (λ f.
          let w : j < k = omega arith in
          rw (later k w)
          (same? i j (λ g. rw (g, here) (s.done 0 k (omega arith) (omega arith) (omega arith)))
          (λ g.
          cases (ltb i j)
          (λ h. t.under (get_or b k 0) (sw_under (get_or b k 0) (λ x y. s.done x k (omega arith) (omega arith) (omega arith))) i (ltb-true i j h))
          (λ h. let o = ltb-false i j h in rw (later i (omega arith)) (s.done i k (omega arith) u (omega arith))))))

      pub sorts : Sorting a d j
      sorts = record {
        inside = let z = sz in let w = s.inside in omega arith;
        heap = t.heap 0 (le_refl 0) sw_holed;
        done = sorts_done;
        perm = λ x. t.perm x ∙ swapped_perm b 0 j in0 inj nej x ∙ s.perm x;
        size = sz ∙ s.size;
      }

  pub sorted : (a b d : List ℕ) (m : ℕ) → Heaped le a b → Sorting b d m → m ≤ 1 → Sorted le a d
  sorted a b d m t s h = record { order = λ i j l u v. s.done i j (omega arith) u v; perm = λ x. s.perm x ∙ t.perm x; size = s.size ∙ t.size }
