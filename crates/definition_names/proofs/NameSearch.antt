-- A name searched by halves: what any list of offsets gives, and that one that rises gives the name wherever it has it. Assumes nothing.
use mathlib.Core.Path.{◌≡◌, refl, sym, ◌∙◌}
use mathlib.Core.Bool.{Bool, true, false}
use mathlib.Core.List.{List}
use Prim.Native.Nat.{ℕ, zero, suc, ◌+◌, ◌-◌, ◌/◌, ◌≤◌, ◌<◌, zero-le}
use native.Mathlib.Nat.{le_refl}
use native.Mathlib.Omega.{arith}
use lib.Dec.{ltb}
use lib.ListN.{length, get_or}
use borrow.Author.Tests.{lt-ltb, le-ltb, ltb-true, ltb-false}
use Rattle.definition.specs.Chars.{same}
use Rattle.definition_names.specs.Names.{at_most, name_of, bound_n, bound, entry_of}
use Rattle.definition_names.specs.IsIndex.{Rising, in_order}
use Rattle.definition.proofs.Moves.CharLaws.{cases, same_true, same_eq}
use Rattle.definition_names.proofs.NameOrder.{never, trans, antisym, refl_most, order_total, order_refl}
use Rattle.definition_names.proofs.NameLists.{same?}

module _ (file index name : List ℕ) where
  abbrev half : ℕ → ℕ → ℕ
  half low high = low + (high - low) / 2

  -- the k-th name does not come before the name
  abbrev reaches : ℕ → Bool
  reaches k = at_most name (name_of file (get_or index k 0))

  abbrev halves : ℕ → ℕ → ℕ → ℕ
  halves n low high = bound_n n file index name low high

  -- one step
  module _ (n low high : ℕ) where
    halves_end : high ≤ low → halves n low high ≡ low
    unfolding bound_n
    halves_end h = by n
      where
        by : (n : ℕ) → halves n low high ≡ low
        by zero = refl
        by (suc n) = rw (le-ltb low high h, bound_n)

    halves_down : low < high → reaches (half low high) ≡ true → halves (suc n) low high ≡ halves n low (half low high)
    unfolding bound_n
    halves_down h t = rw (lt-ltb low high h, t, bound_n)

    halves_up : low < high → reaches (half low high) ≡ false → halves (suc n) low high ≡ halves n (half low high + 1) high
    unfolding bound_n
    halves_up h t = rw (lt-ltb low high h, t, bound_n)

  -- more steps than there are entries change nothing
  halves_fuel : (n m low high : ℕ) → high ≤ low + n → high ≤ low + m → halves n low high ≡ halves m low high
  halves_fuel zero m low high h k = halves_end zero low high (omega arith) ∙ sym (halves_end m low high (omega arith))
  halves_fuel (suc n) zero low high h k = halves_end (suc n) low high (omega arith) ∙ sym (halves_end zero low high (omega arith))
  halves_fuel (suc n) (suc m) low high h k =
      cases (ltb low high)
      (λ t.
      let l = ltb-true low high t in
      cases (reaches (half low high))
      (λ u. halves_down n low high l u ∙ halves_fuel n m low (half low high) (omega arith) (omega arith) ∙ sym (halves_down m low high l u))
      (λ u. halves_up n low high l u ∙ halves_fuel n m (half low high + 1) high (omega arith) (omega arith) ∙ sym (halves_up m low high l u)))
      (λ t. let l = ltb-false low high t in halves_end (suc n) low high l ∙ sym (halves_end (suc m) low high l))

  -- the search goes on from here
  abbrev pub Goes : ℕ → ℕ → Type 0
  Goes low high = bound file index name ≡ halves (high - low) low high

  pub goes_start : Goes 0 (length index)
  unfolding bound
  goes_start = halves_fuel (suc (length index)) (length index - 0) 0 (length index) (omega arith) (omega arith)

  module _ (low high : ℕ) (g : Goes low high) where
    pub goes_end : high ≤ low → low ≡ bound file index name
    goes_end h = sym (g ∙ halves_end (high - low) low high h)

    module _ (l : low < high) where
      once_more : halves (high - low) low high ≡ halves (suc (high - low)) low high
      once_more = halves_fuel (high - low) (suc (high - low)) low high (omega arith) (omega arith)

      pub goes_down : reaches (half low high) ≡ true → Goes low (half low high)
      goes_down t = g ∙ once_more ∙ halves_down (high - low) low high l t ∙ halves_fuel (high - low) (half low high - low) low (half low high) (omega arith) (omega arith)

      pub goes_up : reaches (half low high) ≡ false → Goes (half low high + 1) high
      goes_up t = g ∙ once_more ∙ halves_up (high - low) low high l t ∙ halves_fuel (high - low) (high - (half low high + 1)) (half low high + 1) high (omega arith) (omega arith)

  -- what both halves keep holds where the search ends
  module _ (P : ℕ → ℕ → Type 0)
      (down : (low high mid : ℕ) → low ≤ mid → mid < high → reaches mid ≡ true → P low high → P low mid)
      (up : (low high mid : ℕ) → low ≤ mid → mid < high → reaches mid ≡ false → P low high → P (mid + 1) high) where
    done : (n low high : ℕ) → low ≤ high → high ≤ low → P low high → P (halves n low high) (halves n low high)
    done n low high k l p = let e : high ≡ low = omega arith in rw (halves_end n low high l) (rw e at p)

    keeps : (n low high : ℕ) → high ≤ low + n → low ≤ high → P low high → P (halves n low high) (halves n low high)
    keeps zero low high h k p = done zero low high k (omega arith) p
    keeps (suc n) low high h k p =
        cases (ltb low high)
        (λ w.
        let l = ltb-true low high w in
        cases (reaches (half low high))
        (λ t. rw (halves_down n low high l t) (keeps n low (half low high) (omega arith) (omega arith) (down low high (half low high) (omega arith) (omega arith) t p)))
        (λ t. rw (halves_up n low high l t) (keeps n (half low high + 1) high (omega arith) (omega arith) (up low high (half low high) (omega arith) (omega arith) t p))))
        (λ w. done (suc n) low high k (ltb-false low high w) p)

    pub bound_keeps : P 0 (length index) → P (bound file index name) (bound file index name)
    unfolding bound
    bound_keeps p = keeps (suc (length index)) 0 (length index) (omega arith) zero-le p

  -- in any list the name found does not come before the name
  abbrev Reached : ℕ → ℕ → Type 0
  Reached low high = (high ≤ length index) × (high < length index → reaches high ≡ true)

  bound_reached : Reached (bound file index name) (bound file index name)
  bound_reached =
      bound_keeps Reached (λ low high mid a b t p. let w = p.0 in (omega arith, λ l. t)) (λ low high mid a b t p. p)
      (le_refl _, λ l. absurd (omega arith))

  -- the entry found, by the two comparisons
  pub entry_out : length index ≤ bound file index name → entry_of file index name ≡ length index
  unfolding entry_of
  entry_out h = rw (le-ltb (bound file index name) (length index) h)

  module _ (h : bound file index name < length index) where
    pub entry_found : at_most (name_of file (get_or index (bound file index name) 0)) name ≡ true → entry_of file index name ≡ bound file index name
    unfolding entry_of
    entry_found t = rw (lt-ltb (bound file index name) (length index) h, same_eq _ name (antisym _ _ t (bound_reached.1 h)))

    pub entry_missed : at_most (name_of file (get_or index (bound file index name) 0)) name ≡ false → entry_of file index name ≡ length index
    unfolding entry_of
    entry_missed t =
        cases (same (name_of file (get_or index (bound file index name) 0)) name)
        (λ u. never t (rw (same_true _ name u) (refl_most name)))
        (λ u. rw (lt-ltb (bound file index name) (length index) h, u))

  -- the names of the first `low` entries come before the name, and those from `high` on do not
  record Bracket (low high : ℕ) : Type 0 where
    within : high ≤ length index
    below : (k : ℕ) → k < low → reaches k ≡ false
    above : (k : ℕ) → high ≤ k → k < length index → reaches k ≡ true

  -- the k-th entry has the name; past the last one if none has
  pub record EntryIs (k : ℕ) : Type 0 where
    pub within : k ≤ length index
    pub has : k < length index → name_of file (get_or index k 0) ≡ name
    pub none : length index ≤ k → (i : ℕ) → i < length index → name_of file (get_or index i 0) ≡ name → ⊥

  module _ (r : Rising (in_order file) index) where
    -- the name of an entry is at or before those of later ones
    later : (i j : ℕ) → i ≤ j → j < length index → at_most (name_of file (get_or index i 0)) (name_of file (get_or index j 0)) ≡ true
    unfolding in_order
    later i j h k = same? i j (λ e. rw e (order_refl file _)) (λ e. order_total file _ _ (r i j (omega arith) k))

    bracketed : Bracket (bound file index name) (bound file index name)
    bracketed =
        bound_keeps Bracket
        (λ low high mid a b t p.
        let w = p.within in
        record { within = omega arith; below = p.below; above = λ k m l. trans name _ _ t (later mid k m l) })
        (λ low high mid a b t p.
        let w = p.within in
        record {
          within = w;
          below = λ k m. cases (reaches k) (λ u. never t (trans name _ _ u (later k mid (omega arith) (omega arith)))) (λ u. u);
          above = p.above;
        })
        (record { within = le_refl _; below = λ k h. absurd (omega arith); above = λ k h l. absurd (omega arith) })

    -- no entry has a name that stands between two of them
    none_has : ((k : ℕ) → bound file index name ≤ k → k < length index → name_of file (get_or index k 0) ≡ name → ⊥) → EntryIs (length index)
    none_has f = record {
      within = le_refl _;
      has = λ l. absurd (omega arith);
      none = λ l i m e.
          cases (ltb i (bound file index name)) (λ u. never (bracketed.below i (ltb-true _ _ u)) (rw e (refl_most name)))
          (λ u. f i (ltb-false _ _ u) m e);
    }

    pub entry_is : EntryIs (entry_of file index name)
    entry_is =
        cases (ltb (bound file index name) (length index))
        (λ t.
        let h = ltb-true _ _ t in
        cases (at_most (name_of file (get_or index (bound file index name) 0)) name)
        (λ u.
        rw (entry_found h u)
        (record { within = bound_reached.0; has = λ l. antisym _ _ u (bound_reached.1 h); none = λ l. absurd (omega arith) }))
        (λ u.
        rw (entry_missed h u)
        (none_has (λ k m l e. never u (rw e at (later (bound file index name) k m l))))))
        (λ t.
        let h = ltb-false _ _ t in
        rw (entry_out h) (none_has (λ k m l. absurd (omega arith))))
