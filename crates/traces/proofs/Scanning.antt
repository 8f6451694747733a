-- A row checked column by column. Assumes nothing.
use mathlib.Core.Path.{◌≡◌, refl, sym, ◌∙◌, ap, subst}
use mathlib.Core.Bool.{Bool, true, false, ◌&&◌, not}
use mathlib.Core.List.{List, [], ◌∷◌}
use Prim.Native.Nat.{ℕ, zero, suc, ◌+◌, ◌≤◌, ◌<◌, min}
use native.Mathlib.Omega.{arith}
use lib.Dec.{leb}
use lib.ListN.{length, drop, length-drop}
use borrow.Author.Tests.{ne_eqb, eq-eqb, le-leb, lt-leb, leb-true, leb-false, not-true, not-false}
use Rattle.definition_replay.specs.Integers.{Integer}
use Rattle.definition_replay.specs.Trace.{Taken, taken, broken, more_of, Behind, comma, ends, other, behind_column, row_of}
use Rattle.definition_replay.specs.Replay.{in_range, all_in_range}
use Rattle.definition.proofs.Moves.CharLaws.{cases}
use Rattle.definition_replay_laws.proofs.Trace.TraceByNumber.{number_of, numbers_n, row_by_number}
use Rattle.traces.specs.declared.Ends.{Ends}
use Rattle.traces.specs.declared.Ends.TheVariants.{Nothing, Comma, Row}
use Rattle.traces.specs.Cells.{says_behind, Cell, wrong, more, last, ended_with, cell_of, clip, clip_cell, fit_cell, integer, says_cell, verdict_of, check_of, scan_n}
use Rattle.traces.proofs.Reading.{cell_past}

-- THE SMALL FUNCTIONS
pub range_below : (size : ℕ) {negative : Bool} → negative ≡ true → leb size 0x80000000 ≡ in_range (integer negative size)
unfolding in_range
range_below size e = rw e

pub range_above : (size : ℕ) {negative : Bool} → negative ≡ false → leb size 0x7FFFFFFF ≡ in_range (integer negative size)
unfolding in_range
range_above size e = rw e

pub both_yes : {a : Bool} (b : Bool) → a ≡ true → b ≡ (a && b)
both_yes b e = rw e

pub both_no : {a : Bool} (b : Bool) → a ≡ false → a ≡ (a && b)
both_no b e = rw e

module _ (fields count : ℕ) where
  pub verdict_count : (fits : Bool) → (count ≡ fields → ⊥) → 71 ≡ verdict_of fields count fits
  unfolding verdict_of
  verdict_count fits n = rw (ne_eqb count fields n)

  module _ (fits : Bool) (e : count ≡ fields) where
    pub verdict_range : not fits ≡ true → 72 ≡ verdict_of fields count fits
    unfolding verdict_of
    verdict_range f = rw (eq-eqb count fields e, f)

    pub verdict_none : not fits ≡ false → 0 ≡ verdict_of fields count fits
    unfolding verdict_of
    verdict_none f = rw (eq-eqb count fields e, f)

-- THE SCAN is the definition's row
and_assoc : (a b c : Bool) → ((a && b) && c) ≡ (a && (b && c))
and_assoc true b c = refl
and_assoc false b c = refl

and_true : (a : Bool) → (a && true) ≡ a
and_true true = refl
and_true false = refl

unfoldable check_from : (fields count : ℕ) (fits : Bool) → Taken (List Integer) → ℕ
check_from fields count fits broken = 70
check_from fields count fits (taken vs u) = verdict_of fields (count + length vs) (fits && all_in_range vs)

module _ (fields : ℕ) where
  more_from : (count : ℕ) (fits : Bool) (v : Integer) (o : Taken (List Integer)) → check_from fields (count + 1) (fits && in_range v) o ≡ check_from fields count fits (more_of v o)
  unfolding check_from more_of all_in_range
  more_from count fits v (taken vs u) =
      let n : count + 1 + length vs ≡ count + suc (length vs) = omega arith in
      λ i. verdict_of fields (n i) (and_assoc fits (in_range v) (all_in_range vs) i)
  more_from count fits v broken = refl

  last_from : (count : ℕ) (fits : Bool) (v : Integer) (u : List ℕ) → verdict_of fields (count + 1) (fits && in_range v) ≡ check_from fields count fits (taken (v ∷ []) u)
  unfolding check_from all_in_range
  last_from count fits v u = λ i. verdict_of fields (count + 1) (fits && sym (and_true (in_range v)) i)

  scan_is : (n count : ℕ) (fits : Bool) (s : List ℕ) → scan_n n fields count fits s ≡ check_from fields count fits (numbers_n n s)
  unfolding scan_n numbers_n check_from cell_of ended_with
  scan_is zero count fits s = refl
  scan_is (suc n) count fits s = go (number_of s) refl (scan_is n)
    where
      by_behind : (v : Integer) (t : List ℕ) → number_of s ≡ taken v t → (b : Behind) → behind_column t ≡ b
          → ((count : ℕ) (fits : Bool) (s : List ℕ) → scan_n n fields count fits s ≡ check_from fields count fits (numbers_n n s))
          → scan_n (suc n) fields count fits s ≡ check_from fields count fits (numbers_n (suc n) s)
      by_behind v t e (comma u) f ih = rw (e, scan_n, numbers_n, cell_of, f, ended_with) (ih (count + 1) (fits && in_range v) u ∙ more_from count fits v (numbers_n n u))
      by_behind v t e (ends u) f ih = rw (e, scan_n, numbers_n, cell_of, f, ended_with) (last_from count fits v u)
      by_behind v t e other f ih = rw (e, scan_n, numbers_n, cell_of, f, ended_with)

      go : (o : Taken Integer) → number_of s ≡ o
          → ((count : ℕ) (fits : Bool) (s : List ℕ) → scan_n n fields count fits s ≡ check_from fields count fits (numbers_n n s))
          → scan_n (suc n) fields count fits s ≡ check_from fields count fits (numbers_n (suc n) s)
      go (taken v t) e ih = by_behind v t e (behind_column t) refl ih
      go broken e ih = rw (e, scan_n, numbers_n, cell_of)

  check_from_lem : (o : Taken (List Integer)) → check_from fields 0 true o ≡ check_of fields o
  unfolding check_from check_of
  check_from_lem (taken vs u) = let n : 0 + length vs ≡ length vs = omega arith in λ i. verdict_of fields (n i) (all_in_range vs)
  check_from_lem broken = refl

  scan_row : (s : List ℕ) → scan_n (suc (length s)) fields 0 true s ≡ check_of fields (row_of s)
  scan_row s = scan_is (suc (length s)) 0 true s ∙ check_from_lem (numbers_n (suc (length s)) s) ∙ ap (check_of fields) (sym (row_by_number s))

-- a cut-off size is in range if the size is
range_clip : (v : Integer) → in_range (clip v) ≡ in_range v
unfolding in_range
range_clip v = go v.negative refl
  where
    same : (m : ℕ) → m < 0xFFFFFFFE → leb (min v.size 0xFFFFFFFE) m ≡ leb v.size m
    same m h =
        cases (leb v.size m) (λ e. let l = leb-true v.size m e in le-leb (min v.size 0xFFFFFFFE) m (omega arith) ∙ sym e)
        (λ e. let l = leb-false v.size m e in lt-leb (min v.size 0xFFFFFFFE) m (omega arith) ∙ sym e)

    go : (b : Bool) → v.negative ≡ b → in_range (clip v) ≡ in_range v
    go true e = rw e (same 0x80000000 (omega arith))
    go false e = rw e (same 0x7FFFFFFF (omega arith))

-- what the code read of a cell
abbrev Known : Cell → Cell → Type 0
Known wrong x = x ≡ wrong
Known (more v' u) x = (v : Integer) × (x ≡ more v u) × (in_range v' ≡ in_range v)
Known (last v' u) x = (v : Integer) × (x ≡ last v u) × (in_range v' ≡ in_range v)

unclipped : (x : Cell) → Known (clip_cell x) x
unfolding clip_cell
unclipped wrong = refl
unclipped (more v u) = (v, refl, range_clip v)
unclipped (last v u) = (v, refl, range_clip v)

known : (c x : Cell) → c ≡ clip_cell x → Known c x
known c x e = subst (λ y. Known y x) (sym e) (unclipped x)

module _ (fields n count : ℕ) (fits : Bool) (s : List ℕ) where
  scan_wrong : cell_of s ≡ wrong → scan_n (suc n) fields count fits s ≡ 70
  unfolding scan_n
  scan_wrong e = rw (e, scan_n)

  scan_more : (v : Integer) (u : List ℕ) → cell_of s ≡ more v u → scan_n (suc n) fields count fits s ≡ scan_n n fields (count + 1) (fits && in_range v) u
  unfolding scan_n
  scan_more v u e = rw (e, scan_n)

  scan_last : (v : Integer) (u : List ℕ) → cell_of s ≡ last v u → scan_n (suc n) fields count fits s ≡ verdict_of fields (count + 1) (fits && in_range v)
  unfolding scan_n
  scan_last v u e = rw (e, scan_n)

-- A COLUMN IN RANGE is the cell, not cut off
clip_fits : (v : Integer) → in_range v ≡ true → clip v ≡ v
unfolding in_range
clip_fits v e = go v.negative refl
  where
    small : (m : ℕ) → m ≤ 0x80000000 → leb v.size m ≡ true → clip v ≡ v
    small m h f =
        let l = leb-true v.size m f in
        let n : min v.size 0xFFFFFFFE ≡ v.size = omega arith in
        λ i. record { negative = v.negative; size = n i }

    go : (b : Bool) → v.negative ≡ b → clip v ≡ v
    go true f = small 0x80000000 (omega arith) (rw f at e)
    go false f = small 0x7FFFFFFF (omega arith) (rw f at e)

pub fit_clip : (x : Cell) → fit_cell (clip_cell x) ≡ fit_cell x
unfolding fit_cell clip_cell
fit_clip wrong = refl
fit_clip (more v u) = cases (in_range v) (λ e. rw (range_clip v, e) (ap (λ w. more w u) (clip_fits v e))) (λ e. rw (range_clip v, e))
fit_clip (last v u) = cases (in_range v) (λ e. rw (range_clip v, e) (ap (λ w. last w u) (clip_fits v e))) (λ e. rw (range_clip v, e))

pub fit_ended : (v : Integer) (b : Behind) → in_range v ≡ true → fit_cell (ended_with v b) ≡ ended_with v b
unfolding fit_cell ended_with
fit_ended v (comma u) e = rw e
fit_ended v (ends u) e = rw e
fit_ended v other e = refl

unfit_ended : (v : Integer) (b : Behind) → in_range v ≡ false → fit_cell (ended_with v b) ≡ wrong
unfolding fit_cell ended_with
unfit_ended v (comma u) e = rw e
unfit_ended v (ends u) e = rw e
unfit_ended v other e = refl

-- what was read at an index
abbrev Column : (Cell → Cell) → (s : List ℕ) (at : ℕ) → Ends → (negative : Bool) (size next : ℕ) → Type 0
Column f s at e negative size next = (says_cell s e negative size next ≡ f (cell_of (drop at s))) × ((e ≡ Nothing → ⊥) → at < next) × (next ≤ length s)

module _ (s : List ℕ) (at : ℕ) (e : Ends) (negative : Bool) (size next : ℕ) (c : Column clip_cell s at e negative size next) {fits : Bool} (g : fits ≡ in_range (integer negative size)) where
  pub column_fits : not fits ≡ false → Column fit_cell s at e negative size next
  column_fits f = (sym (fit_ended (integer negative size) (says_behind s e next) (sym g ∙ not-false fits f)) ∙ ap fit_cell c.0 ∙ fit_clip (cell_of (drop at s)), c.1, c.2)

  pub column_misfits : at ≤ length s → not fits ≡ true → Column fit_cell s at Nothing false 0 at
  unfolding ended_with
  column_misfits h f = (sym (unfit_ended (integer negative size) (says_behind s e next) (sym g ∙ not-true fits f)) ∙ ap fit_cell c.0 ∙ fit_clip (cell_of (drop at s)), (λ n. absurd (n refl)), h)

-- what is one thing is not another
some_there : {e x : Ends} → e ≡ x → (x ≡ Nothing → ⊥) → e ≡ Nothing → ⊥
some_there y n z = n (sym y ∙ z)

-- THE LOOP
pub record Scanning (s : List ℕ) (at fields i count : ℕ) (fits : Bool) : Type 0 where
  pub fuel : ℕ
  pub enough : length s < i + suc fuel
  pub same : scan_n (suc fuel) fields count fits (drop i s) ≡ check_of fields (row_of (drop at s))
  pub counted : count ≤ i

pub scan_starts : (s : List ℕ) (at fields : ℕ) → Scanning s at fields at 0 true
scan_starts s at fields =
    let l = length-drop at s in
    record { fuel = length (drop at s); enough = omega arith; same = scan_row fields (drop at s); counted = omega arith }

module _ (s : List ℕ) (at fields i count : ℕ) (fits : Bool) (r : Scanning s at fields i count fits) where
  pub scan_out : length s < i → 70 ≡ check_of fields (row_of (drop at s))
  scan_out h = sym (scan_wrong fields r.fuel count fits (drop i s) (cell_past s i h)) ∙ r.same

  module _ (e : Ends) (negative : Bool) (size next : ℕ) (c : Column clip_cell s i e negative size next) where
    pub scan_bad : e ≡ Nothing → 70 ≡ check_of fields (row_of (drop at s))
    unfolding ended_with
    scan_bad z =
        let k : cell_of (drop i s) ≡ wrong = known wrong (cell_of (drop i s)) (sym (ap (λ x. ended_with (integer negative size) (says_behind s x next)) z) ∙ c.0) in
        sym (scan_wrong fields r.fuel count fits (drop i s) k) ∙ r.same

    module _ {all : Bool} (a : all ≡ (fits && in_range (integer negative size))) where
      all_is : (v : Integer) → in_range (integer negative size) ≡ in_range v → all ≡ (fits && in_range v)
      all_is v q = a ∙ ap (λ x. fits && x) q

      pub scan_next : e ≡ Comma → Scanning s at fields next (count + 1) all
      unfolding ended_with
      scan_next y =
          by-fuel r.fuel refl
          (known (more (integer negative size) (drop next s)) (cell_of (drop i s))
          (sym (ap (λ x. ended_with (integer negative size) (says_behind s x next)) y) ∙ c.0))
        where
          by-fuel : (n : ℕ) → r.fuel ≡ n → (v : Integer) × (cell_of (drop i s) ≡ more v (drop next s)) × (in_range (integer negative size) ≡ in_range v) → Scanning s at fields next (count + 1) all
          by-fuel zero q k = let w = r.enough in let o = c.1 (some_there y (λ q. cc)) in let l = c.2 in absurd (omega arith)
          by-fuel (suc n) q k =
              let w = r.enough in
              let o = c.1 (some_there y (λ q. cc)) in
              let m = r.counted in
              record {
                fuel = n;
                enough = omega arith;
                same = ap (λ x. scan_n (suc n) fields (count + 1) x (drop next s)) (all_is k.0 k.2)
                    ∙ sym (scan_more fields (suc n) count fits (drop i s) k.0 (drop next s) k.1)
                    ∙ ap (λ x. scan_n (suc x) fields count fits (drop i s)) (sym q)
                    ∙ r.same;
                counted = omega arith;
              }

      pub scan_ends : {number : ℕ} → e ≡ Row → number ≡ verdict_of fields (count + 1) all → number ≡ check_of fields (row_of (drop at s))
      unfolding ended_with
      scan_ends y v =
          let k = known (last (integer negative size) (drop next s)) (cell_of (drop i s))
          (sym (ap (λ x. ended_with (integer negative size) (says_behind s x next)) y) ∙ c.0) in
          v
          ∙ ap (verdict_of fields (count + 1)) (all_is k.0 k.2)
          ∙ sym (scan_last fields r.fuel count fits (drop i s) k.0 (drop next s) k.1)
          ∙ r.same
