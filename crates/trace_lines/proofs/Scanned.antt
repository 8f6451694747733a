-- A row read column by column: what its columns so far and those to come make of it. Assumes nothing.
use mathlib.Core.Path.{◌≡◌, refl, sym, ◌∙◌, ap}
use mathlib.Core.Bool.{Bool, true, false, ◌&&◌}
use mathlib.Core.List.{List, [], ◌∷◌, ◌++◌, append_assoc}
use Prim.Native.Nat.{ℕ, suc, ◌<◌}
use native.Mathlib.Omega.{arith}
use lib.Dec.{eqb}
use lib.ListN.{length, length-append}
use borrow.Author.Tests.{eqb-true}
use Rattle.definition_replay.specs.Integers.{Integer}
use Rattle.definition_replay.specs.Trace.{Taken, taken, broken, more_of, Behind, comma, ends, other, behind_column}
use Rattle.definition_replay.specs.Replay.{in_range, all_in_range}
use Rattle.definition.proofs.Moves.CharLaws.{cases, no}
use Rattle.definition_replay_laws.proofs.Spec.SpecLaws.{both_true}
use Rattle.definition_replay_laws.proofs.Trace.TraceByNumber.{number_of, numbers_n}
use Rattle.traces.specs.Cells.{Cell, wrong, more, last, ended_with, cell_of, fit_cell, verdict_of, check_of}

-- THE COLUMNS of a row, some of which were read before
unfoldable pub onto : List Integer → Taken (List Integer) → Taken (List Integer)
onto vs (taken ws u) = taken (vs ++ ws) u
onto vs broken = broken

pub onto_none : (o : Taken (List Integer)) → onto [] o ≡ o
unfolding onto
onto_none (taken ws u) = refl
onto_none broken = refl

pub onto_more : (vs : List Integer) (v : Integer) (o : Taken (List Integer)) → onto vs (more_of v o) ≡ onto (vs ++ (v ∷ [])) o
unfolding onto more_of
onto_more vs v (taken ws u) = ap (λ l. taken l u) (sym (append_assoc vs (v ∷ []) ws))
onto_more vs v broken = refl

pub onto_last : (vs : List Integer) (v : Integer) (u : List ℕ) → onto vs (taken (v ∷ []) u) ≡ taken (vs ++ (v ∷ [])) u
unfolding onto
onto_last vs v u = refl

-- BY THE NEXT CELL
unfoldable by_cell : ℕ → Cell → Taken (List Integer)
by_cell n wrong = broken
by_cell n (more v u) = more_of v (numbers_n n u)
by_cell n (last v u) = taken (v ∷ []) u

numbers_cell : (n : ℕ) (s : List ℕ) → numbers_n (suc n) s ≡ by_cell n (cell_of s)
unfolding numbers_n cell_of ended_with by_cell
numbers_cell n s = go (number_of s) refl
  where
    by_behind : (v : Integer) (t : List ℕ) → number_of s ≡ taken v t → (b : Behind) → behind_column t ≡ b → numbers_n (suc n) s ≡ by_cell n (cell_of s)
    by_behind v t e (comma u) f = rw (e, numbers_n, cell_of, f, ended_with)
    by_behind v t e (ends u) f = rw (e, numbers_n, cell_of, f, ended_with)
    by_behind v t e other f = rw (e, numbers_n, cell_of, f, ended_with)

    go : (o : Taken Integer) → number_of s ≡ o → numbers_n (suc n) s ≡ by_cell n (cell_of s)
    go (taken v t) e = by_behind v t e (behind_column t) refl
    go broken e = rw (e, numbers_n, cell_of)

module _ (n : ℕ) (s : List ℕ) where
  numbers_wrong : cell_of s ≡ wrong → numbers_n (suc n) s ≡ broken
  unfolding by_cell
  numbers_wrong e = numbers_cell n s ∙ ap (by_cell n) e

  pub numbers_more : (v : Integer) (u : List ℕ) → cell_of s ≡ more v u → numbers_n (suc n) s ≡ more_of v (numbers_n n u)
  unfolding by_cell
  numbers_more v u e = numbers_cell n s ∙ ap (by_cell n) e

  pub numbers_last : (v : Integer) (u : List ℕ) → cell_of s ≡ last v u → numbers_n (suc n) s ≡ taken (v ∷ []) u
  unfolding by_cell
  numbers_last v u e = numbers_cell n s ∙ ap (by_cell n) e

never : {P : Type 0} {c d : Cell} → c ≡ d → (c ≡ d → ◌≡◌ {A = ℕ} 0 1) → P
never e f = let z = f e in absurd (omega arith)

pub fit_more : (x : Cell) (v : Integer) (u : List ℕ) → more v u ≡ fit_cell x → (x ≡ more v u) × (in_range v ≡ true)
unfolding fit_cell
fit_more wrong v u e = never e (λ f. cc)
fit_more (more w t) v u e =
    cases (in_range w) (λ f. let z : more v u ≡ more w t = rw f at e in let p : v ≡ w = cc in (sym z, ap in_range p ∙ f))
    (λ f. let z : more v u ≡ wrong = rw f at e in never z (λ g. cc))
fit_more (last w t) v u e =
    cases (in_range w) (λ f. let z : more v u ≡ last w t = rw f at e in never z (λ g. cc)) (λ f. let z : more v u ≡ wrong = rw f at e in never z (λ g. cc))

pub fit_last : (x : Cell) (v : Integer) (u : List ℕ) → last v u ≡ fit_cell x → (x ≡ last v u) × (in_range v ≡ true)
unfolding fit_cell
fit_last wrong v u e = never e (λ f. cc)
fit_last (more w t) v u e =
    cases (in_range w) (λ f. let z : last v u ≡ more w t = rw f at e in never z (λ g. cc)) (λ f. let z : last v u ≡ wrong = rw f at e in never z (λ g. cc))
fit_last (last w t) v u e =
    cases (in_range w) (λ f. let z : last v u ≡ last w t = rw f at e in let p : v ≡ w = cc in (sym z, ap in_range p ∙ f))
    (λ f. let z : last v u ≡ wrong = rw f at e in never z (λ g. cc))

-- IN RANGE
all_both : (vs ws : List Integer) → all_in_range (vs ++ ws) ≡ (all_in_range vs && all_in_range ws)
unfolding all_in_range
all_both [] ws = refl
all_both (v ∷ vs) ws = cases (in_range v) (λ e. rw e (all_both vs ws)) (λ e. rw e)

pub all_more : (vs : List Integer) (v : Integer) → all_in_range vs ≡ true → in_range v ≡ true → all_in_range (vs ++ (v ∷ [])) ≡ true
unfolding all_in_range
all_more vs v e f = all_both vs (v ∷ []) ∙ rw (e, f)

-- WHAT REFUSES A ROW is not 0
verdict_zero : (fields count : ℕ) (fits : Bool) → verdict_of fields count fits ≡ 0 → (count ≡ fields) × (fits ≡ true)
unfolding verdict_of
verdict_zero fields count fits e =
    cases (eqb count fields)
    (λ a. cases fits (λ b. (eqb-true count fields a, b)) (λ b. let z : ◌≡◌ {A = ℕ} 72 0 = rw (a, b) at e in absurd (omega arith)))
    (λ a. let z : ◌≡◌ {A = ℕ} 71 0 = rw a at e in absurd (omega arith))

pub zero_taken : (fields : ℕ) (vs : List Integer) (u : List ℕ) → check_of fields (taken vs u) ≡ 0 → (length vs ≡ fields) × (all_in_range vs ≡ true)
unfolding check_of
zero_taken fields vs u e = verdict_zero fields (length vs) (all_in_range vs) e

pub zero_broken : {P : Type 0} (fields : ℕ) → check_of fields broken ≡ 0 → P
unfolding check_of
zero_broken fields e = absurd (omega arith)

module _ (fields : ℕ) (vs : List Integer) where
  unfit_more : (v : Integer) (o : Taken (List Integer)) → in_range v ≡ false → check_of fields (onto vs (more_of v o)) ≡ 0 → ⊥
  unfolding onto more_of all_in_range
  unfit_more v (taken ws u) f e =
      let a = zero_taken fields (vs ++ (v ∷ ws)) u e in
      let b = both_true (all_in_range vs) (in_range v && all_in_range ws) (sym (all_both vs (v ∷ ws)) ∙ a.1) in
      let c = both_true (in_range v) (all_in_range ws) b.1 in
      no (sym f ∙ c.0)
  unfit_more v broken f e = zero_broken fields e

  -- a column that is none, or out of range
  pub refused_cell : (n : ℕ) (s : List ℕ) → wrong ≡ fit_cell (cell_of s) → check_of fields (onto vs (numbers_n (suc n) s)) ≡ 0 → ⊥
  unfolding fit_cell onto more_of
  refused_cell n s w e = go (cell_of s) refl
    where
      go : (x : Cell) → cell_of s ≡ x → ⊥
      go wrong f = zero_broken fields (ap (λ o. check_of fields (onto vs o)) (sym (numbers_wrong n s f)) ∙ e)
      go (more v u) f =
          cases (in_range v) (λ g. let z : wrong ≡ more v u = rw (f, g) at w in never z (λ h. cc))
          (λ g. unfit_more v (numbers_n n u) g (ap (λ o. check_of fields (onto vs o)) (sym (numbers_more n s v u f)) ∙ e))
      go (last v u) f =
          cases (in_range v) (λ g. let z : wrong ≡ last v u = rw (f, g) at w in never z (λ h. cc))
          (λ g. unfit_more v (taken [] u) g (ap (λ o. check_of fields (onto vs o)) (sym (numbers_last n s v u f)) ∙ e))

-- where there are columns to come, there is one at least
pub some_left : (n : ℕ) (s : List ℕ) (vs : List Integer) (u : List ℕ) → numbers_n (suc n) s ≡ taken vs u → 0 < length vs
unfolding by_cell more_of
some_left n s vs u e = go (cell_of s) refl
  where
    never-read : {P : Type 0} → broken ≡ taken vs u → P
    never-read z = let y : ◌≡◌ {A = ℕ} 0 1 = cc in absurd (omega arith)

    by_more : (v : Integer) (o : Taken (List Integer)) → more_of v o ≡ taken vs u → 0 < length vs
    by_more v (taken ws t) z = let y : v ∷ ws ≡ vs = cc in rw (← y) (omega arith)
    by_more v broken z = never-read z

    go : (x : Cell) → cell_of s ≡ x → 0 < length vs
    go wrong f = never-read (sym (numbers_wrong n s f) ∙ e)
    go (more v w) f = by_more v (numbers_n n w) (sym (numbers_more n s v w f) ∙ e)
    go (last v w) f = let z : taken (v ∷ []) w ≡ taken vs u = sym (numbers_last n s v w f) ∙ e in let y : v ∷ [] ≡ vs = cc in rw (← y) (omega arith)

-- more columns than fields
pub too_many : (vs : List Integer) (n : ℕ) (s : List ℕ) → check_of (length vs) (onto vs (numbers_n (suc n) s)) ≡ 0 → ⊥
unfolding onto
too_many vs n s e = go (numbers_n (suc n) s) refl
  where
    go : (o : Taken (List Integer)) → numbers_n (suc n) s ≡ o → ⊥
    go (taken ws u) f =
        let l = some_left n s ws u f in
        let z = (zero_taken (length vs) (vs ++ ws) u (ap (λ o. check_of (length vs) (onto vs o)) (sym f) ∙ e)).0 in
        let a = length-append vs ws in
        absurd (omega arith)
    go broken f = zero_broken (length vs) (ap (λ o. check_of (length vs) (onto vs o)) (sym f) ∙ e)
