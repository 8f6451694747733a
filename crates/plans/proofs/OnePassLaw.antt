-- THE ONE PASS is the plan. Assumes nothing.
use mathlib.Core.Path.{◌≡◌, refl, sym, ◌∙◌, ap, subst}
use mathlib.Core.Bool.{Bool, true, false}
use mathlib.Core.List.{List, [], ◌∷◌}
use mathlib.Core.Option.{Option, none, some}
use Prim.Native.Nat.{ℕ, zero, suc, ◌+◌}
use lib.Dec.{ltb, leb}
use lib.ListN.{length}
use Rattle.definition.specs.Chars.{at_end, well_formed}
use Rattle.definition_cuts.specs.Tokens.{token_end, with_first, boundaries_n, boundaries}
use Rattle.definition_cuts.specs.Plan.{plan_from, plan}
use Rattle.plans.specs.OnePass.{plan_loop, planned}
use Rattle.definition.proofs.Moves.CharLaws.{cases}
use Rattle.definition_cuts_laws.proofs.Tokens.TokenMarks.{marks_of}
use Rattle.definition_cuts_laws.proofs.Plan.PlanLaw.{first_mark}

-- a plan over boundaries, if there are any
abbrev over : (limit start : ℕ) → Option (List ℕ) → Option (List ℕ)
over limit start none = none
over limit start (some []) = none
over limit start (some (i ∷ js)) = plan_from limit start i js

first_none : (i : ℕ) → with_first i none ≡ none
unfolding with_first
first_none i = refl

-- boundaries begin with the place that they are from
boundaries_first : (n : ℕ) (s : List ℕ) (i : ℕ) (ms : List ℕ) → boundaries_n n s i ≡ some ms → (js : List ℕ) × (ms ≡ i ∷ js)
boundaries_first n s i ms e = let M = marks_of s n i ms e in (M.0, M.1)

loop_over : (n : ℕ) (s : List ℕ) (limit start i : ℕ) → plan_loop n s limit start i ≡ over limit start (boundaries_n n s i)
unfolding plan_loop boundaries_n with_first plan_from
loop_over zero s limit start i = refl
loop_over (suc n) s limit start i = go (at_end s i) refl (token_end s i) refl (λ start j. loop_over n s limit start j)
  where
    IH : Type 0
    IH = (start j : ℕ) → plan_loop n s limit start j ≡ over limit start (boundaries_n n s j)

    rest : (j : ℕ) (o : Option (List ℕ)) → boundaries_n n s j ≡ o → IH
        → (elim (leb j (start + limit)) [ true ↦ plan_loop n s limit start j | false ↦ elim (leb j (i + limit)) [ true ↦ with_first i (plan_loop n s limit i j) | false ↦ none ] ]) ≡ over limit start (with_first i o)
    rest j none q ih =
        cases (leb j (start + limit)) (λ t. rw t (ih start j ∙ ap (over limit start) q)) (λ t.
        cases (leb j (i + limit)) (λ u. rw (t, u) (ap (with_first i) (ih i j ∙ ap (over limit i) q))) (λ u. rw (t, u) refl))
    rest j (some ms) q ih =
        let F = boundaries_first n s j ms q in
        let q' : boundaries_n n s j ≡ some (j ∷ F.0) = q ∙ ap some F.1 in
        ap' j F.0 F.1 q' ih
      where
        ap' : (j : ℕ) (js : List ℕ) → ms ≡ j ∷ js → boundaries_n n s j ≡ some (j ∷ js) → IH
            → (elim (leb j (start + limit)) [ true ↦ plan_loop n s limit start j | false ↦ elim (leb j (i + limit)) [ true ↦ with_first i (plan_loop n s limit i j) | false ↦ none ] ]) ≡ over limit start (with_first i (some ms))
        ap' j js m q ih =
            subst (λ (l : List ℕ). (elim (leb j (start + limit)) [ true ↦ plan_loop n s limit start j | false ↦ elim (leb j (i + limit)) [ true ↦ with_first i (plan_loop n s limit i j) | false ↦ none ] ]) ≡ over limit start (with_first i (some l))) (sym m)
            (cases (leb j (start + limit)) (λ t. rw (t, plan_from) (ih start j ∙ ap (over limit start) q)) (λ t.
            cases (leb j (i + limit)) (λ u. rw (t, u, plan_from) (ap (with_first i) (ih i j ∙ ap (over limit i) q))) (λ u. rw (t, u, plan_from) refl)))

    go : (x : Bool) → at_end s i ≡ x → (o : Option ℕ) → token_end s i ≡ o → IH → plan_loop (suc n) s limit start i ≡ over limit start (boundaries_n (suc n) s i)
    go true x o q ih = rw (x, plan_loop, boundaries_n) refl
    go false x none q ih = rw (x, q, plan_loop, boundaries_n) refl
    go false x (some j) q ih = rw (x, q, plan_loop, boundaries_n) (rest j (boundaries_n n s j) refl ih)

plan_none : (s : List ℕ) (limit : ℕ) → boundaries s ≡ none → plan s limit ≡ none
unfolding plan
plan_none s limit e = rw (e, plan) refl

plan_some : (s : List ℕ) (limit : ℕ) (ms : List ℕ) → boundaries s ≡ some ms → plan s limit ≡ plan_from limit 0 0 ms
unfolding plan
plan_some s limit ms e = rw (e, plan) refl

pub planned_is : (s : List ℕ) (limit : ℕ) → planned s limit ≡ plan s limit
unfolding planned boundaries
planned_is s limit =
    cases (ltb 1048576 (length s)) (λ x. rw x (sym (plan_none s limit (rw x refl)))) (λ x.
    cases (ltb (well_formed s) (length s)) (λ y. rw (x, y) (sym (plan_none s limit (rw (x, y) refl)))) (λ y. rw (x, y) (loop_over (suc (length s)) s limit 0 0 ∙ go x y (boundaries_n (suc (length s)) s 0) refl)))
  where
    go : ltb 1048576 (length s) ≡ false → ltb (well_formed s) (length s) ≡ false → (o : Option (List ℕ)) → boundaries_n (suc (length s)) s 0 ≡ o → over limit 0 (boundaries_n (suc (length s)) s 0) ≡ plan s limit
    go x y none q = ap (over limit 0) q ∙ sym (plan_none s limit (rw (x, y) q))
    go x y (some ms) q =
        let F = boundaries_first (suc (length s)) s 0 ms q in
        ap (over limit 0) (q ∙ ap some F.1) ∙ sym (first_mark limit F.0) ∙ ap (plan_from limit 0 0) (sym F.1) ∙ sym (plan_some s limit ms (rw (x, y) q))
