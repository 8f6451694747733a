-- The one pass with the one number of tokens that serves every place of a body: what a proof of code cites. Assumes nothing.
use mathlib.Core.Path.{◌≡◌, refl, sym, ap, ◌∙◌}
use mathlib.Core.Bool.{Bool, true, false}
use mathlib.Core.List.{List, []}
use mathlib.Core.Option.{Option, none, some}
use Prim.Native.Nat.{ℕ, zero, suc, ◌+◌, ◌≤◌, ◌<◌}
use native.Mathlib.Omega.{arith}
use borrow.Author.Tests.{leb-true, leb-false, le-leb, lt-leb}
use lib.Dec.{leb}
use lib.ListN.{length}
use Rattle.definition.specs.Chars.{at_end}
use Rattle.definition_cuts.specs.Tokens.{token_end, with_first}
use Rattle.plans.specs.OnePass.{plan_loop, plan_at}
use Rattle.definition.proofs.Moves.CharLaws.{cases}
use Rattle.definition_cuts_laws.proofs.Tokens.TokenMarks.{token_on}

-- THE PLAN at a boundary i, in a piece that began at `start`
plan_fuel : (s : List ℕ) (limit n m start i : ℕ) → i ≤ length s → length s < i + n → length s < i + m → plan_loop n s limit start i ≡ plan_loop m s limit start i
unfolding plan_loop
plan_fuel s limit zero m start i l a b = absurd (omega arith)
plan_fuel s limit (suc n) zero start i l a b = absurd (omega arith)
plan_fuel s limit (suc n) (suc m) start i l a b = go (at_end s i) refl (token_end s i) refl (λ start j. plan_fuel s limit n m start j)
  where
    IH : Type 0
    IH = (start j : ℕ) → j ≤ length s → length s < j + n → length s < j + m → plan_loop n s limit start j ≡ plan_loop m s limit start j

    go : (x : Bool) → at_end s i ≡ x → (o : Option ℕ) → token_end s i ≡ o → IH → plan_loop (suc n) s limit start i ≡ plan_loop (suc m) s limit start i
    go true x o q ih = rw (x, plan_loop) refl
    go false x none q ih = rw (x, q, plan_loop) refl
    go false x (some j) q ih =
        let O = token_on s i j (leb-false (length s) i x) q in
        cases (leb j (start + limit)) (λ t. rw (x, q, t, plan_loop) (ih start j O.3 (omega (arith, O.2)) (omega (arith, O.2)))) (λ t.
        cases (leb j (i + limit)) (λ u. rw (x, q, t, u, plan_loop) (ap (with_first i) (ih i j O.3 (omega (arith, O.2)) (omega (arith, O.2))))) (λ u. rw (x, q, t, u, plan_loop) refl))

module _ (s : List ℕ) (limit start i : ℕ) where
  pub plan_end : length s ≤ i → plan_at s limit start i ≡ some []
  unfolding plan_loop
  plan_end h = rw (le-leb (length s) i h, plan_loop) refl

  module _ (h : i < length s) where
    pub plan_refused : token_end s i ≡ none → plan_at s limit start i ≡ none
    unfolding plan_loop
    plan_refused e = rw (lt-leb (length s) i h, e, plan_loop) refl

    module _ (j : ℕ) (e : token_end s i ≡ some j) where
      -- the token still fits into the piece
      pub plan_on : j ≤ start + limit → plan_at s limit start i ≡ plan_at s limit start j
      unfolding plan_loop
      plan_on k =
          let O = token_on s i j h e in
          rw (lt-leb (length s) i h, e, le-leb j (start + limit) k, plan_loop) (plan_fuel s limit (length s) (suc (length s)) start j O.3 (omega (arith, O.2)) (omega (arith, O.2)))

      -- it does not: a cut before it
      pub plan_cut : start + limit < j → j ≤ i + limit → plan_at s limit start i ≡ with_first i (plan_at s limit i j)
      unfolding plan_loop
      plan_cut k g =
          let O = token_on s i j h e in
          rw (lt-leb (length s) i h, e, lt-leb j (start + limit) k, le-leb j (i + limit) g, plan_loop) (ap (with_first i) (plan_fuel s limit (length s) (suc (length s)) i j O.3 (omega (arith, O.2)) (omega (arith, O.2))))

      -- it fits into no piece
      pub plan_none : start + limit < j → i + limit < j → plan_at s limit start i ≡ none
      unfolding plan_loop
      plan_none k g = rw (lt-leb (length s) i h, e, lt-leb j (start + limit) k, lt-leb j (i + limit) g, plan_loop) refl

-- a token that does not fit is planned as in a piece that begins with it
pub plan_again : (s : List ℕ) (limit start i : ℕ) (h : i < length s) (j : ℕ) → token_end s i ≡ some j → start + limit < j → plan_at s limit start i ≡ with_first i (plan_at s limit i i)
unfolding with_first
plan_again s limit start i h j e k =
    cases (leb j (i + limit))
    (λ t. let l = leb-true j (i + limit) t in plan_cut s limit start i h j e k l ∙ ap (with_first i) (sym (plan_on s limit i i h j e l)))
    (λ t. let l = leb-false j (i + limit) t in plan_none s limit start i h j e k l ∙ sym (ap (with_first i) (plan_none s limit i i h j e l l)))
