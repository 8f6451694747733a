-- How far a plan goes over plain text. Assumes nothing.
use mathlib.Core.Path.{◌≡◌, refl, sym, subst, ◌∙◌}
use mathlib.Core.List.{List}
use mathlib.Core.Option.{none, some}
use Prim.Native.Nat.{ℕ, suc, ◌+◌, ◌≤◌, ◌<◌}
use native.Mathlib.Omega.{arith}
use borrow.Author.Tests.{ltb-true, ltb-false}
use lib.Dec.{ltb}
use lib.ListN.{length}
use Rattle.definition.specs.Chars.{next}
use Rattle.definition_cuts.specs.Tokens.{token_end, with_first}
use Rattle.definition.proofs.Moves.CharLaws.{cases, no, next_past}
use Rattle.definition_cuts_laws.proofs.Tokens.FormedPaths.{Formed, done, char_on, formed_later, formed_front, formed_next, formed_head, formed_at}
use Rattle.plain.specs.Plain.{AllPlain}
use Rattle.tokens.proofs.PlainTokens.{Run, plain_token, char_token}
use Rattle.plans.specs.OnePass.{plan_at}
use Rattle.plans.specs.Answers.{StartIs}
use Rattle.plans.proofs.OnePassSteps.{plan_on, plan_none, plan_again}

-- the last character that begins from i on and no later than `at`
module _ (s : List ℕ) (i at c : ℕ) (F : Formed s i (length s)) (f : StartIs s i at c) (h : at < length s) where
  pub start_path : Formed s i c
  start_path =
      let a = f.on in
      let b = f.within in
      cases (ltb i c) (λ t. formed_at s i (length s) c F refl a (omega arith) (f.first (ltb-true i c t)))
      (λ t. let u = ltb-false i c t in let z : i ≡ c = omega arith in subst (λ (n : ℕ). Formed s i n) z done)

  pub start_past : at < next s c
  start_past =
      let b = f.within in
      let R = formed_front s i c (length s) start_path F refl in
      let N = formed_next s c (length s) R refl (omega arith) in
      cases (ltb at (next s c)) (λ t. ltb-true at (next s c) t)
      (λ t. no (sym (formed_head s (next s c) (length s) (formed_front s c (next s c) (length s) N R refl) refl) ∙ f.tails (next s c) (next_past s c (omega arith)) (ltb-false at (next s c) t)))

-- A PLAN over a run
module _ (s : List ℕ) (limit start : ℕ) where
  pub plan_run : (i e : ℕ) → Formed s i e → AllPlain 1 s i e → e ≤ length s → e ≤ start + limit → plan_at s limit start i ≡ plan_at s limit start e
  plan_run i e done b k l = refl
  plan_run i e (char_on w x F) b k l =
      let f = formed_later s (i + suc w) e F in
      let h : i < length s = omega arith in
      plan_on s limit start i h (i + suc w) (char_token s i h (b i (omega arith) (omega arith)) w x) (omega arith)
      ∙ plan_run (i + suc w) e F (λ n a c. b n (omega arith) c) k l

  -- the last character that begins within the limit goes past it: a cut before it, or there is none
  module _ (i e : ℕ) (r : Run s i e) (F : Formed s i (length s)) (c : ℕ) (f : StartIs s i (start + limit) c) (l : start + limit < e) where
    to_start : plan_at s limit start i ≡ plan_at s limit start c
    to_start = let w = r.within in let a = f.within in plan_run i c (start_path s i (start + limit) c F f (omega arith)) (λ k x y. r.bytes k x (omega arith)) (omega arith) a

    start_token : token_end s c ≡ some (next s c)
    start_token = let w = r.within in let a = f.within in plain_token s c (omega arith) (r.bytes c f.on (omega arith))

    goes_past : start + limit < next s c
    goes_past = let w = r.within in start_past s i (start + limit) c F f (omega arith)

    pub plan_run_cut : plan_at s limit start i ≡ with_first c (plan_at s limit c c)
    plan_run_cut = let w = r.within in let a = f.within in to_start ∙ plan_again s limit start c (omega arith) (next s c) start_token goes_past

    pub plan_run_none : c ≤ start → plan_at s limit start i ≡ none
    plan_run_none z = let w = r.within in let a = f.within in to_start ∙ plan_none s limit start c (omega arith) (next s c) start_token goes_past (omega (arith, goes_past))
