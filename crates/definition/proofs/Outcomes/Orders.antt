-- THE ORDER OF THE ENTRY CHECKS: a refusal says that what comes before its number is in order. Assumes nothing.
use Rattle.std.specs.Prelude.{if◌then◌else◌}
use mathlib.Core.Path.{◌≡◌, refl, sym, ◌∙◌, ap}
use mathlib.Core.Bool.{Bool, true, false}
use mathlib.Core.List.{List, [], ◌∷◌}
use mathlib.Core.Option.{Option, none, some}
use Prim.Native.Nat.{ℕ, suc, ◌≤◌}
use native.Mathlib.Omega.{arith}
use borrow.Author.Tests.{ltb-false}
use lib.Dec.{ltb}
use lib.ListN.{length}
use Rattle.definition.specs.Entry.{Literal, place_of, Refusal, refusal, not_empty, not_many, first_bad, bad, all_good, total, not_long, formed, ill_formed, all_utf8, not_mixed, first_of, entry}
use Rattle.definition.proofs.Moves.CharLaws.{cases}

-- by a refusal's number: there is a literal, at most 1,024, each descriptor is sound, the bodies are not too long, and all are UTF-8
pub record InOrder (script : List ℕ) (ls : List Literal) (number : ℕ) : Type 0 where
  pub some_literal : 2 ≤ number → 1 ≤ length ls
  pub not_many_lem : 4 ≤ number → length ls ≤ 1024
  pub sound : 5 ≤ number → all_good script ls ≡ none
  pub not_long_lem : 6 ≤ number → total ls ≤ 1048576
  pub all_utf8_lem : 7 ≤ number → all_utf8 script ls ≡ none

same_refusal : (q r : Refusal) → some q ≡ some r → q ≡ r
same_refusal q r e = cc

none_some : {P : Type 0} (r : Refusal) → ◌≡◌ {A = Option Refusal} none (some r) → P
none_some r e = let z : ◌≡◌ {A = ℕ} 0 1 = cc in absurd (omega arith)

-- each check's refusal has its number
by_test : (t : Bool) (n i place : ℕ) (r : Refusal) → (if t then some (refusal n i place 0 0) else none) ≡ some r → r.number ≡ n
unfolding refusal
by_test true n i place r e = sym (ap (λ q. q.number) (same_refusal (refusal n i place 0 0) r e))
by_test false n i place r e = none_some r e

by_literal : (test : ℕ → Literal → Bool) (why : ℕ → Literal → Refusal) (n : ℕ) → ((i : ℕ) (l : Literal) → (why i l).number ≡ n)
    → (previous i : ℕ) (ls : List Literal) (r : Refusal) → first_bad test why previous i ls ≡ some r → r.number ≡ n
unfolding first_bad
by_literal test why n h previous i [] r e = none_some r e
by_literal test why n h previous i (l ∷ ls) r e = go (test previous l) refl (by_literal test why n h l.end (suc i) ls r)
  where
    go : (t : Bool) → test previous l ≡ t → (first_bad test why l.end (suc i) ls ≡ some r → r.number ≡ n) → r.number ≡ n
    go true f ih = sym (ap (λ q. q.number) (same_refusal (why i l) r (rw (f, first_bad) at e))) ∙ h i l
    go false f ih = ih (rw (f, first_bad) at e)

first_number : (ls : List Literal) (r : Refusal) → not_empty ls ≡ some r → r.number ≡ 1
unfolding not_empty refusal
first_number [] r e = sym (ap (λ q. q.number) (same_refusal (refusal 1 0 0 0 0) r e))
first_number (l ∷ ls) r e = none_some r e

-- what a check that passes says
has_one : (ls : List Literal) → not_empty ls ≡ none → 1 ≤ length ls
unfolding not_empty
has_one [] e = none_some (refusal 1 0 0 0 0) (sym e)
has_one (l ∷ ls) e = omega arith

within : (m n k : ℕ) → (if ltb m n then some (refusal k 0 0 0 0) else none) ≡ none → n ≤ m
within m n k e = cases (ltb m n) (λ t. none_some (refusal k 0 0 0 0) (sym (rw t at e))) (λ t. ltb-false m n t)

-- IN THE TABLE'S ORDER
pub entry_order : (script : List ℕ) (ls : List Literal) (r : Refusal) → entry script ls ≡ some r → InOrder script ls r.number
unfolding entry first_of not_many all_good not_long all_utf8 not_mixed refusal
entry_order script ls r e = first (not_empty ls) refl (not_many ls) refl (all_good script ls) refl (not_long ls) refl (all_utf8 script ls) refl e
  where
    first : (a : Option Refusal) → not_empty ls ≡ a → (b : Option Refusal) → not_many ls ≡ b → (c : Option Refusal) → all_good script ls ≡ c → (d : Option Refusal) → not_long ls ≡ d
        → (f : Option Refusal) → all_utf8 script ls ≡ f → first_of (a ∷ b ∷ c ∷ d ∷ f ∷ not_mixed ls ∷ []) ≡ some r → InOrder script ls r.number
    first (some x) p b q c v d w f u e =
        let n = first_number ls r (p ∙ e) in
        record { some_literal = λ h. absurd (omega arith); not_many_lem = λ h. absurd (omega arith); sound = λ h. absurd (omega arith); not_long_lem = λ h. absurd (omega arith); all_utf8_lem = λ h. absurd (omega arith) }
    first none p (some x) q c v d w f u e =
        let n = by_test (ltb 1024 (length ls)) 3 0 0 r (q ∙ e) in
        record { some_literal = λ h. has_one ls p; not_many_lem = λ h. absurd (omega arith); sound = λ h. absurd (omega arith); not_long_lem = λ h. absurd (omega arith); all_utf8_lem = λ h. absurd (omega arith) }
    first none p none q (some x) v d w f u e =
        let n = by_literal (bad script) (λ i l. refusal 4 i 0 0 0) 4 (λ i l. refl) 0 0 ls r (v ∙ e) in
        record { some_literal = λ h. has_one ls p; not_many_lem = λ h. within 1024 (length ls) 3 q; sound = λ h. absurd (omega arith); not_long_lem = λ h. absurd (omega arith); all_utf8_lem = λ h. absurd (omega arith) }
    first none p none q none v (some x) w f u e =
        let n = by_test (ltb 1048576 (total ls)) 5 0 0 r (w ∙ e) in
        record { some_literal = λ h. has_one ls p; not_many_lem = λ h. within 1024 (length ls) 3 q; sound = λ h. v; not_long_lem = λ h. absurd (omega arith); all_utf8_lem = λ h. absurd (omega arith) }
    first none p none q none v none w (some x) u e =
        let n = by_literal (ill_formed script) (λ i l. refusal 6 i (place_of l (formed script l)) 0 0) 6 (λ i l. refl) 0 0 ls r (u ∙ e) in
        record { some_literal = λ h. has_one ls p; not_many_lem = λ h. within 1024 (length ls) 3 q; sound = λ h. v; not_long_lem = λ h. within 1048576 (total ls) 5 w; all_utf8_lem = λ h. absurd (omega arith) }
    first none p none q none v none w none u e =
        record { some_literal = λ h. has_one ls p; not_many_lem = λ h. within 1024 (length ls) 3 q; sound = λ h. v; not_long_lem = λ h. within 1048576 (total ls) 5 w; all_utf8_lem = λ h. u }
