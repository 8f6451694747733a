-- What the two cases of a step tell of the definition's character.
-- Assumes nothing.
use mathlib.Core.Path.{◌≡◌, ap}
use mathlib.Core.List.{List}
use Prim.Native.Nat.{ℕ, ◌≤◌, ◌<◌}
use native.Mathlib.Omega.{arith}
use borrow.Author.Tests.{leb-true, leb-false}
use lib.ListN.{length}
use Rattle.definition.specs.Chars.{at_end, code, next}
use Rattle.utf8.specs.declared.Cursor.{Cursor}
use Rattle.utf8.specs.declared.Step.TheVariants.{Char, End}
use Rattle.utf8.specs.Steps.{step_at}
use Rattle.definition.proofs.Moves.CharLaws.{cases}

-- a character of the code c stands at i, and k is after it
pub record Stepped (s : List ℕ) (i c : ℕ) (k : Cursor) : Type 0 where
  pub there : i < length s
  pub code_is : code s i ≡ c
  pub next_is : next s i ≡ k.at

pub step_char : (s : List ℕ) (i c : ℕ) (k : Cursor) → step_at s i ≡ Char c k → Stepped s i c k
unfolding step_at
step_char s i c k e =
    cases (at_end s i) (λ t. let h = rw t at e in let z : ◌≡◌ {A = ℕ} 0 1 = cc in absurd (omega arith))
    (λ t.
    let h = rw t at e in
    let n : record { at = next s i } ≡ k = cc in
    record { there = leb-false _ _ t; code_is = cc; next_is = ap (λ (x : Cursor). x.at) n })

pub step_end : (s : List ℕ) (i : ℕ) → step_at s i ≡ End → length s ≤ i
unfolding step_at
step_end s i e =
    cases (at_end s i) (λ t. leb-true _ _ t)
    (λ t. let h = rw t at e in let z : ◌≡◌ {A = ℕ} 0 1 = cc in absurd (omega arith))
