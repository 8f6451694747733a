use borrow.Author.Rules.{rules}
use native.Mathlib.Omega.{arith}
use Prim.Native.Nat.{ℕ, max}
use mathlib.Core.Path.{◌≡◌, refl}
use borrow.Author.Tests.{lt-leb}
use Rattle.definition.specs.Chars.{ascii, code, next}
use Rattle.utf8.specs.Steps.{step_at}
use Rattle.definition.proofs.Moves.CharLaws.{step_in}
use Rattle.utf8.proofs.next_wide.Goals as goal

one : (n : ℕ) → (n ≡ 0 → ⊥) → max 1 n ≡ n
one n h = omega arith

pub len_in-len-requires : goal.len_in-len-requires
unfolding ascii step_at code next
len_in-len-requires c = (search rules, refl)

pub decode-code-requires : goal.decode-code-requires
unfolding ascii step_at code next
decode-code-requires c = let a = c.args in rw c.len_in-len.ensures (step_in a.s.now a.at c.requires)

pub returns-then-len-eq0 : goal.returns-then-len-eq0
unfolding ascii step_at code next
returns-then-len-eq0 c = rw (lt-leb _ _ c.requires, c.decode-code.ensures, ← c.len_in-len.ensures, c.if-len-eq0.true)

pub overflow_add-result-2 : goal.overflow_add-result-2
unfolding ascii step_at code next
overflow_add-result-2 c = let a = c.args in omega (arith, rw (← c.len_in-len.ensures) at (step_in a.s.now a.at c.requires))

pub returns : goal.returns
unfolding ascii step_at code next
returns c = rw (lt-leb _ _ c.requires, c.decode-code.ensures, ← c.len_in-len.ensures, one _ c.if-len-eq0.false)
