use native.Mathlib.Omega.{arith}
use Rattle.integers.proofs.Joined.{left_low, left_all, left_half}
use Rattle.integers.proofs.left_of.Goals as goal

pub returns-in-62 : goal.returns-in-62
returns-in-62 c = left_all _ _ (λ e. omega arith) (λ e. omega arith) c.in-62.is

pub returns-in-60 : goal.returns-in-60
returns-in-60 c = left_low _ _ (omega arith) (omega arith)

pub returns-in_default : goal.returns-in_default
returns-in_default c = left_half _ _ (λ e. omega arith) (λ e. omega arith) (λ e. omega arith)
