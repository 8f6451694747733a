use borrow.Author.Rules.{rules}
use borrow.Author.Tests.{le-ltb}
use native.Mathlib.Omega.{arith}
use Rattle.cuts.proofs.Octals.{none_here, digit_here, other_here}
use Rattle.cuts.proofs.is_octal_at.Goals as goal

pub returns-in-48-to-55 : goal.returns-in-48-to-55
returns-in-48-to-55 c = digit_here _ _ c.if-at-s.true (search rules) (search rules)

pub returns-in_default : goal.returns-in_default
returns-in_default c = other_here _ _ c.if-at-s.true (λ a b. omega arith)

pub returns-in_default-2 : goal.returns-in_default-2
returns-in_default-2 c = other_here _ _ c.if-at-s.true (λ a b. omega arith)

pub returns-else-at-s : goal.returns-else-at-s
returns-else-at-s c = rw (le-ltb _ _ c.if-at-s.false) (none_here _ _ c.if-at-s.false)
