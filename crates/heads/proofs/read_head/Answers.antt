use native.Mathlib.Omega.{arith}
use mathlib.Core.Path.{refl, ap}
use Rattle.heads.specs.declared.Opened.TheVariants.{Refused}
use Rattle.heads.proofs.read_head.Goals as goal

pub returns-then-s-gt-LARGEST_BODY : goal.returns-then-s-gt-LARGEST_BODY
returns-then-s-gt-LARGEST_BODY c = let long = c.if-s-gt-LARGEST_BODY.true in (λ l. absurd (omega (arith, long)), λ _. (ap Refused c.refused_at.ensures, refl))

pub returns : goal.returns
returns c = let short = c.if-s-gt-LARGEST_BODY.false in (λ _. c.head_from.ensures, λ l. absurd (omega (arith, short)))
