use native.Mathlib.Omega.{arith}
use Rattle.expressions.proofs.ScanLaws.{sees_full, sees_opener}
use Rattle.expressions.proofs.open_bracket.Goals as goal

pub returns-then-depth-ge64 : goal.returns-then-depth-ge64
returns-then-depth-ge64 c = let p = c.requires in sees_full _ p.1 _ p.0 _ p.2 p.3 c.if-depth-ge64.true

pub returns : goal.returns
returns c = let p = c.requires in sees_opener _ p.1 _ p.0 _ p.2 p.3 (omega (arith, c.if-depth-ge64.false))
