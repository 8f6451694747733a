use native.Mathlib.Omega.{arith}
use mathlib.Core.Path.{sym, ◌∙◌}
use Rattle.expressions.proofs.ScanLaws.{sees_stray, sees_closer, sees_other}
use Rattle.expressions.proofs.close_bracket.Goals as goal

pub returns-then-depth-eq0 : goal.returns-then-depth-eq0
returns-then-depth-eq0 c = let p = c.requires in sees_stray _ p.1 _ p.0 _ p.2 p.3 p.4 c.if-depth-eq0.true

pub returns-then-matches : goal.returns-then-matches
returns-then-matches c = let p = c.requires in sees_closer _ p.1 _ p.0 _ p.2 p.3 p.4 (omega arith) (rw (c.from.ensures, c.from-2.ensures) at (sym c.matches.ensures ∙ c.if-matches.true))

pub returns-else-matches : goal.returns-else-matches
returns-else-matches c = let p = c.requires in sees_other _ p.1 _ p.0 _ p.2 p.3 p.4 (omega arith) (rw (c.from.ensures, c.from-2.ensures) at (sym c.matches.ensures ∙ c.if-matches.false))
