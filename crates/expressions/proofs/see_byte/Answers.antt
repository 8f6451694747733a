use Rattle.expressions.proofs.ScanLaws.{sees_end, sees_run, outside_runs}
use Rattle.expressions.proofs.see_byte.Goals as goal

pub returns-then-quote-eq0 : goal.returns-then-quote-eq0
returns-then-quote-eq0 c = rw (outside_runs _ _ _ c.if-quote-eq0.true) c.see_clear.ensures

pub returns-then-b-quote : goal.returns-then-b-quote
returns-then-b-quote c = let p = c.requires in sees_end _ p.1 _ p.0 _ _ c.if-quote-eq0.false c.if-b-quote.true

pub returns : goal.returns
returns c = let p = c.requires in sees_run _ p.1 _ p.0 _ _ c.if-quote-eq0.false c.if-b-quote.false
