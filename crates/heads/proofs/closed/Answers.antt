use Rattle.heads.proofs.closed.Goals as goal

pub returns-then-h : goal.returns-then-h
returns-then-h c = rw c.if-h.true (rw c.refused_at.ensures)

pub returns : goal.returns
returns c = rw c.if-h.false
