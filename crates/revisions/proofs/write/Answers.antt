use native.Mathlib.Omega.{arith}
use Rattle.revisions.proofs.Running.{no_room, with_room}
use Rattle.revisions.proofs.write.Goals as goal

pub returns-then-list-needed : goal.returns-then-list-needed
returns-then-list-needed c = let a = c.args in rw c.refuse.ensures.answer (no_room a.list.now a.x (omega (arith, c.if-list-needed.true)) c.min.ensures c.refuse.ensures.left)

pub returns : goal.returns
returns c = let a = c.args in with_room a.list.now a.x (omega (arith, c.if-list-needed.false)) c.put_counting.ensures c.put_counting-2.ensures
