use Rattle.formats.proofs.Sets.{one_end, one_there, one_not}
use Rattle.formats.proofs.take_one.Goals as goal
use Rattle.formats.proofs.take_one.Goals.{else-at-s-via-then-at-s+else-is_in, else-at-s-via-else-at-s}

pub returns-then-is_in : goal.returns-then-is_in
returns-then-is_in c = one_there _ _ c.args.set c.if-at-s.true c.is_in.ensures c.if-is_in.true

pub returns : goal.returns
returns c =
    elim c.else-at-s.branch [
      | else-at-s-via-then-at-s+else-is_in w ↦ one_not _ _ c.args.set w.if-at-s.true w.is_in.ensures w.if-is_in.false
      | else-at-s-via-else-at-s w ↦ one_end _ _ c.args.set w.if-at-s.false c.requires
    ]
