use Rattle.traces.proofs.Reading.{skip_end, skip_not, skip_there}
use Rattle.traces.proofs.skip.Goals as goal
use Rattle.traces.proofs.skip.Goals.{else-at-s-via-then-at-s+else-s-at, else-at-s-via-else-at-s}

pub returns-then-s-at : goal.returns-then-s-at
returns-then-s-at c set o = skip_there o _ _ c.if-at-s.true c.if-s-at.true

pub returns-else-at-s : goal.returns-else-at-s
returns-else-at-s c set o =
    elim c.else-at-s.branch [
      | else-at-s-via-then-at-s+else-s-at w ↦ skip_not o _ _ w.if-at-s.true w.if-s-at.false
      | else-at-s-via-else-at-s w ↦ skip_end o _ _ w.if-at-s.false c.requires
    ]
