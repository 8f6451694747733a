use borrow.Author.Rules.{rules}
use Rattle.formats.proofs.Sets.{point_end, point_not, point_alone, point_more}
use Rattle.formats.proofs.read_pointed.Goals as goal
use Rattle.formats.proofs.read_pointed.Goals.{then-s-at-via-then-s-at, then-s-at-via-else-s-at+then-s-at-ne46}

pub returns-then-s-at : goal.returns-then-s-at
returns-then-s-at c =
    elim c.then-s-at.branch [
      | then-s-at-via-then-s-at w ↦ point_end _ _ w.if-s-at.true c.requires
      | then-s-at-via-else-s-at+then-s-at-ne46 w ↦ point_not _ _ w.if-s-at.false w.if-s-at-ne46.true
    ]

pub returns-then-number-eq0 : goal.returns-then-number-eq0
returns-then-number-eq0 c = point_alone _ _ c.if-s-at.false c.if-s-at-ne46.false c.read_digits-number.ensures.0 c.if-number-eq0.true

pub returns : goal.returns
returns c = point_more _ _ c.if-s-at.false c.if-s-at-ne46.false c.read_digits-number.ensures.0 c.if-number-eq0.false c.read_digits-number.ensures.1 (c.read_digits-number.ensures.3 (search rules))
