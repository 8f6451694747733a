use Rattle.integers.proofs.Placed.{more_plain, more_parted, more_next, put_one, put_two}
use Rattle.integers.proofs.put_figure.Goals as goal
use Rattle.integers.proofs.put_figure.Goals.{else-grouping-ne0-via-then-grouping-ne0+else-come-eq0, else-grouping-ne0-via-else-grouping-ne0}

pub returns-then-come-eq0 : goal.returns-then-come-eq0
returns-then-come-eq0 c = put_two c.args.grouping c.args.come c.args.fig _ _ (more_parted c.args.grouping c.args.come c.args.fig c.if-grouping-ne0.true c.if-come-eq0.true) c.put.ensures c.put-then-come-eq0.ensures

pub returns : goal.returns
returns c =
    put_one c.args.grouping c.args.come c.args.fig _ _
    (elim c.else-grouping-ne0.branch [
      | else-grouping-ne0-via-then-grouping-ne0+else-come-eq0 w ↦ more_next c.args.grouping c.args.come c.args.fig w.if-grouping-ne0.true w.if-come-eq0.false
      | else-grouping-ne0-via-else-grouping-ne0 w ↦ more_plain c.args.grouping c.args.come c.args.fig w.if-grouping-ne0.false
    ])
    c.put-2.ensures
