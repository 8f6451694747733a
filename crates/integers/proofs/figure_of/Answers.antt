use Rattle.integers.proofs.Placed.{figure_digit, figure_capital, figure_small}
use Rattle.integers.proofs.figure_of.Goals as goal

pub returns-then-d-lt10 : goal.returns-then-d-lt10
returns-then-d-lt10 c = figure_digit _ _ c.if-d-lt10.true

pub returns-then-kind-eq88 : goal.returns-then-kind-eq88
returns-then-kind-eq88 c = figure_capital _ _ c.if-d-lt10.false c.if-kind-eq88.true

pub returns-else-kind-eq88 : goal.returns-else-kind-eq88
returns-else-kind-eq88 c = figure_small _ _ c.if-d-lt10.false c.if-kind-eq88.false
