use Rattle.expressions.proofs.CleanLaws.{none_from}
use Rattle.expressions.proofs.is_braceless.Goals as goal

pub returns : goal.returns
returns c = none_from _ _ c.brace_from-end.ensures
