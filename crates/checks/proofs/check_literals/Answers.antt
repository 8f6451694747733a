use Rattle.std.proofs.Common.{ap}
use Rattle.definition.specs.Reading.{accepts, outcome_of}
use Rattle.checks.proofs.check_literals.Goals as goal

pub returns-in-Some : goal.returns-in-Some
unfolding outcome_of
returns-in-Some c = let h = c.in-Some.ensures in rw h.1 (ap accepts h.0)
