use Rattle.names.specs.Answers.{Starts}
use Rattle.names.proofs.are_starts.Given as goal

abbrev pub invariant-loop-offset : goal.invariant-loop-offset
invariant-loop-offset l = Starts l.file l.list l.offset-index
