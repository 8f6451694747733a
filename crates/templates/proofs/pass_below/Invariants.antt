use Rattle.templates.proofs.Walking.{Below-at}
use Rattle.templates.proofs.pass_below.Given as goal

abbrev pub invariant-loop-next : goal.invariant-loop-next
invariant-loop-next l = Below-at l.words l.count l.from l.parts l.text l.at l.owed l.next l.to l.nested
