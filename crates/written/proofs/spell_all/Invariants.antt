use Rattle.written.proofs.GoingLaws.{Spelling}
use Rattle.written.proofs.spell_all.Given as goal

abbrev pub invariant-loop-i : goal.invariant-loop-i
invariant-loop-i l = Spelling l.text l.words l.count l.initial.body l.body l.o l.used l.i
