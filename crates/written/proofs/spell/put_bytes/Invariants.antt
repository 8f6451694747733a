use Rattle.opens.specs.Opens.{where_of}
use Rattle.written.proofs.PutLaws.{Putting}
use Rattle.written.proofs.spell.put_bytes.Given as goal

abbrev pub invariant-loop-b : goal.invariant-loop-b
invariant-loop-b l = Putting l.initial.body l.used (where_of l.depth l.late) l.text l.body l.u l.b-index
