use Rattle.std.proofs.Common.{eq-eqb, ne_eqb}
use Rattle.records.specs.Written.{closed, held_words}
use Rattle.records.proofs.close_held.Goals as goal

pub returns-then-k-eq1 : goal.returns-then-k-eq1
unfolding closed held_words
returns-then-k-eq1 c = rw (eq-eqb _ _ c.if-k-eq1.true, c.put_record.ensures, c.word.ensures, c.word-then-k-eq1.ensures, c.minus.ensures, c.plus.ensures)

pub returns : goal.returns
unfolding closed held_words
returns c = rw (ne_eqb _ _ c.if-k-eq1.false)
