use Rattle.records.specs.Written.{specified}
use Rattle.records.proofs.fill_spec.Goals as goal

pub returns : goal.returns
unfolding specified
returns c = rw (c.put_record.ensures, c.word.ensures, c.word-2.ensures)
