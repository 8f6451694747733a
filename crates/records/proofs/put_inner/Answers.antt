use Rattle.records.specs.Written.{put}
use Rattle.records.proofs.put_inner.Goals as goal

pub returns : goal.returns
unfolding put
returns c = rw (c.put_record.ensures, c.word.ensures, c.word-2.ensures, c.minus.ensures, c.plus.ensures, c.plus-2.ensures)
