use Rattle.records.specs.Written.{field}
use Rattle.records.proofs.emit_field.Goals as goal

pub returns : goal.returns
unfolding field
returns c = (rw (← c.put_documented-a.ensures.0, ← c.minus.ensures, ← c.plus-to.ensures, ← c.conversion_of-conversion.ensures) c.put_field.ensures, c.put_documented-a.ensures.1)
