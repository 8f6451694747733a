use Rattle.records.specs.Written.{field_put}
use Rattle.records.proofs.put_field.Goals as goal

pub returns : goal.returns
unfolding field_put
returns c = rw (← c.place_in-place.ensures, ← c.close_held-a.ensures) c.put_inner.ensures
