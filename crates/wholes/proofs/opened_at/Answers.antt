use Rattle.std.proofs.Common.{refl, eq-eqb, ne_eqb}
use Rattle.definition.specs.Reading.{opened_at}
use Rattle.records.specs.Counts.{word}
use Rattle.wholes.proofs.opened_at.Goals as goal

pub returns-then-x : goal.returns-then-x
unfolding opened_at word
returns-then-x c = rw (eq-eqb _ _ c.if-x.true, c.place_in.ensures) refl

pub returns-else-x : goal.returns-else-x
unfolding opened_at word
returns-else-x c = rw (ne_eqb _ _ c.if-x.false) refl
