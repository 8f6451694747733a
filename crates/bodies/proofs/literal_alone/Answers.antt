use Rattle.definition.specs.Entry.{body}
use Rattle.entry.specs.Answers.{described}
use Rattle.bodies.proofs.literal_alone.Goals as goal

pub returns : goal.returns
unfolding body described
returns c = rw c.opening.ensures at c.body_alone.ensures
