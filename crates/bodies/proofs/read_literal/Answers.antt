use Rattle.definition.specs.Entry.{body}
use Rattle.entry.specs.Answers.{described}
use Rattle.bodies.proofs.read_literal.Goals as goal

pub returns : goal.returns
unfolding body described
returns c = rw c.opening.ensures at c.read_body.ensures
