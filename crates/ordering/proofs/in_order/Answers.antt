use Rattle.std.proofs.Common.{◌∙◌}
use Rattle.definition_names.specs.Names.{name_of}
use Rattle.definition_names.specs.IsIndex.{in_order}
use Rattle.ordering.proofs.in_order.Goals as goal

pub returns : goal.returns
unfolding in_order name_of
returns c = c.at_most.ensures ∙ rw (c.name_at.ensures, c.name_at-2.ensures)
