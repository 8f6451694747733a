use Rattle.std.proofs.Common.{◌∙◌}
use Rattle.records.proofs.Counting.{is_place}
use Rattle.records.proofs.place_in.Goals as goal

pub returns : goal.returns
returns c = c.word.ensures ∙ is_place _ _
