use Rattle.definition_scripts.specs.Listing.{ten_of}
use Rattle.told.proofs.put_refusal.Goals as goal

pub returns : goal.returns
unfolding ten_of
returns c = c.put_row.ensures
