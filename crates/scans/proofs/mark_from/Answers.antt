use Rattle.scans.proofs.mark_from.Goals as goal

pub returns : goal.returns
returns c = c.first_of.ensures
