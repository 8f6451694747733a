use Rattle.listing.proofs.count.unknown_rows.Goals as goal

pub returns : goal.returns
returns c = c.put_unknown.ensures.counted
