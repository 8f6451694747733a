use Rattle.bodies.proofs.TopLaws.{whole_made}
use Rattle.bodies.proofs.whole_of.Goals as goal

pub returns : goal.returns
returns c = let p = c.requires in rw c.whole_between.ensures (whole_made _ _ _ _ p.0 c.literal_at-first.ensures c.literal_at-last.ensures p.1)
