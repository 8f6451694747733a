use mathlib.Core.Path.{refl}
use Rattle.opens.proofs.OpenLaws.{pushed}
use Rattle.written.proofs.turns.push.Goals as goal

pub returns : goal.returns
returns c = let o = c.args.o in (pushed o.left o.late o.outer o.behind o.depth _ c.requires, refl)
