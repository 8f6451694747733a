use mathlib.Core.Path.{refl}
use Rattle.opens.proofs.OpenLaws.{took_text_lem}
use Rattle.opens.proofs.took_text.Goals as goal

pub returns : goal.returns
returns c = let o = c.args.o in (took_text_lem o.left o.late o.outer o.behind o.depth _ c.saturating_sub.ensures, refl, refl)
