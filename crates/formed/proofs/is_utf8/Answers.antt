use Rattle.formed.proofs.Goods.{utf8_is}
use Rattle.formed.proofs.is_utf8.Goals as goal

pub returns : goal.returns
returns c = utf8_is _ _ _ _ _ _ c.min-start.ensures c.min-end.ensures c.well_formed-formed.ensures.0
