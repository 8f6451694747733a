use Rattle.std.proofs.Common.{sym, ◌∙◌}
use Rattle.std.proofs.lemmas.Bool.{lt-leb}
use Rattle.words.proofs.Packing.{is_packed_is, too_long_lem}
use Rattle.words.proofs.is_keyword.Goals as goal

pub returns-then-end-from-le6 : goal.returns-then-end-from-le6
returns-then-end-from-le6 c = let p = c.packed.ensures in is_packed_is _ _ _ p.0 p.1 c.is_packed.ensures

pub returns-else-end-from-le6 : goal.returns-else-end-from-le6
returns-else-end-from-le6 c = lt-leb _ 6 c.if-end-from-le6.false ∙ sym (too_long_lem _ _ _ c.requires.1 c.if-end-from-le6.false)
