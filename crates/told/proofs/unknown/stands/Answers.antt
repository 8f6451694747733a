use Rattle.std.proofs.Common.{◌∙◌, sym, eq-eqb}
use Rattle.words.proofs.WordBefore.{may_none}
use Rattle.told.proofs.unknown.stands.Goals as goal

pub returns-then-word-start : goal.returns-then-word-start
returns-then-word-start c = eq-eqb _ _ c.if-word-start.true ∙ sym (may_none _ _ _ c.requires c.if-word-start.true)
