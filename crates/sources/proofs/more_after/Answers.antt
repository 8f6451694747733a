use Rattle.sources.proofs.Odds.{more_none, more_past, more_some, more_spaces}
use Rattle.sources.proofs.more_after.Goals as goal

pub returns-then-f-eq0 : goal.returns-then-f-eq0
returns-then-f-eq0 c = more_none _ c.args.f _ c.requires.0 c.if-f-eq0.true

pub returns-then-end-from : goal.returns-then-end-from
returns-then-end-from c = more_past _ c.args.f _ c.requires.0 c.if-f-eq0.false c.if-end-from.true

pub text_in-requires : goal.text_in-requires
text_in-requires c = (c.if-end-from.false, c.requires.1)

pub returns-then-text_in-end : goal.returns-then-text_in-end
returns-then-text_in-end c = more_some _ c.args.f _ c.requires.0 c.if-f-eq0.false _ c.text_in.ensures c.if-text_in-end.true

pub returns : goal.returns
returns c = more_spaces _ c.args.f _ c.requires.0 c.if-f-eq0.false _ c.text_in.ensures c.if-text_in-end.false
