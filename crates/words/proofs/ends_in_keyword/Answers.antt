use Rattle.std.proofs.Common.{sym, ◌∙◌}
use Rattle.words.proofs.WordBefore.{ends_here, ends_next, ends_none}
use Rattle.words.proofs.ends_in_keyword.Goals as goal

pub returns-then-is_keyword : goal.returns-then-is_keyword
returns-then-is_keyword c = sym (c.loop-i.invariant ∙ ends_here _ _ _ c.loop-i-test.true c.requires.1 (sym c.is_keyword.ensures ∙ c.if-is_keyword.true))

pub loop-i-preserved : goal.loop-i-preserved
loop-i-preserved c = c.loop-i.invariant ∙ ends_next _ _ _ c.loop-i-test.true c.requires.1 (sym c.is_keyword.ensures ∙ c.if-is_keyword.false)

pub returns : goal.returns
returns c = sym (c.loop-i.invariant ∙ ends_none _ _ _ c.loop-i-test.false)
