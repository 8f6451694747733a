use Rattle.std.proofs.Common.{sym, ◌∙◌, arith}
use Rattle.words.proofs.WordBefore.{word_here, word_back, word_front}
use Rattle.words.proofs.word_start.Goals as goal

pub returns-then-not-in_word_at : goal.returns-then-not-in_word_at
returns-then-not-in_word_at c = let e = c.loop-i.invariant ∙ word_here _ _ c.loop-i-test.true (sym c.in_word_at.ensures ∙ c.if-not-in_word_at.true) in omega (arith, e)

pub loop-i-preserved : goal.loop-i-preserved
loop-i-preserved c = c.loop-i.invariant ∙ word_back _ _ c.loop-i-test.true (sym c.in_word_at.ensures ∙ c.if-not-in_word_at.false)

pub returns : goal.returns
returns c = let e = c.loop-i.invariant ∙ word_front _ _ c.loop-i-test.false in omega (arith, e)
