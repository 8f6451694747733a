use native.Mathlib.Omega.{arith}
use mathlib.Core.Path.{sym, ◌∙◌}
use lib.Seq.{length-take-le}
use Rattle.written.proofs.CallLaws.{not_formed, not_joined, is_writable, at_unwritable, lies, rules_read, spells_read, at_otherwise, at_short, at_wrote}
use Rattle.written.proofs.write.Goals as goal

pub returns-then-not-is_formed : goal.returns-then-not-is_formed
returns-then-not-is_formed c = let a = c.args in let r = c.refuse.ensures in rw r.0 (at_unwritable a.numbers.now a.words.now a.text.now a.body.now (not_formed a.numbers.now a.words.now a.text.now a.body.now (sym c.is_formed.ensures ∙ c.if-not-is_formed.true)) _ r.1)

pub returns-then-number_at-ne1 : goal.returns-then-number_at-ne1
returns-then-number_at-ne1 c = let a = c.args in let r = c.refuse-then-number_at-ne1.ensures in rw r.0 (at_unwritable a.numbers.now a.words.now a.text.now a.body.now (not_joined a.numbers.now a.words.now a.text.now a.body.now (λ z. c.if-number_at-ne1.true (c.number_at.ensures ∙ z))) _ r.1)

pub slice_bounds-spell_all-end : goal.slice_bounds-spell_all-end
slice_bounds-spell_all-end c = let a = c.args in let w = (is_writable a.numbers.now a.words.now a.text.now a.body.now (sym c.is_formed.ensures ∙ c.if-not-is_formed.false) (omega (arith, c.number_at.ensures))) in sym (length-take-le _ _ (let l = (lies a.numbers.now a.words.now a.text.now a.body.now w).1 in let e = c.number_at-size.ensures in omega arith))

pub spell_all-requires : goal.spell_all-requires
spell_all-requires c = let a = c.args in let w = (is_writable a.numbers.now a.words.now a.text.now a.body.now (sym c.is_formed.ensures ∙ c.if-not-is_formed.false) (omega (arith, c.number_at.ensures))) in ((let l = (lies a.numbers.now a.words.now a.text.now a.body.now w).0 in let e = c.number_at-count.ensures in omega arith), rules_read a.numbers.now a.words.now a.text.now a.body.now w _ _ c.number_at-size.ensures c.number_at-count.ensures)

pub returns-in_default : goal.returns-in_default
returns-in_default c = let a = c.args in let w = (is_writable a.numbers.now a.words.now a.text.now a.body.now (sym c.is_formed.ensures ∙ c.if-not-is_formed.false) (omega (arith, c.number_at.ensures))) in let r = c.refuse-in_default.ensures in rw r.0 (at_otherwise a.numbers.now a.words.now a.text.now a.body.now w _ (spells_read a.numbers.now a.words.now a.text.now a.body.now w _ _ c.number_at-size.ensures c.number_at-count.ensures c.in_default.ensures) _ r.1)

pub returns-then-body-used : goal.returns-then-body-used
returns-then-body-used c = let a = c.args in let w = (is_writable a.numbers.now a.words.now a.text.now a.body.now (sym c.is_formed.ensures ∙ c.if-not-is_formed.false) (omega (arith, c.number_at.ensures))) in let r = c.refuse-then-body-used.ensures in rw r.0 (at_short a.numbers.now a.words.now a.text.now a.body.now w _ _ (spells_read a.numbers.now a.words.now a.text.now a.body.now w _ _ c.number_at-size.ensures c.number_at-count.ensures c.in-Some.ensures) (omega (arith, c.if-body-used.true)) _ r.1)

pub returns : goal.returns
returns c = let a = c.args in let w = (is_writable a.numbers.now a.words.now a.text.now a.body.now (sym c.is_formed.ensures ∙ c.if-not-is_formed.false) (omega (arith, c.number_at.ensures))) in at_wrote a.numbers.now a.words.now a.text.now a.body.now w _ _ (spells_read a.numbers.now a.words.now a.text.now a.body.now w _ _ c.number_at-size.ensures c.number_at-count.ensures c.in-Some.ensures) (omega (arith, c.if-body-used.false))
