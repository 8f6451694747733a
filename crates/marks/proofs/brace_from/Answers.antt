use borrow.Author.Rules.{rules}
use native.Mathlib.Omega.{arith}
use mathlib.Core.Path.{sym, ◌∙◌}
use Rattle.marks.proofs.Braces.{first_here, first_on, first_end_lem}
use Rattle.marks.proofs.brace_from.Goals as goal

pub returns-then-is_brace : goal.returns-then-is_brace
returns-then-is_brace c = first_here _ _ c.loop-i-test.true (sym (search rules) ∙ c.if-is_brace.true) ∙ sym c.loop-i.invariant

pub loop-i-preserved : goal.loop-i-preserved
loop-i-preserved c = c.loop-i.invariant ∙ first_on _ _ c.loop-i-test.true (sym (search rules) ∙ c.if-is_brace.false)

pub returns : goal.returns
returns c = grind (arith, first_end_lem c.args.s.now c.args.from, first_end_lem c.args.s.now c.loop-i.i)
