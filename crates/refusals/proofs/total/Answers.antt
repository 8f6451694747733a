use borrow.Author.Rules.{rules}
use native.Mathlib.Omega.{arith}
use native.Mathlib.Nat.{sub-zero}
use mathlib.Core.Path.{ap}
use Rattle.definition.specs.Entry.{total}
use Rattle.entry.specs.Answers.{described}
use Rattle.entry.proofs.Literals.{total_turn, none_left}
use Rattle.refusals.proofs.total.Goals as goal

pub loop-i-init : goal.loop-i-init
unfolding total described
loop-i-init c = (search rules, rw sub-zero (omega arith))

pub overflow_add-sum : goal.overflow_add-sum
unfolding total described
overflow_add-sum c = omega (arith, c.struct_known-1.given)

pub loop-i-preserved : goal.loop-i-preserved
unfolding total described
loop-i-preserved c = let a = c.args in (omega arith, omega (arith, c.loop-i.invariant.1, total_turn a.numbers.now a.count c.loop-i.i c.loop-i-test.true, ap (λ l. l.size) c.literal_at.ensures))

pub returns : goal.returns
unfolding total described
returns c = let a = c.args in omega (arith, c.loop-i.invariant.1, ap total (none_left a.numbers.now a.count c.loop-i.i c.loop-i-test.false))
