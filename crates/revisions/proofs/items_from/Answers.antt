use borrow.Author.Rules.{rules}
use native.Mathlib.Omega.{arith}
use native.Mathlib.Nat.{zero-add}
use mathlib.Core.Path.{sym}
use Rattle.revisions.proofs.Running.{items_none, counted_more, counted_all}
use Rattle.revisions.proofs.items_from.Goals as goal

pub loop-i-init : goal.loop-i-init
loop-i-init c = (omega arith, search rules, λ text. sym (zero-add _))

pub loop-i-preserved : goal.loop-i-preserved
loop-i-preserved c = let p = c.item_end-i.ensures in (omega (arith, c.loop-i.invariant.0, p.ahead), p.within, λ text. counted_more _ c.loop-i.items (p.first text) (c.loop-i.invariant.2 text))

pub returns : goal.returns
returns c = record { few = omega (arith, c.loop-i.invariant.0, c.loop-i.invariant.1); counts = λ text. counted_all _ c.loop-i.items (items_none _ text _ c.loop-i.i c.loop-i-test.false) (c.loop-i.invariant.2 text) }
