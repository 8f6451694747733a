use borrow.Author.Rules.{rules}
use borrow.Author.Tests.{ltb-true, ltb-false}
use native.Mathlib.Omega.{arith}
use Prim.Native.Nat.{ℕ, ◌+◌}
use mathlib.Core.List.{List}
use lib.Dec.{ltb}
use Rattle.definition.proofs.Moves.CharLaws.{cases}
use Rattle.plain.specs.Plain.{AllPlain}
use Rattle.plain.proofs.plain_blocks.Goals as goal

-- a run behind another
both : (kind : ℕ) (s : List ℕ) (i j k : ℕ) → AllPlain kind s i j → AllPlain kind s j k → AllPlain kind s i k
both kind s i j k p q x h l = cases (ltb x j) (λ t. p x h (ltb-true x j t)) (λ t. q x (ltb-false x j t) l)

pub loop-i-init : goal.loop-i-init
loop-i-init c = (omega arith, c.requires.0, λ k h l. absurd (omega arith))

pub overflow_sub-s : goal.overflow_sub-s
overflow_sub-s c = omega (arith, c.loop-i.invariant.1)

pub loop-i-preserved : goal.loop-i-preserved
loop-i-preserved c = let a = c.args in (omega (arith, c.loop-i.invariant.0), search rules, both a.kind a.s.now a.at c.loop-i.i (c.loop-i.i + a.size) c.loop-i.invariant.2 (c.is_plain.ensures c.if-is_plain.true))
