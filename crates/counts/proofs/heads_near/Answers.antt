use borrow.Author.Rules.{rules}
use native.Mathlib.Omega.{arith}
use mathlib.Core.Path.{◌≡◌, sym, ◌∙◌, ap}
use Prim.Native.Nat.{◌-◌, ◌≤◌}
use Rattle.definition.proofs.Moves.CharLaws.{byte_is}
use Rattle.counts.specs.Heads.{head_of, heads_from}
use Rattle.counts.proofs.HeadLaws.{head_most, heads_none, heads_next, heads_most}
use Rattle.counts.proofs.heads_near.Goals as goal

pub loop-i-init : goal.loop-i-init
loop-i-init c = let a = c.args in (omega arith, c.requires.0, sym (heads_none a.s.now a.from))

pub overflow_add-n : goal.overflow_add-n
overflow_add-n c =
    let a = c.args in
    let h : c.head-n.result ≤ 1 = rw c.head-n.ensures (head_most _) in
    omega (arith, c.loop-i.invariant.2, heads_most a.s.now (c.loop-i.i - a.from) a.from)

pub loop-i-preserved : goal.loop-i-preserved
loop-i-preserved c =
    let a = c.args in
    let b = ap head_of (byte_is a.s.now c.loop-i.i (search rules)) in
    (omega (arith, c.loop-i.invariant.0), omega (arith, c.loop-i-test.true), omega (arith, c.loop-i.invariant.2, c.head-n.ensures, b, heads_next a.s.now a.from c.loop-i.i c.loop-i.invariant.0))

pub returns : goal.returns
returns c =
    let a = c.args in
    let e : c.loop-i.i ≡ a.to = omega (arith, c.loop-i.invariant.1, c.loop-i-test.false) in
    c.loop-i.invariant.2 ∙ ap (λ j. heads_from (j - a.from) a.s.now a.from) e
