use borrow.Author.Rules.{rules}
use native.Mathlib.Omega.{arith}
use mathlib.Core.Path.{◌≡◌, ◌∙◌, ap}
use mathlib.Core.List.{[], ◌∷◌}
use Prim.Native.Nat.{◌+◌}
use lib.ListN.{length}
use Rattle.definition_revisions.specs.Revisions.{counting}
use Rattle.buffers.specs.Over.{over}
use Rattle.buffers.proofs.Over.{length_over}
use Rattle.revisions.proofs.Running.{put_none, put_next}
use Rattle.revisions.proofs.put_counting.Goals as goal

pub loop-k-init : goal.loop-k-init
loop-k-init c = (search rules, search rules, put_none _ _ _)

pub loop-k-preserved : goal.loop-k-preserved
loop-k-preserved c =
    let a = c.args in
    let e = c.put.ensures ∙ ap (λ l. over l (a.at + c.loop-k.k) ((a.from + c.loop-k.k) ∷ [])) c.loop-k.invariant.2 ∙ put_next a.list.now a.at a.from c.loop-k.k in
    (omega (arith, c.loop-k-test.true), ap length e ∙ length_over _ _ _, e)

pub returns : goal.returns
returns c =
    let a = c.args in
    let e : c.loop-k.k ≡ a.count = omega (arith, c.loop-k.invariant.0, c.loop-k-test.false) in
    c.loop-k.invariant.2 ∙ ap (λ k. over a.list.now a.at (counting a.from k)) e
