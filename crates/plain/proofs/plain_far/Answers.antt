use native.Mathlib.Omega.{arith}
use mathlib.Core.Path.{◌≡◌, sym, ◌∙◌}
use borrow.Author.Tests.{ltb-true}
use lib.ListN.{length}
use Rattle.plain.specs.Plain.{plain_end}
use Rattle.plain.proofs.Runs.{end_all, end_past, end_to}
use Rattle.plain.proofs.plain_far.Goals as goal
use Rattle.plain.proofs.plain_far.Goals.{After-plain_blocks-j, then-j-n-via-then-j-n, then-j-n-via-else-j-n+then-is_plain, then-n-j-lt8, else-n-j-lt8}

-- after the blocks
blocks : (c : After-plain_blocks-j) → let a = c.args in plain_end a.kind a.s.now a.at ≡ plain_end a.kind a.s.now c.plain_blocks-j.result
blocks c =
    let a = c.args in
    let p = c.plain_blocks-i.ensures in
    let q = c.plain_blocks-j.ensures in
    end_all a.kind a.s.now _ _ p.0 p.1 p.2 ∙ end_all a.kind a.s.now _ _ q.0 q.1 q.2

pub returns-then-j-n : goal.returns-then-j-n
returns-then-j-n c =
    let a = c.args in
    let q = c.plain_blocks-j.ensures in
    let n = length a.s.now in
    let so_far = blocks (goal.at.returns-then-j-n c).After-plain_blocks-j in
    let past = end_past a.kind a.s.now n (omega arith) in
    elim c.then-j-n.branch [
      | then-j-n-via-then-j-n w ↦ sym (so_far ∙ rw w.if-j-n.true past)
      | then-j-n-via-else-j-n+then-is_plain w ↦ elim w.if-n-j-lt8.branch [
        | then-n-j-lt8 v ↦ sym (so_far ∙ end_all a.kind a.s.now _ n q.1 (omega arith) (λ k h l. v.is_plain.ensures (sym v.value-is ∙ w.if-is_plain.true) k (omega (arith, v.if-n-j-lt8.true)) (omega arith)) ∙ past)
        | else-n-j-lt8 v ↦ let t = ltb-true _ _ (sym v.value-is ∙ w.if-is_plain.true) in absurd (omega arith)
      ]
    ]

pub returns : goal.returns
returns c = let a = c.args in sym (blocks (goal.at.returns c).After-plain_blocks-j ∙ end_to a.kind a.s.now _ _ c.plain_to.ensures)
