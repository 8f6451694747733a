use native.Mathlib.Omega.{arith}
use mathlib.Core.Path.{sym, ◌∙◌}
use Rattle.plain.proofs.Runs.{end_past, end_all, end_to}
use Rattle.plain.proofs.plain_end.Goals as goal

pub returns-then-n-at : goal.returns-then-n-at
returns-then-n-at c = let a = c.args in sym (end_past a.kind a.s.now a.at c.if-n-at.true)

pub returns-then-is_plain : goal.returns-then-is_plain
returns-then-is_plain c =
    let a = c.args in
    let t = c.if-n-at-ge8.true in
    c.plain_far.ensures ∙ sym (end_all a.kind a.s.now _ _ (omega arith) (omega arith) (c.is_plain.ensures c.if-is_plain.true))

pub returns-else-n-at-ge8 : goal.returns-else-n-at-ge8
returns-else-n-at-ge8 c = let a = c.args in sym (end_to a.kind a.s.now _ _ c.plain_to.ensures)
