use Rattle.std.proofs.Common.{sym, ◌∙◌, arith}
use Rattle.gaps.proofs.Gaps.{near_starts, near_past, near_apart}
use Rattle.gaps.proofs.prefix_from.Goals as goal
use Rattle.gaps.proofs.prefix_from.Goals.{then-s-to, else-s-to}

pub returns-then-apart : goal.returns-then-apart
returns-then-apart c =
    elim c.if-s-to.branch [
      | then-s-to w ↦ (omega arith, near_past _ _ _ c.requires w.if-s-to.true)
      | else-s-to w ↦ (omega arith, near_apart _ _ _ c.requires (sym w.apart.ensures ∙ sym w.value-is ∙ c.if-apart.true))
    ]

pub returns-else-apart : goal.returns-else-apart
returns-else-apart c = let m = c.max.ensures in let s = c.saturating_sub.ensures in (omega (arith, c.requires), near_starts _ _ _ c.requires _ (omega arith) (λ h. omega arith))
