use Rattle.std.proofs.Common.{arith, sym, ◌∙◌, true≢false, ne_eqb}
use Rattle.names.proofs.Indexes.{sized_is, check_size, check_stray, checked_is}
use Rattle.names.proofs.is_index.Goals as goal
use Rattle.names.proofs.is_index.Goals.{then-n-index, else-n-index}

pub returns-then-are_starts : goal.returns-then-are_starts
returns-then-are_starts c =
    elim c.if-n-index.branch [
      | then-n-index w ↦ checked_is _ _ _ c.requires w.if-n-index.true (rw (sym w.value-is ∙ c.if-are_starts.true) at w.are_starts.ensures) _ c.is_rising.ensures
      | else-n-index w ↦ absurd (true≢false (sym c.if-are_starts.true ∙ w.value-is ∙ ne_eqb _ _ w.if-n-index.false))
    ]

pub returns-else-are_starts : goal.returns-else-are_starts
returns-else-are_starts c =
    rw c.if-are_starts.false
    (elim c.if-n-index.branch [
      | then-n-index w ↦ λ es h t. check_stray _ es h _ (rw (sym w.value-is ∙ c.if-are_starts.false) at w.are_starts.ensures)
      | else-n-index w ↦ λ es h t. check_size _ es h _ (λ z. let u = w.if-n-index.false in let y = sized_is _ _ c.requires es h in omega arith)
    ])
