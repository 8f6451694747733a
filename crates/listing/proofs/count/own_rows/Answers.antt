use borrow.Author.Rules.{rules}
use mathlib.Core.Path.{ap}
use Prim.Native.Nat.{◌+◌}
use Rattle.told.proofs.Rows.{otherwise_told, otherwise_most}
use Rattle.listing.proofs.count.own_rows.Goals as goal

pub overflow_add-result : goal.overflow_add-result
overflow_add-result c = let m = otherwise_most _ _ _ _ _ _ _ c.put_otherwise.ensures in search rules

pub returns : goal.returns
returns c = rw (← otherwise_told _ 0 _ c.requires) (ap (λ n. 1 + n) c.put_otherwise.ensures.counted)
