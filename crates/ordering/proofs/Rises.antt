-- A list that rises, element by element. Assumes nothing.
use mathlib.Core.Path.{◌≡◌}
use mathlib.Core.Bool.{false}
use mathlib.Core.List.{List}
use Prim.Native.Nat.{ℕ, ◌+◌, ◌≤◌, ◌<◌}
use native.Mathlib.Omega.{arith}
use lib.ListN.{length, get_or}
use Rattle.definition_names.specs.IsIndex.{in_order, Rising}
use Rattle.definition_names.proofs.NameOrder.{order_total, order_trans, order_refl}
use Rattle.definition_names.proofs.NameLists.{same?, rises}

-- a list that rises so far
module _ (file l : List ℕ) where
  abbrev pub Risen : ℕ → Type 0
  Risen k = (i : ℕ) → i < k → in_order file (get_or l (i + 1) 0) (get_or l i 0) ≡ false

  pub risen_more : (k : ℕ) → Risen k → in_order file (get_or l (k + 1) 0) (get_or l k 0) ≡ false → Risen (k + 1)
  risen_more k r h i m = same? i k (λ e. rw e h) (λ e. r i (omega arith))

  pub risen_all : (k : ℕ) → Risen k → length l ≤ k + 1 → Rising (in_order file) l
  risen_all k r h i j m n =
      rises (in_order file) (order_total file) (order_refl file) (order_trans file) l (length l) (λ x y. r x (omega arith)) i j m n
