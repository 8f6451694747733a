-- Laws of copying a part of a buffer behind itself.
-- Assumes nothing.
use mathlib.Core.Path.{◌≡◌, refl}
use mathlib.Core.List.{List}
use Prim.Native.Nat.{ℕ, ◌+◌, ◌-◌, ◌≤◌, ◌<◌, min}
use native.Mathlib.Omega.{arith}
use lib.ListN.{length, take, drop, set, get_or, length-take, length-drop}
use lib.Seq.{get_or-take, get_or-drop}
use Rattle.definition.specs.Chars.{part}
use Rattle.buffers.specs.Over.{over}
use Rattle.buffers.proofs.Over.{over_take, over_more, get_d_over}

-- the part from `from` up to `to`, copied to p: one byte more, and as many as find room
module _ (b : List ℕ) (p from to i : ℕ) where
  pub again_more : to ≤ p → p < length b → i < to - from → set (over b p (take i (part b from to))) (p + i) (get_or (over b p (take i (part b from to))) (from + i) 0) ≡ over b p (take (i + 1) (part b from to))
  again_more behind inside h =
      rw (get_d_over b p (take i (part b from to)) (from + i) 0 (omega arith), ← get_or-drop from b i 0, ← get_or-take (to - from) (drop from b) i 0 h)
      (over_more b p i (p + i) (part b from to) 0 (rw (length-take, length-drop) (omega arith)) refl)

  pub again_all : min (to - from) (length b - p) ≤ i → over b p (take i (part b from to)) ≡ over b p (part b from to)
  again_all h = over_take b p i (part b from to) (rw length-take (omega arith))
