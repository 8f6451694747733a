-- A piece of a text that is written byte by byte. Assumes nothing.
use mathlib.Core.Path.{◌≡◌, sym}
use mathlib.Core.List.{List, [], ◌∷◌}
use Prim.Native.Nat.{ℕ, ◌+◌, ◌-◌, ◌≤◌, ◌<◌}
use native.Mathlib.Omega.{arith}
use lib.ListN.{length, drop, get_or, length-drop}
use lib.Seq.{get_or-drop}
use Rattle.definition.specs.Chars.{part}
use Rattle.buffers.specs.Over.{over}
use Rattle.buffers.proofs.Over.{over_nil, over_one, over_more}

-- one byte more of it
pub piece_more : (s text : List ℕ) (p from i to : ℕ) → from ≤ i → i < length s → to + from ≡ p + i → over (over text p (part s from i)) to (get_or s i 0 ∷ []) ≡ over text p (part s from (i + 1))
piece_more s text p from i to l h e =
    let at : from + (i - from) ≡ i = omega arith in
    let size : i + 1 - from ≡ i - from + 1 = omega arith in
    let here : get_or s i 0 ≡ get_or (drop from s) (i - from) 0 = rw (get_or-drop from s (i - from) 0, at) in
    rw (over_one (over text p (part s from i)) to (get_or s i 0), here, size)
    (over_more text p (i - from) to (drop from s) 0 (rw (length-drop from s) (omega arith)) (omega arith))

-- nothing of it yet
pub piece_none : (s text : List ℕ) (p from : ℕ) → text ≡ over text p (part s from from)
piece_none s text p from = let size : from - from ≡ 0 = omega arith in rw (size) (sym (over_nil text p))
