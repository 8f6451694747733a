-- THE LIMITS OF A LIST by their numerals: 1,024 literals, and 1,048,576 bytes of their bodies together. Assumes nothing.
use mathlib.Core.Path.{◌≡◌}
use mathlib.Core.List.{List, [], ◌∷◌}
use mathlib.Core.Option.{none, some}
use Prim.Native.Nat.{◌≤◌, ◌<◌}
use native.Mathlib.Omega.{arith}
use borrow.Author.Tests.{lt-ltb, le-ltb}
use lib.ListN.{length}
use Rattle.definition.specs.Entry.{Literal, refusal, not_many, total, not_long}

module _ (ls : List Literal) where
  pub literals_many : 1024 < length ls → not_many ls ≡ some (refusal 3 0 0 0 0)
  unfolding not_many
  literals_many h = rw (lt-ltb 1024 (length ls) h)

  pub literals_few : length ls ≤ 1024 → not_many ls ≡ none
  unfolding not_many
  literals_few h = rw (le-ltb 1024 (length ls) h)

  pub bodies_long : 1048576 < total ls → not_long ls ≡ some (refusal 5 0 0 0 0)
  unfolding not_long
  bodies_long h = rw (lt-ltb 1048576 (total ls) h)

  pub bodies_short : total ls ≤ 1048576 → not_long ls ≡ none
  unfolding not_long
  bodies_short h = rw (le-ltb 1048576 (total ls) h)

-- every body counts: the second of two that fit alone
pub every_body : (a b : Literal) → a.size ≡ 1048576 → b.size ≡ 1 → not_long (a ∷ b ∷ []) ≡ some (refusal 5 0 0 0 0)
unfolding total
every_body a b p q = bodies_long (a ∷ b ∷ []) (omega arith)
