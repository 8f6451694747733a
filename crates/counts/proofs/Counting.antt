-- What a step tells of the count. Assumes nothing.
use mathlib.Core.Path.{◌≡◌}
use mathlib.Core.List.{List}
use Prim.Native.Nat.{ℕ, ◌<◌}
use Rattle.definition.specs.Counts.{Count, more}
use Rattle.utf8.specs.declared.Cursor.{Cursor}
use Rattle.utf8.specs.declared.Step.TheVariants.{Char}
use Rattle.utf8.specs.Steps.{step_at}
use Rattle.utf8.proofs.Steps.{step_char}
use Rattle.definition_laws.proofs.Moves.Counted.{Counting, count_goes}

-- the character is counted
pub step_counts : (s : List ℕ) (taken i c : ℕ) (k : Cursor) (n : Count) → Counting s taken i n → i < taken → step_at s i ≡ Char c k → Counting s taken k.at (more c n)
step_counts s taken i c k n K h e =
    let S = step_char s i c k e in
    rw (← S.code_is, ← S.next_is) (count_goes s taken i n K h S.there)
