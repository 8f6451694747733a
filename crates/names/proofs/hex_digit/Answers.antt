use native.Mathlib.Omega.{arith}
use Prim.Native.Nat.{ℕ, ◌≤◌}
use mathlib.Core.Path.{◌≡◌}
use Rattle.definition.specs.Escapes.{hex_digit}
use Rattle.definition.proofs.Moves.CharLaws.{inside_yes, inside_not}
use Rattle.names.proofs.hex_digit.Goals as goal

none : (x : ℕ) → (48 ≤ x → x ≤ 57 → ⊥) × (65 ≤ x → x ≤ 70 → ⊥) × (97 ≤ x → x ≤ 102 → ⊥) → 16 ≡ hex_digit x
unfolding hex_digit
none x n = rw (inside_not 48 57 x n.0, inside_not 65 70 x n.1, inside_not 97 102 x n.2)

pub returns-in-48-to-57-clause-value : goal.returns-in-48-to-57-clause-value
unfolding hex_digit
returns-in-48-to-57-clause-value c = let x = c.args.c in rw (inside_yes 48 57 x (omega arith) (omega arith))

pub returns-in-65-to-70-clause-value : goal.returns-in-65-to-70-clause-value
unfolding hex_digit
returns-in-65-to-70-clause-value c = let x = c.args.c in rw (inside_not 48 57 x (omega arith), inside_yes 65 70 x (omega arith) (omega arith))

pub returns-in-97-to-102-clause-value : goal.returns-in-97-to-102-clause-value
unfolding hex_digit
returns-in-97-to-102-clause-value c = let x = c.args.c in rw (inside_not 48 57 x (omega arith), inside_not 65 70 x (omega arith), inside_yes 97 102 x (omega arith) (omega arith))

pub returns-in_default-clause-value : goal.returns-in_default-clause-value
unfolding hex_digit
returns-in_default-clause-value c = none c.args.c (omega arith)

pub returns-in_default-2-clause-value : goal.returns-in_default-2-clause-value
unfolding hex_digit
returns-in_default-2-clause-value c = none c.args.c (omega arith)

pub returns-in_default-3-clause-value : goal.returns-in_default-3-clause-value
unfolding hex_digit
returns-in_default-3-clause-value c = none c.args.c (omega arith)

pub returns-in_default-4-clause-value : goal.returns-in_default-4-clause-value
unfolding hex_digit
returns-in_default-4-clause-value c = none c.args.c (omega arith)
