-- What one pass says of literals that pass the checks 4 to 7; of those that don't it says nothing.
use Rattle.std.specs.Prelude.{ℕ, ◌≤◌, ◌≡◌, false, List, length, Option, Some, None}
use Rattle.std.proofs.Math.Option.{none}
use Rattle.definition.specs.Counts.{counted}
use Rattle.definition.specs.Entry.{Literal, body, bad, ill_formed}
use Rattle.definition.specs.Reading.{all_chars}
use Rattle.entry.specs.Answers.{later_checks}

-- one literal with so many bytes left, and the characters of its body
pub record Passes (script : List ℕ) (previous left : ℕ) (l : Literal) (chars : ℕ) : Type 0 where
  pub good : bad script previous l ≡ false
  pub short : l.size ≤ left
  pub formed : (p : ℕ) → ill_formed script p l ≡ false
  pub few : chars ≤ l.size
  pub counts : chars ≡ (counted (body script l) (length (body script l))).chars

abbrev pub OneIs : List ℕ → (previous left : ℕ) → Literal → Option ℕ → Type 0
OneIs script previous left l (Some n) = Passes script previous left l n
OneIs script previous left l None = Unit {0}

-- all of them, and the characters of all bodies
abbrev pub AllIs : List ℕ → List Literal → Option ℕ → Type 0
AllIs script ls (Some n) = (n ≡ all_chars script ls) × (later_checks script ls ≡ none)
AllIs script ls None = Unit {0}
