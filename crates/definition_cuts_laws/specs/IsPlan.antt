-- WHAT A PLAN OF CUTS IS, without a word of how it is made.
use Rattle.std.specs.Prelude.{ℕ, ◌≤◌, ◌≡◌, List, ◌∷◌, ◌++◌}
use Rattle.std.proofs.Math.Option.{Option, none, some}
use Rattle.definition_cuts.specs.Cuts.{Passes}

-- Its list passes; the cuts before one of its cuts don't pass alone; and no passing list that begins with those has a
-- later one there
pub record IsPlan (s : List ℕ) (limit : ℕ) (cuts : List ℕ) : Type 0 where
  pub passes : Passes s limit cuts
  pub needed : (before : List ℕ) (c : ℕ) (after : List ℕ) → cuts ≡ before ++ c ∷ after → Passes s limit before → ⊥
  pub latest : (before : List ℕ) (c : ℕ) (after : List ℕ) (d : ℕ) (others : List ℕ) → cuts ≡ before ++ c ∷ after → Passes s limit (before ++ d ∷ others) → d ≤ c

-- and it says 'none' exactly if no list passes
unfoldable pub Promised : (s : List ℕ) (limit : ℕ) → Option (List ℕ) → Type 0
Promised s limit none = (cuts : List ℕ) → Passes s limit cuts → ⊥
Promised s limit (some cuts) = IsPlan s limit cuts
