-- What the record rules leave of records to come, and what is written of them.
use Rattle.std.specs.Prelude.{ℕ, ◌≤◌, ◌≡◌, Bool, true, false, ◌&&◌, List, [], leb, length, Option, MatchOption}
use Rattle.definition.specs.Records.{Record}
use Rattle.definition.specs.Words.{all_fit, ordered, gapless, no_bytes}
use Rattle.definition_written.specs.Passes.{passed, found}
use Rattle.written.specs.Puts.{Puts}

-- records of a joined answer where a spec is due or not, so much is owed and texts reach a place, over a text of a size
pub record Rules (size : ℕ) (due : Bool) (owed at : ℕ) (rs : List Record) : Type 0 where
  pub fit : all_fit rs ≡ true
  pub order : ordered due owed rs ≡ true
  pub gaps : gapless at rs size ≡ true
  pub no_bytes_lem : no_bytes rs ≡ true

-- all that records hold is written, or it is known to be too long or to read back otherwise
pub record Spells (text : List ℕ) (rs : List Record) (body body' : List ℕ) (r : Option ℕ) : Type 0 where
  pub is : MatchOption r ((found text [] rs && leb (length (passed text [] rs)) 1048576) ≡ false) (λ n. (n ≤ 1048576) × (found text [] rs ≡ true) × Puts body 0 (passed text [] rs) body' n)
  pub kept : length body' ≡ length body
