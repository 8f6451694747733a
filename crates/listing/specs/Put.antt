-- Parts of a script whose rows are written, and rows whose sources are cut.
use Rattle.std.specs.Prelude.{ℕ, suc, ◌+◌, ◌*◌, ◌≤◌, ◌<◌, ◌≡◌, List, length}
use Rattle.definition.specs.Escapes.{Naming}
use Rattle.definition_scripts.specs.Cut.{cut_part}
use Rattle.definition_scripts.specs.Listing.{cut_rows, reached}
use Rattle.definition_scripts_laws.proofs.Listing.SourceLaws.{Fits}
use Rattle.told.specs.Rows.{row_at}
use Rattle.alone.specs.Puts.{Puts}
use Rattle.listing.specs.declared.rows.Part.{Part}

-- a part lies in a script that is not too long, behind not too many rows
pub record Bounded (s : List ℕ) (from end count : ℕ) : Type 0 where
  pub ahead : from ≤ end
  pub within : end ≤ length s
  pub not_long_lem : length s ≤ 1048576
  pub few : count ≤ 2097152

-- a part that was cut
pub record PartIs (look : Naming) (s : List ℕ) (from end within : ℕ) (rows rows' : List ℕ) (count : ℕ) (r : Part) : Type 0 where
  pub puts : Puts (cut_rows look s within (cut_part s from end)) rows rows' count r.count
  pub literals : r.literals ≡ length (cut_part s from end).literals
  pub to : r.to ≡ reached end (cut_part s from end).ending

-- row i stands in the buffer among so many, and its source in the script
pub record Lies (s rows : List ℕ) (i count : ℕ) : Type 0 where
  pub placed : i * 10 + 10 ≤ length rows
  pub fits : Fits s (suc (length s)) (row_at rows i)
  pub not_long_lem : length s ≤ 1048576
  pub few : (i < count) × (count ≤ 1048576)
