-- Rows with those of their sources, as they are counted.
use Rattle.std.specs.Prelude.{ℕ, suc, ◌*◌, ◌≤◌, ◌≡◌, List, length, take, drop}
use Rattle.definition.specs.Escapes.{Naming}
use Rattle.definition.specs.Entry as d
use Rattle.definition_scripts.specs.Listing.{ListRow, refusals_in}
use Rattle.definition_scripts_laws.proofs.Cut.PartLaws.{InPart}
use Rattle.definition_scripts_laws.proofs.Listing.SourceLaws.{AllFit}
use Rattle.definition_scripts_laws.proofs.Listing.RowCount.{count_rows}
use Rattle.listing.specs.declared.count.Window.{Window}
use Rattle.told.specs.Rows.{rows_in}

-- these rows, and all rows of their sources
abbrev pub total : (look : Naming) → List ℕ → List ListRow → ℕ
total look s rs = count_rows look (suc (length s)) s rs

-- a literal of a part of a script that is not too long
pub record Found (s : List ℕ) (l : d.Literal) : Type 0 where
  pub from : ℕ
  pub end : ℕ
  pub within : end ≤ length s
  pub in_part : InPart s from end l
  pub not_long_lem : length s ≤ 1048576

-- 128 rows of a literal, or as many as there are, from a number on; and how many it has in all
pub record Seen (look : Naming) (s : List ℕ) (xs : List ListRow) (seen : ℕ) (r : Window) : Type 0 where
  pub all : r.all ≡ length xs
  pub counted : r.rows ≡ total look s (take 128 (drop seen xs))

-- so many rows of fields stand in a block, and their sources in the script
pub record Block (look : Naming) (s block : List ℕ) (n : ℕ) : Type 0 where
  pub room : n * 10 ≤ length block
  pub fields : refusals_in (rows_in block 0 n) ≡ 0
  pub fit : AllFit s (suc (length s)) (rows_in block 0 n)
  pub few : total look s (rows_in block 0 n) ≤ 1048576
  pub not_long_lem : length s ≤ 1048576
