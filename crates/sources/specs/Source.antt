-- A field's source, and where Python reads it otherwise, as the code finds it.
use Rattle.std.specs.Prelude.{ℕ, ◌+◌, ◌≤◌, Bool, ◌||◌, List, ltb, length, take, if◌then◌else◌}
use Rattle.definition_scripts.specs.Opening.{first_at}
use Rattle.definition_scripts.specs.Cut.{Cut, cut_from, cut_part}
use Rattle.definition_scripts.specs.Listing.{reached, source_end, first_odd, otherwise}
use Rattle.definition.specs.Body.{Signs}
use Rattle.definition.specs.Rows.{Row}
use Rattle.found.specs.declared.Literal.{Literal}
use Rattle.sources.specs.declared.Field.{Field}

-- the first place from i up to j whose byte passes a test, or j
abbrev pub capped : (ℕ → Bool) → List ℕ → (i j : ℕ) → ℕ
capped test s i j = if ltb (first_at test s i) j then first_at test s i else j

-- a literal lies in the script, and has a last byte
pub record Inside (s : List ℕ) (l : Literal) : Type 0 where
  pub body_in : l.offset + l.size ≤ length s
  pub end_in : l.end ≤ length s
  pub ahead : 1 ≤ l.end

-- of a cut up to an end, from a place on
abbrev pub odd_from : List ℕ → (at end : ℕ) → Cut → ℕ
odd_from s at end c = first_odd s at (reached end c.ending) c.literals

abbrev pub odd_of : List ℕ → (at end : ℕ) → ℕ
odd_of s at end = odd_from s at end (cut_from (take end s) at)

-- a field's signs and row; what 75 does not look at is 0
abbrev pub signs_of : Field → Signs
signs_of f = record { equals = f.equals; bang = f.bang; colon = f.colon; close = f.close }

abbrev pub row_of : Field → Row
row_of f = record { start = f.start; place = f.place; expression = 0; conversion = 0; signs = signs_of f }

-- a field's source lies in a script that is not too long
pub record Source (s : List ℕ) (f : Field) : Type 0 where
  pub ahead : f.place ≤ source_end (signs_of f)
  pub within : source_end (signs_of f) ≤ length s
  pub not_long_lem : length s ≤ 1048576

-- it does not
abbrev pub is_outside : List ℕ → Field → Bool
is_outside s f = ltb (source_end (signs_of f)) f.place || ltb (length s) (source_end (signs_of f)) || ltb 1048576 (length s)

-- the first place where Python reads the field's source or spec otherwise; else the script's length
unfoldable pub otherwise_of : List ℕ → Field → ℕ
otherwise_of s f = if is_outside s f then length s else otherwise s (row_of f) (cut_part s f.place (source_end (signs_of f)))
