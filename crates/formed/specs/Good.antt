-- Records that are good, in one pass: as the record rules say, each over its text.
use Rattle.std.specs.Prelude.{ℕ, ◌+◌, ◌-◌, ◌*◌, Bool, ◌&&◌, ◌||◌, not, List, [], ◌∷◌, map, eqb, length, drop}
use Rattle.std.specs.Bool.{beq}
use Rattle.definition.specs.Chars.{part}
use Rattle.definition.specs.Records.{Record}
use Rattle.definition.specs.Words.{owing, records_from, fits, has_spec}
use Rattle.definition_formed.specs.Formed.{unplaced, is_utf8}
use Rattle.formed.specs.declared.Head.{Head}

-- the records from number i up to a count, where so much is owed before the first, places aside
abbrev pub records_at : (words : List ℕ) (count i owed : ℕ) → List Record
records_at w count i owed = map unplaced (records_from (count - i) owed (drop (i * 8) w))

-- a record of a kind may stand where a spec is due or not and so much is owed
abbrev pub follows_in : (due : Bool) (owed kind : ℕ) → Bool
follows_in due owed kind = beq (eqb kind 3) due && (not (eqb kind 4) || eqb owed 0)

-- a record is good where a spec is due or not, so much is owed and the text was reached
unfoldable pub good_head : (text : List ℕ) (due : Bool) (owed at : ℕ) → Head → Bool
good_head text due owed at h =
    fits h.kind h.size h.mode h.parts 0
    && follows_in due owed h.kind
    && eqb h.offset at
    && (eqb h.kind 4 || is_utf8 (part text h.offset (h.offset + h.size)))

abbrev pub head_of : Record → Head
head_of r = record { kind = r.kind; offset = r.offset; size = r.size; mode = r.mode; parts = r.parts }

-- all of them, up to the text's end
unfoldable pub good_from : (text : List ℕ) (due : Bool) (owed at : ℕ) → List Record → Bool
good_from text due owed at [] = eqb owed 0 && eqb at (length text)
good_from text due owed at (r ∷ rs) =
    good_head text due owed at (head_of r) && good_from text (has_spec r.kind r.parts) (owing owed r.parts) (at + r.size) rs
