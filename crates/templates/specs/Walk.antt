-- The template's records as they lie in words, and what the walk over them finds.
use Rattle.std.specs.Prelude.{ℕ, zero, suc, ◌+◌, ◌-◌, ◌*◌, ◌/◌, ◌≤◌, ◌<◌, min, ◌≡◌, Bool, List, [], ◌∷◌, eqb, length, drop, if◌then◌else◌, ◌⊎◌, Option, Some, None, Result, Ok, Err}
use Rattle.definition.specs.Numbers.{outside_set}
use Rattle.definition.specs.Chars.{part}
use Rattle.definition.specs.Records.{Record}
use Rattle.definition.specs.Words.{word, owing, role_at}
use Rattle.definition_replay.specs.Replay.{Made, made, stopped, Part, stands, records_below, items_from, nested, texts_of, form_made, parts_from, field_count}
use Rattle.templates.specs.declared.Below.{Below}
use Rattle.templates.specs.declared.Place.{Place}
use Rattle.templates.specs.declared.Refused.{Refused}
use Rattle.formats.specs.declared.FormError.{FormError}
use Rattle.formats.specs.Parts.{number_of}

-- so many records lie in words
abbrev pub Sized : List ℕ → ℕ → Type 0
Sized words count = (count * 8 ≤ length words) × (count ≤ 0xFFFFFFFF)

-- how many records lie in words, at most so many
abbrev pub records_in : List ℕ → ℕ → ℕ
records_in words count = min count (length words / 8)

-- RECORDS FROM WORDS, whatever these hold: their texts lie behind each other from a place on, as far as the text goes
unfoldable pub laid_from : (count owed at size : ℕ) (words : List ℕ) → List Record
laid_from zero owed at size w = []
laid_from (suc n) owed at size w =
    record {
      role = role_at owed (word w 0);
      kind = word w 0;
      offset = at;
      size = min (at + word w 2) size - at;
      start = word w 3;
      end = word w 4;
      mode = word w 5;
      parts = word w 6;
      place = word w 7;
    }
    ∷ laid_from n (owing owed (word w 6)) (min (at + word w 2) size) size (drop 8 w)

-- THE PARTS of the template that lies in words and text
unfoldable pub parts_laid : (words : List ℕ) (count : ℕ) (text : List ℕ) → Made (List Part)
parts_laid words count text = parts_from text 0 (items_from 0 (laid_from (records_in words count) 0 0 (length text) words))

-- the words of records from number i on, as far as they are looked at; their texts from a place on
abbrev pub Lies : (words : List ℕ) (size i at : ℕ) → List Record → Type 0
Lies words size i at [] = Unit {0}
Lies words size i at (r ∷ rs) =
    (word words (i * 8) ≡ r.kind)
    × (min (at + word words (i * 8 + 2)) size ≡ at + r.size)
    × (word words (i * 8 + 5) ≡ r.mode)
    × (word words (i * 8 + 6) ≡ r.parts)
    × (r.offset ≡ at)
    × Lies words size (i + 1) (min (at + word words (i * 8 + 2)) size) rs

-- the records from number i on, their texts from a place on
pub record Stand (words : List ℕ) (count size i at : ℕ) (rs : List Record) : Type 0 where
  pub lies : Lies words size i at rs
  pub whole : i + length rs ≡ count

-- what was passed of records where so many are owed; texts begin at a place
pub record BelowIs (words : List ℕ) (count : ℕ) (text : List ℕ) (at owed : ℕ) (rs : List Record) (r : Below) : Type 0 where
  pub rest : List Record
  pub stand : Stand words count (length text) r.next r.to rest
  pub among : r.nested ≡ nested (records_below owed rs)
  pub texts : part text at r.to ≡ texts_of text (records_below owed rs)
  pub items : items_from 0 rest ≡ items_from owed rs

-- the first item of records
pub record PlaceIs (words : List ℕ) (count : ℕ) (text : List ℕ) (at : ℕ) (rs : List Record) (r : Place) : Type 0 where
  pub item : Record
  pub under : List Record
  pub rest : List Record
  pub items : items_from 0 rs ≡ (item, under) ∷ items_from 0 rest
  pub stand : Stand words count (length text) r.next r.to rest
  pub kind : r.kind ≡ item.kind
  pub mode : r.mode ≡ item.mode
  pub among : r.nested ≡ nested under
  pub own : part text at r.own ≡ part text item.offset (item.offset + item.size)
  pub spec : part text r.own r.to ≡ texts_of text under

-- the item at a record's number, whose text begins at a place: that of any records that stand there, or none past their ends
abbrev pub FoundIs : (words : List ℕ) (count : ℕ) (text : List ℕ) (i at : ℕ) → Option Place → Type 0
FoundIs words count text i at (Some r) =
    (i < count)
    × (at ≤ length text)
    × (((rs : List Record) → Stand words count (length text) i at rs → PlaceIs words count text at rs r)
    × (i < r.next)
    × (r.next ≤ count)
    × (at ≤ r.own)
    × (r.own ≤ r.to)
    × (r.to ≤ length text))
FoundIs words count text i at None = (count ≤ i) ⊎ (length text < at)

-- the part of an item, by what the walk finds
unfoldable pub field_part : (k kind mode : ℕ) (nested : Bool) (own spec : List ℕ) → Made Part
field_part k kind mode n own spec = if eqb kind 2 then (if n then stopped outside_set k else form_made k mode spec) else made (stands own)

-- the number of a refusal; 0 for none
unfoldable pub number_in : Made Part → ℕ
number_in (made p) = 0
number_in (stopped n k) = n

-- how many fields there are, after k
unfoldable pub fields_made : ℕ → Made (List Part) → Made ℕ
fields_made k (made ps) = made (k + field_count ps)
fields_made k (stopped n j) = stopped n j

-- what refuses an item, as a number; 0 for nothing
abbrev pub told_of_item : Result (Unit {0}) FormError → ℕ
told_of_item (Ok u) = 0
told_of_item (Err e) = number_of e

-- what the code says: a count, or a refusal and the field
abbrev pub says_count : Result ℕ Refused → Made ℕ
says_count (Ok k) = made k
says_count (Err r) = stopped (number_of r.why) r.field

-- the count, or the field
abbrev pub told_in : Result ℕ Refused → ℕ
told_in (Ok k) = k
told_in (Err r) = r.field
