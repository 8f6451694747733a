-- Records by their number in the words: their shapes, and the items from one on.
use Rattle.std.specs.Prelude.{ℕ, zero, suc, ◌+◌, ◌-◌, ◌≤◌, ◌<◌, ◌≡◌, List, [], ◌∷◌, eqb, length, drop, if◌then◌else◌}
use Rattle.definition.specs.Chars.{part}
use Rattle.definition_revisions.specs.Revisions.{Shape, items_from, run}
use Rattle.formed.specs.declared.Head.{Head}
use Rattle.formed.specs.Heads.{head_at}
use Rattle.revisions.specs.declared.Front.{Front}

-- a field's conversion; 0 of any other record
abbrev pub conversion_of : (kind mode : ℕ) → ℕ
conversion_of kind mode = if eqb kind 2 then mode else 0

-- what is compared of it
unfoldable pub shape_of_head : (text : List ℕ) → Head → Shape
shape_of_head text h = record { kind = h.kind; text = part text h.offset (h.offset + h.size); conversion = conversion_of h.kind h.mode; parts = h.parts }

abbrev pub shape_at : (words text : List ℕ) (i : ℕ) → Shape
shape_at w text i = shape_of_head text (head_at w i)

-- of n records, from number i on
unfoldable pub shapes_from : (words text : List ℕ) (i n : ℕ) → List Shape
shapes_from w text i zero = []
shapes_from w text i (suc n) = shape_at w text i ∷ shapes_from w text (suc i) n

-- the items of the records from i up to a count
abbrev pub items_at : (words text : List ℕ) (count i : ℕ) → List (List Shape)
items_at w text count i = items_from 0 (shapes_from w text i (count - i))

-- the item that begins at record i ends before record r
pub record EndsAt (words : List ℕ) (count i r : ℕ) : Type 0 where
  pub ahead : i < r
  pub within : r ≤ count
  pub first : (text : List ℕ) → items_at words text count i ≡ shapes_from words text i (r - i) ∷ items_at words text count r

-- so many items begin from record i on
pub record Counts (words : List ℕ) (count i r : ℕ) : Type 0 where
  pub few : i + r ≤ count
  pub counts : (text : List ℕ) → length (items_at words text count i) ≡ r

-- record r comes after so many items from record i on
pub record Skips (words : List ℕ) (count i items r : ℕ) : Type 0 where
  pub within : r ≤ count
  pub skips : (text : List ℕ) → items_at words text count r ≡ drop items (items_at words text count i)

-- the front of two sides, and the items after it
pub record FrontIs (words text : List ℕ) (count : ℕ) (others other : List ℕ) (total : ℕ) (r : Front) : Type 0 where
  pub runs : r.items ≡ run (items_at words text count 0) (items_at others other total 0)
  pub few : r.items ≤ r.first
  pub also_few : r.items ≤ r.second
  pub within : r.first ≤ count
  pub also_within : r.second ≤ total
  pub first_after : items_at words text count r.first ≡ drop r.items (items_at words text count 0)
  pub second_after : items_at others other total r.second ≡ drop r.items (items_at others other total 0)
