-- Two revisions of a script line: the top-level items of two answers compared, front and back (document 02, item 8). Nothing of the reading uses it.
use Rattle.std.specs.Prelude.{ℕ, zero, suc, ◌+◌, ◌-◌, min, Bool, true, false, ◌&&◌, List, [], ◌∷◌, ◌++◌, map, reverse, ltb, eqb, length, drop, if◌then◌else◌}
use Rattle.definition.specs.Numbers.{first_ill_formed, second_ill_formed, too_little_middle_room}
use Rattle.definition.specs.Chars.{part, same}
use Rattle.definition.specs.Records.{Record}
use Rattle.definition.specs.Reading.{in_front, zeros}
use Rattle.definition.specs.Words.{owing}
use Rattle.definition_formed.specs.Formed.{Lent, lent_answer, is_formed}

-- WHAT IS COMPARED OF A RECORD: kind, text, a field's conversion, parts
pub record Shape : Type 0 where
  pub kind : ℕ
  pub text : List ℕ
  pub conversion : ℕ
  pub parts : ℕ

unfoldable pub shape_of : (text : List ℕ) → Record → Shape
shape_of text r =
    record { kind = r.kind; text = part text r.offset (r.offset + r.size); conversion = if eqb r.kind 2 then r.mode else 0; parts = r.parts }

-- A TOP-LEVEL ITEM: a literal or bytes record, or a field with its spec and parts. A record in front of the first item
unfoldable pub onto : Shape → List (List Shape) → List (List Shape)
onto x [] = (x ∷ []) ∷ []
onto x (i ∷ is) = (x ∷ i) ∷ is

-- an item ends after each record at which nothing is owed
unfoldable pub items_from : (owed : ℕ) → List Shape → List (List Shape)
items_from owed [] = []
items_from owed (x ∷ xs) = elim (owing owed x.parts) [ zero ↦ (x ∷ []) ∷ items_from 0 xs | suc n ↦ onto x (items_from (suc n) xs) ]

unfoldable pub items_of : Lent → List (List Shape)
items_of x = items_from 0 (map (shape_of (lent_answer x).text) (lent_answer x).records)

-- EQUAL ITEMS: kinds, texts, conversions and parts are
unfoldable pub same_shape : Shape → Shape → Bool
same_shape x y = eqb x.kind y.kind && same x.text y.text && eqb x.conversion y.conversion && eqb x.parts y.parts

unfoldable pub same_item : List Shape → List Shape → Bool
same_item [] [] = true
same_item [] (y ∷ ys) = false
same_item (x ∷ xs) [] = false
same_item (x ∷ xs) (y ∷ ys) = same_shape x y && same_item xs ys

-- how many items two lists begin with that are equal
unfoldable pub run : List (List Shape) → List (List Shape) → ℕ
run [] bs = 0
run (a ∷ as') [] = 0
run (a ∷ as') (b ∷ bs) = elim (same_item a b) [ true ↦ suc (run as' bs) | false ↦ 0 ]

-- THE FRONT, and of what remains the back
unfoldable pub front : List (List Shape) → List (List Shape) → ℕ
front as' bs = run as' bs

unfoldable pub back : List (List Shape) → List (List Shape) → ℕ
back as' bs = run (reverse (drop (front as' bs) as')) (reverse (drop (front as' bs) bs))

-- A COMPARISON: how many items are equal at the front, and at the back; how many each side has
pub record Comparison : Type 0 where
  pub front : ℕ
  pub back : ℕ
  pub first : ℕ
  pub second : ℕ

unfoldable pub comparison : List (List Shape) → List (List Shape) → Comparison
comparison as' bs = record { front = front as' bs; back = back as' bs; first = length as'; second = length bs }

-- so many numbers, from n on
unfoldable pub counting : (n count : ℕ) → List ℕ
counting n zero = []
counting n (suc k) = n ∷ counting (suc n) k

-- THE MIDDLE of a side of so many items, by item number from 0
unfoldable pub middle : Comparison → (items : ℕ) → List ℕ
middle c items = counting c.front (items - c.front - c.back)

-- the first's, then the second's
unfoldable pub middles : Comparison → List ℕ
middles c = middle c c.first ++ middle c c.second

-- A comparing: a comparison, the number of the answer that is not well formed, or how many numbers the list needs that a buffer does not hold
pub data Comparing : Type 0 where
  compares : (comparison : Comparison) → Comparing
  ill_formed : (number : ℕ) → Comparing
  short : (needed : ℕ) → Comparing

-- with room for any list
unfoldable pub compared : Lent → Lent → Comparing
compared x y =
    if is_formed x then (if is_formed y then compares (comparison (items_of x) (items_of y)) else ill_formed second_ill_formed) else ill_formed first_ill_formed

-- in a buffer of so many numbers; a number that is returned is at most 4294967295
unfoldable pub compare_roomed : (room : ℕ) → Comparing → Comparing
compare_roomed room (ill_formed n) = ill_formed n
compare_roomed room (short n) = short n
compare_roomed room (compares c) = let needed = length (middles c) in if ltb room needed then short (min needed 4294967295) else compares c

-- what the list buffer holds afterwards
unfoldable pub middles_after : Comparing → List ℕ → List ℕ
middles_after (ill_formed n) buffer = zeros buffer
middles_after (short n) buffer = zeros buffer
middles_after (compares c) buffer = in_front (middles c) buffer

-- WHAT A CALL RETURNS AND LEAVES
pub record CompareCall : Type 0 where
  pub outcome : Comparing
  pub list : List ℕ

unfoldable pub compare_called : Comparing → List ℕ → CompareCall
compare_called o buffer = record { outcome = o; list = middles_after o buffer }

unfoldable pub compare_into : Lent → Lent → List ℕ → CompareCall
compare_into x y buffer = compare_called (compare_roomed (length buffer) (compared x y)) buffer

-- its numbers: 0 first for a comparison; front, back, items of each side, of each middle; with 59 at 9 how many are needed
unfoldable pub compare_numbers : Comparing → List ℕ
compare_numbers (compares c) =
    0 ∷ c.front ∷ c.back ∷ c.first ∷ c.second ∷ length (middle c c.first) ∷ length (middle c c.second) ∷ []
compare_numbers (ill_formed n) = n ∷ []
compare_numbers (short n) = too_little_middle_room ∷ 0 ∷ 0 ∷ 0 ∷ 0 ∷ 0 ∷ 0 ∷ 0 ∷ 0 ∷ n ∷ []
