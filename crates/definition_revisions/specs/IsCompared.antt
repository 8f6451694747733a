-- WHAT A COMPARISON IS, said without a computation: equal records, the longest runs, one side's middle put back, items.
use Rattle.std.specs.Prelude.{ℕ, suc, ◌+◌, ◌-◌, ◌≤◌, ◌≡◌, List, [], ◌∷◌, ◌++◌, map, length, get_or, take, drop}
use Rattle.definition.specs.Chars.{part}
use Rattle.definition.specs.Records.{Record}
use Rattle.definition.specs.Words.{word}
use Rattle.definition_revisions.specs.Revisions.{Shape}

-- EQUAL RECORDS, said of the records and their texts: kinds, texts, parts, and conversions of fields
pub record SameRecord (t u : List ℕ) (r s : Record) : Type 0 where
  pub kinds : r.kind ≡ s.kind
  pub texts : part t r.offset (r.offset + r.size) ≡ part u s.offset (s.offset + s.size)
  pub parts_same : r.parts ≡ s.parts
  pub conversions : r.kind ≡ 2 → r.mode ≡ s.mode

-- THE LONGEST, said without a computation: the two begin with k that are the same, and with no more
pub record BeginAlike {A : Type 0} (as' bs : List A) (k : ℕ) : Type 0 where
  pub in_first : k ≤ length as'
  pub in_second : k ≤ length bs
  pub alike : take k as' ≡ take k bs

pub record EndAlike {A : Type 0} (as' bs : List A) (k : ℕ) : Type 0 where
  pub in_first : k ≤ length as'
  pub in_second : k ≤ length bs
  pub alike : drop (length as' - k) as' ≡ drop (length bs - k) bs

abbrev pub Longest : (ℕ → Type 0) → ℕ → Type 0
Longest P k = P k × ((n : ℕ) → P n → n ≤ k)

-- the longest equal run at the front, then the longest of what remains at the back
pub record IsCompared {A : Type 0} (as' bs : List A) (front back : ℕ) : Type 0 where
  pub at_front : Longest (BeginAlike as' bs) front
  pub at_back : Longest (EndAlike (drop front as') (drop front bs)) back

-- WHAT A CALL SAYS of two sides, by its numbers and its list: the longest runs, how many items there are, and the items between by their numbers
pub record Says (as' bs : List (List Shape)) (numbers list : List ℕ) : Type 0 where
  pub longest : IsCompared as' bs (word numbers 1) (word numbers 2)
  pub all_first : word numbers 3 ≡ length as'
  pub all_second : word numbers 4 ≡ length bs
  pub between_first : word numbers 1 + word numbers 5 + word numbers 2 ≡ length as'
  pub between_second : word numbers 1 + word numbers 6 + word numbers 2 ≡ length bs
  pub listed_first : map (λ i. get_or as' i []) (take (word numbers 5) list) ≡ take (word numbers 5) (drop (word numbers 1) as')
  pub listed_second : map (λ i. get_or bs i []) (take (word numbers 6) (drop (word numbers 5) list)) ≡ take (word numbers 6) (drop (word numbers 1) bs)

-- one side's items from the front on to the back, put in their place on the other side
unfoldable pub put_back : {A : Type 0} → List A → List A → (front back : ℕ) → List A
put_back from into f b = take f into ++ (take (length from - f - b) (drop f from) ++ drop (length into - b) into)

-- ITEMS, said without a count of what is owed: n of them one after the other, each a record with no parts, or a field with its spec and that one's parts
pub data AreItems : ℕ → List Shape → Type 0 where
  none : AreItems 0 []
  alone : (x : Shape) (n : ℕ) (xs : List Shape) → x.parts ≡ 0 → (x.kind ≡ 3 → ⊥) → AreItems n xs → AreItems (suc n) (x ∷ xs)
  field : (x y : Shape) (n : ℕ) (ps xs : List Shape) → x.kind ≡ 2 → x.parts ≡ 1 → y.kind ≡ 3 → AreItems y.parts ps → AreItems n xs
      → AreItems (suc n) (x ∷ y ∷ (ps ++ xs))

-- lists of shapes, each of them one item
pub data AllItems : List (List Shape) → Type 0 where
  none : AllItems []
  one : (i : List Shape) (is : List (List Shape)) → AreItems 1 i → AllItems is → AllItems (i ∷ is)

-- all of them, one after the other
unfoldable pub records_of : List (List Shape) → List Shape
records_of [] = []
records_of (i ∷ is) = i ++ records_of is
