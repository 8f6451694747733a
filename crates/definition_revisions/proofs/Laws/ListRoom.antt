-- ROOM KNOWN BEFOREHAND: as many places as both sides have records are enough for any list. Assumes nothing.
use mathlib.Core.Path.{◌≡◌, refl, ap}
use mathlib.Core.List.{List, [], ◌∷◌, map}
use Prim.Native.Nat.{ℕ, zero, suc, ◌+◌, ◌-◌, ◌≤◌}
use native.Mathlib.Omega.{arith}
use lib.ListN.{length, length-append}
use Rattle.definition.specs.Words.{word, owing, records_from, answer_from, held_from}
use Rattle.definition_formed.specs.Formed.{Lent, unplaced, lent_answer}
use Rattle.definition_revisions.specs.Revisions.{Shape, shape_of, onto, items_from, items_of, comparison, middle, middles, Comparing, short, compare_into}
use Rattle.definition_revisions.proofs.Laws.Runs.{Items}
use Rattle.definition_revisions.proofs.Laws.Told.{counting_length, Told, compare_told}
use Rattle.definition_revisions.proofs.Laws.Told as t

map_length : {A B : Type 0} (f : A → B) (l : List A) → length (map f l) ≡ length l
map_length f [] = refl
map_length f (x ∷ l) = ap suc (map_length f l)

records_length : (n owed : ℕ) (w : List ℕ) → length (records_from n owed w) ≡ n
unfolding records_from
records_length zero owed w = refl
records_length (suc n) owed w = ap suc (records_length n _ _)

-- an item has a record or more
onto_length : (x : Shape) (is : Items) → length (onto x is) ≤ suc (length is)
unfolding onto
onto_length x [] = omega arith
onto_length x (i ∷ is) = omega arith

items_few : (owed : ℕ) (xs : List Shape) → length (items_from owed xs) ≤ length xs
unfolding items_from
items_few owed [] = omega arith
items_few owed (x ∷ xs) = go (λ n. items_few n xs) (owing owed x.parts) refl
  where
    go : ((n : ℕ) → length (items_from n xs) ≤ length xs) → (n : ℕ) → owing owed x.parts ≡ n → length (items_from owed (x ∷ xs)) ≤ suc (length xs)
    go ih zero e = rw (e, items_from) (let h = ih 0 in omega arith)
    go ih (suc n) e = rw (e, items_from) (let h = ih (suc n) in omega (arith, onto_length x (items_from (suc n) xs)))

lent_few : (x : Lent) → length (items_of x) ≤ word x.numbers 5
unfolding items_of lent_answer held_from answer_from
lent_few x =
    let rs = records_from (word x.numbers 5) 0 x.words in
    omega (arith, items_few 0 (map (shape_of (lent_answer x).text) (lent_answer x).records), map_length (shape_of (lent_answer x).text) (map unplaced rs), map_length unplaced rs, records_length (word x.numbers 5) 0 x.words)

middles_few : (as' bs : Items) → length (middles (comparison as' bs)) ≤ length as' + length bs
unfolding middles middle comparison
middles_few as' bs =
    let c = comparison as' bs in
    omega (arith, length-append (middle c (length as')) (middle c (length bs)), counting_length c.front (length as' - c.front - c.back), counting_length c.front (length bs - c.front - c.back))

no_short : (x y : Lent) (buffer : List ℕ) → word x.numbers 5 + word y.numbers 5 ≤ length buffer → (o : Comparing) → Told x y buffer o → (n : ℕ) → o ≡ short n → ⊥
no_short x y buffer h o (t.ill_first a) n e = let z : ◌≡◌ {A = ℕ} 0 1 = cc in omega arith
no_short x y buffer h o (t.ill_second a b) n e = let z : ◌≡◌ {A = ℕ} 0 1 = cc in omega arith
no_short x y buffer h o (t.no_room a b c) n e = omega (arith, lent_few x, lent_few y, middles_few (items_of x) (items_of y))
no_short x y buffer h o (t.all_well a b c) n e = let z : ◌≡◌ {A = ℕ} 0 1 = cc in omega arith

-- 59 IS NEVER GIVEN THEN
pub room_enough : (x y : Lent) (buffer : List ℕ) → word x.numbers 5 + word y.numbers 5 ≤ length buffer → (n : ℕ) → (compare_into x y buffer).outcome ≡ short n → ⊥
room_enough x y buffer h n e = no_short x y buffer h (compare_into x y buffer).outcome (compare_told x y buffer) n e
