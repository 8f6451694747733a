-- WHAT A COMPARISON SAYS: the middles by number, an answer and itself, sides exchanged, one outcome, the list buffer. Assumes nothing.
use mathlib.Core.Path.{◌≡◌, refl, sym, ◌∙◌, ap}
use mathlib.Core.Bool.{true, false}
use mathlib.Core.List.{List, [], ◌∷◌, ◌++◌, map, append_assoc}
use Prim.Native.Nat.{ℕ, zero, suc, ◌+◌, ◌-◌, ◌≤◌, ◌<◌, min}
use native.Mathlib.Nat.{sub_self}
use native.Mathlib.Omega.{arith}
use lib.Dec.{ltb, lit≤}
use lib.ListN.{length, get_or, take, drop, length-append, length-drop}
use lib.Seq.{drop-cons, take-append_seam, drop-append_seam}
use borrow.Author.Tests.{ltb-true, ltb-false, le-ltb}
use Rattle.definition.specs.Numbers.{first_ill_formed, second_ill_formed}
use Rattle.definition.specs.Reading.{in_front}
use Rattle.definition.specs.Words.{word}
use Rattle.definition.specs.Left.{Left}
use Rattle.definition_formed.specs.Formed.{Lent, is_formed}
use Rattle.definition_revisions.specs.Revisions.{items_of, front, back, Comparison, comparison, counting, middle, middles, Comparing, compares, ill_formed, short, compared, compare_roomed, middles_after, compare_called, compare_into, compare_numbers}
use Rattle.definition_revisions.specs.IsCompared.{IsCompared, Says, put_back}
use Rattle.definition.proofs.Moves.CharLaws.{cases}
use Rattle.definition_laws.proofs.Outcomes.Leaving.{left_zeros, left_front}
use Rattle.definition_revisions.proofs.Laws.Runs.{Items, is_compared, begins_other, ends_other, run_other, back_other, put_back_lem, run_self, back_self}

-- the numbers of a middle
pub counting_length : (n k : ℕ) → length (counting n k) ≡ k
unfolding counting
counting_length n zero = refl
counting_length n (suc k) = ap suc (counting_length (suc n) k)

-- THE MIDDLE BY ITEM NUMBER: the items that its numbers say
pub counting_picks : {A : Type 0} (l : List A) (d : A) (n k : ℕ) → n + k ≤ length l → map (λ i. get_or l i d) (counting n k) ≡ take k (drop n l)
unfolding counting
counting_picks l d n zero h = refl
counting_picks l d n (suc k) h = rw (drop-cons l n d (omega arith)) (ap (λ t. get_or l n d ∷ t) (counting_picks l d (suc n) k (omega arith)))

module _ (as' bs : Items) where
  abbrev both_sides : Comparison
  both_sides = comparison as' bs

  -- front and back are each the longest
  pub is_longest : IsCompared as' bs (comparison as' bs).front (comparison as' bs).back
  unfolding comparison
  is_longest = is_compared as' bs

  pub middle_first : map (λ i. get_or as' i []) (middle (comparison as' bs) (length as')) ≡ take (length as' - front as' bs - back as' bs) (drop (front as' bs) as')
  unfolding comparison middle
  middle_first =
      let c = is_compared as' bs in
      let p = c.at_front.0.in_first in
      let q = c.at_back.0.in_first in
      counting_picks as' [] (front as' bs) (length as' - front as' bs - back as' bs) (omega (arith, length-drop (front as' bs) as'))

  pub middle_second : map (λ i. get_or bs i []) (middle (comparison as' bs) (length bs)) ≡ take (length bs - front as' bs - back as' bs) (drop (front as' bs) bs)
  unfolding comparison middle
  middle_second =
      let c = is_compared as' bs in
      let p = c.at_front.0.in_second in
      let q = c.at_back.0.in_second in
      counting_picks bs [] (front as' bs) (length bs - front as' bs - back as' bs) (omega (arith, length-drop (front as' bs) bs))

  -- ONE SIDE'S MIDDLE IN THE OTHER'S PLACE, both ways
  pub put_first : put_back as' bs (comparison as' bs).front (comparison as' bs).back ≡ as'
  unfolding comparison
  put_first = let c = is_compared as' bs in put_back_lem as' bs (front as' bs) (back as' bs) c.at_front.0 c.at_back.0

  pub put_second : put_back bs as' (comparison as' bs).front (comparison as' bs).back ≡ bs
  unfolding comparison
  put_second =
      let c = is_compared as' bs in
      let f = front as' bs in
      put_back_lem bs as' f (back as' bs) (begins_other as' bs f c.at_front.0) (ends_other (drop f as') (drop f bs) (back as' bs) c.at_back.0)

-- SIDES EXCHANGED: so are the items and the middles
unfoldable pub exchanged : Comparison → Comparison
exchanged c = record { front = c.front; back = c.back; first = c.second; second = c.first }

pub compares_other : (as' bs : Items) → comparison bs as' ≡ exchanged (comparison as' bs)
unfolding comparison exchanged front
compares_other as' bs = let e = run_other bs as' in let e' = back_other bs as' in λ i. record { front = e i; back = e' i; first = length bs; second = length as' }

pub middles_other : (c : Comparison) → middles (exchanged c) ≡ middle c c.second ++ middle c c.first
unfolding middles middle exchanged
middles_other c = refl

-- AN ANSWER AND ITSELF: nothing lies between
pub compares_self : (as' : Items) → middles (comparison as' as') ≡ []
unfolding comparison middles middle counting front
compares_self as' = rw (run_self as', back_self as', sub_self) refl

pub self_called : (x : Lent) (buffer : List ℕ) → is_formed x ≡ true → compare_into x x buffer ≡ record { outcome = compares (comparison (items_of x) (items_of x)); list = buffer }
unfolding compare_into compare_called compare_roomed compared middles_after
self_called x buffer h =
    rw (h, compares_self (items_of x), le-ltb (length buffer) 0 (omega arith), compares_self (items_of x)) refl

-- ROOM: 57 before 58 before 59, and 59 exactly if the list does not fit
pub data Told (x y : Lent) (buffer : List ℕ) : Comparing → Type 0 where
  ill_first : is_formed x ≡ false → Told x y buffer (ill_formed first_ill_formed)
  ill_second : is_formed x ≡ true → is_formed y ≡ false → Told x y buffer (ill_formed second_ill_formed)
  no_room : is_formed x ≡ true → is_formed y ≡ true → length buffer < length (middles (comparison (items_of x) (items_of y))) → Told x y buffer (short (min (length (middles (comparison (items_of x) (items_of y)))) 4294967295))
  all_well : is_formed x ≡ true → is_formed y ≡ true → length (middles (comparison (items_of x) (items_of y))) ≤ length buffer → Told x y buffer (compares (comparison (items_of x) (items_of y)))

pub compare_told : (x y : Lent) (buffer : List ℕ) → Told x y buffer (compare_into x y buffer).outcome
unfolding compare_into compare_called compare_roomed compared
compare_told x y buffer =
    cases (is_formed x)
    (λ e. cases (is_formed y)
    (λ f. let n = length (middles (comparison (items_of x) (items_of y))) in
    cases (ltb (length buffer) n)
    (λ g. rw (e, f, g) (no_room e f (ltb-true (length buffer) n g)))
    (λ g. rw (e, f, g) (all_well e f (ltb-false (length buffer) n g))))
    (λ f. rw (e, f) (ill_second e f)))
    (λ e. rw e (ill_first e))

-- ONE OUTCOME: calls that return the same numbers have one
abbrev SameNumbers : Comparing → Comparing → Type 0
SameNumbers o o' = (k : ℕ) → word (compare_numbers o) k ≡ word (compare_numbers o') k

module _ {x y x' y' : Lent} {b b' : List ℕ} where
  one_told : (o o' : Comparing) → Told x y b o → Told x' y' b' o' → SameNumbers o o' → o ≡ o'
  unfolding compare_numbers
  one_told o o' (ill_first e) (ill_first e') h = refl
  one_told o o' (ill_second e f) (ill_second e' f') h = refl
  one_told o o' (no_room e f g) (no_room e' f' g') h = ap short (h 9)
  one_told o o' (all_well e f g) (all_well e' f' g') h = λ i. compares (record { front = h 1 i; back = h 2 i; first = h 3 i; second = h 4 i })
  one_told o o' (ill_first e) (ill_second e' f') h = let z = h 0 in absurd (omega arith)
  one_told o o' (ill_first e) (no_room e' f' g') h = let z = h 0 in absurd (omega arith)
  one_told o o' (ill_first e) (all_well e' f' g') h = let z = h 0 in absurd (omega arith)
  one_told o o' (ill_second e f) (ill_first e') h = let z = h 0 in absurd (omega arith)
  one_told o o' (ill_second e f) (no_room e' f' g') h = let z = h 0 in absurd (omega arith)
  one_told o o' (ill_second e f) (all_well e' f' g') h = let z = h 0 in absurd (omega arith)
  one_told o o' (no_room e f g) (ill_first e') h = let z = h 0 in absurd (omega arith)
  one_told o o' (no_room e f g) (ill_second e' f') h = let z = h 0 in absurd (omega arith)
  one_told o o' (no_room e f g) (all_well e' f' g') h = let z = h 0 in absurd (omega arith)
  one_told o o' (all_well e f g) (ill_first e') h = let z = h 0 in absurd (omega arith)
  one_told o o' (all_well e f g) (ill_second e' f') h = let z = h 0 in absurd (omega arith)
  one_told o o' (all_well e f g) (no_room e' f' g') h = let z = h 0 in absurd (omega arith)

pub compare_one : (x y x' y' : Lent) (b b' : List ℕ)
    → ((k : ℕ) → word (compare_numbers (compare_into x y b).outcome) k ≡ word (compare_numbers (compare_into x' y' b').outcome) k)
    → (compare_into x y b).outcome ≡ (compare_into x' y' b').outcome
compare_one x y x' y' b b' h = one_told (compare_into x y b).outcome (compare_into x' y' b').outcome (compare_told x y b) (compare_told x' y' b') h

-- WHAT EVERY COMPARISON LEAVES IN THE LIST BUFFER: zeros after a refusal, and behind both middles what was there
middles_length : (c : Comparison) → length (middles c) ≡ length (middle c c.first) + length (middle c c.second)
unfolding middles
middles_length c = length-append (middle c c.first) (middle c c.second)

told_left : (x y : Lent) (buffer : List ℕ) (o : Comparing) → Told x y buffer o → let ns = compare_numbers o in Left (word ns 0) (word ns 5 + word ns 6) buffer (middles_after o buffer)
unfolding middles_after compare_numbers
told_left x y buffer o (ill_first e) = left_zeros 57 0 buffer (lit≤ tt)
told_left x y buffer o (ill_second e f) = left_zeros 58 0 buffer (lit≤ tt)
told_left x y buffer o (no_room e f g) = left_zeros 59 0 buffer (lit≤ tt)
told_left x y buffer o (all_well e f g) =
    let c = comparison (items_of x) (items_of y) in
    let n = length (middle c c.first) + length (middle c c.second) in
    let l = middles_length c in
    left_front n (middles c) buffer l (omega arith)

pub compare_left : (x y : Lent) (buffer : List ℕ) → let c = compare_into x y buffer in let ns = compare_numbers c.outcome in Left (word ns 0) (word ns 5 + word ns 6) buffer c.list
unfolding compare_into compare_called
compare_left x y buffer = told_left x y buffer (compare_roomed (length buffer) (compared x y)) (compare_told x y buffer)

-- EVERY COMPARISON SAYS WHAT IT IS, in the numbers and the list that a caller holds
module _ (as' bs : Items) (buffer : List ℕ) where
  abbrev c : Comparison
  c = comparison as' bs

  abbrev first : List ℕ
  first = middle c (length as')

  abbrev second : List ℕ
  second = middle c (length bs)

  abbrev whole : List ℕ
  whole = in_front (middles c) buffer

  abbrev rest : List ℕ
  rest = drop (length (middles c)) buffer

  first_long : length first ≡ length as' - front as' bs - back as' bs
  unfolding comparison middle
  first_long = counting_length (front as' bs) (length as' - front as' bs - back as' bs)

  second_long : length second ≡ length bs - front as' bs - back as' bs
  unfolding comparison middle
  second_long = counting_length (front as' bs) (length bs - front as' bs - back as' bs)

  holds_first : take (length first) whole ≡ first
  unfolding middles comparison
  holds_first = rw append_assoc (take-append_seam first (second ++ rest))

  holds_second : take (length second) (drop (length first) whole) ≡ second
  unfolding middles comparison
  holds_second = rw (append_assoc, drop-append_seam first (second ++ rest)) (take-append_seam second rest)

  says : Says as' bs (compare_numbers (compares c)) whole
  unfolding compare_numbers comparison
  says =
      let k = is_compared as' bs in
      let p = k.at_front.0.in_first in
      let q = k.at_front.0.in_second in
      let u = k.at_back.0.in_first in
      let v = k.at_back.0.in_second in
      let d = length-drop (front as' bs) as' in
      let e = length-drop (front as' bs) bs in
      let m = first_long in
      let n = second_long in
      record {
        longest = k;
        all_first = refl;
        all_second = refl;
        between_first = omega arith;
        between_second = omega arith;
        listed_first = ap (map (λ i. get_or as' i [])) holds_first ∙ middle_first as' bs ∙ ap (λ n. take n (drop (front as' bs) as')) (sym m);
        listed_second = ap (map (λ i. get_or bs i [])) holds_second ∙ middle_second as' bs ∙ ap (λ m. take m (drop (front as' bs) bs)) (sym n);
      }

module _ (x y : Lent) (buffer : List ℕ) where
  told_says : (o : Comparing) → Told x y buffer o → word (compare_numbers o) 0 ≡ 0 → Says (items_of x) (items_of y) (compare_numbers o) (middles_after o buffer)
  unfolding middles_after compare_numbers
  told_says o (ill_first e) h = absurd (omega arith)
  told_says o (ill_second e f) h = absurd (omega arith)
  told_says o (no_room e f g) h = absurd (omega arith)
  told_says o (all_well e f g) h = says (items_of x) (items_of y) buffer

  pub compare_says : let c = compare_into x y buffer in word (compare_numbers c.outcome) 0 ≡ 0 → Says (items_of x) (items_of y) (compare_numbers c.outcome) c.list
  unfolding compare_into compare_called
  compare_says = told_says (compare_roomed (length buffer) (compared x y)) (compare_told x y buffer)

-- SIDES EXCHANGED, of two that are lent
pub called_other : (x y : Lent) → is_formed x ≡ true → is_formed y ≡ true → (compared x y ≡ compares (comparison (items_of x) (items_of y))) × (compared y x ≡ compares (exchanged (comparison (items_of x) (items_of y))))
unfolding compared
called_other x y h k = (rw (h, k) refl, rw (h, k) (ap compares (compares_other (items_of x) (items_of y))))
