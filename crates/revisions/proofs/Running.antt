-- Laws of the walks over items: the front, items that are counted and passed over, the back, and the list of both middles. Assumes nothing.
use mathlib.Core.Path.{◌≡◌, refl, sym, ◌∙◌, ap, ap₂}
use mathlib.Core.Bool.{true, false}
use mathlib.Core.List.{List, [], ◌∷◌, ◌++◌, reverse}
use Prim.Native.Nat.{ℕ, zero, suc, ◌+◌, ◌-◌, ◌≤◌, ◌<◌, min}
use native.Mathlib.Nat.{add-zero, zero-add}
use native.Mathlib.Numerals.{add-one}
use native.Mathlib.Omega.{arith}
use lib.ListN.{length, drop, length-drop, length-append, length-reverse}
use lib.Seq.{drop-drop, drop-nil}
use borrow.Author.Tests.{lt-ltb, le-ltb}
use Rattle.definition.specs.Reading.{zeros}
use Rattle.definition_revisions.specs.Revisions.{Shape, items_from, same_item, run, front, back, comparison, counting, middle, middles, compares, short, compare_roomed, middles_after, compare_called}
use Rattle.definition_revisions.proofs.Laws.Runs.{Items, run_yes, run_no, run_other, run_begins}
use Rattle.definition_revisions.proofs.Laws.Forward.{last_run, forward, forward_back}
use Rattle.definition_revisions.proofs.Laws.Told.{counting_length}
use Rattle.buffers.specs.Over.{over}
use Rattle.buffers.proofs.Over.{over_nil, over_append, over_front}
use Rattle.revisions.specs.declared.Front.{Front}
use Rattle.revisions.specs.declared.Comparison.{Comparison}
use Rattle.std.specs.Prelude.{Ok, Err}
use Rattle.revisions.specs.declared.Uncompared.TheVariants.{Short}
use Rattle.revisions.specs.Walks.{shapes_from, items_at, FrontIs}
use Rattle.revisions.specs.Answers.{comparison_of, Within, CallIs}

-- no record is left
pub items_none : (w text : List ℕ) (count i : ℕ) → count ≤ i → items_at w text count i ≡ []
unfolding items_from shapes_from
items_none w text count i h = let e : count - i ≡ 0 = omega arith in rw e refl

-- one item is passed
drop_next : {A : Type 0} (n : ℕ) (l : List A) (a : A) (rest : List A) → a ∷ rest ≡ drop n l → rest ≡ drop (n + 1) l
drop_next n l a rest e = ap (drop 1) e ∙ drop-drop 1 n l

-- THE FRONT: n equal items are passed on both sides
pub record Passed (A B as' bs : Items) (n : ℕ) : Type 0 where
  pub runs : run A B ≡ n + run as' bs
  pub first : as' ≡ drop n A
  pub second : bs ≡ drop n B

pub passed_none : (A B : Items) → Passed A B A B 0
passed_none A B = record { runs = sym (zero-add (run A B)); first = refl; second = refl }

module _ {A B as' bs : Items} {n : ℕ} (p : Passed A B as' bs n) where
  pub first_over : as' ≡ [] → n ≡ run A B
  unfolding run
  first_over e = sym (p.runs ∙ ap (λ l. n + run l bs) e ∙ add-zero n)

  pub second_over : bs ≡ [] → n ≡ run A B
  unfolding run
  second_over e = sym (p.runs ∙ ap (λ l. n + run as' l) e ∙ ap (λ k. n + k) (run_other as' []) ∙ add-zero n)

  module _ {a b : List Shape} {as'' bs' : Items} (e : as' ≡ a ∷ as'') (f : bs ≡ b ∷ bs') where
    pub passed_more : same_item a b ≡ true → Passed A B as'' bs' (n + 1)
    passed_more t =
        let r : run as' bs ≡ suc (run as'' bs') = ap₂ run e f ∙ run_yes a b as'' bs' t in
        let q = p.runs in
        record { runs = omega arith; first = drop_next n A a as'' (sym e ∙ p.first); second = drop_next n B b bs' (sym f ∙ p.second) }

    pub passed_stops : same_item a b ≡ false → n ≡ run A B
    passed_stops t = sym (p.runs ∙ ap (λ k. n + k) (ap₂ run e f ∙ run_no a b as'' bs' t) ∙ add-zero n)

-- what a front's walk knows
abbrev pub FrontInv : (w text : List ℕ) (count : ℕ) (v other : List ℕ) (total items i j : ℕ) → Type 0
FrontInv w text count v other total items i j =
    (items ≤ i) × (items ≤ j) × (i ≤ count) × (j ≤ total) × Passed (items_at w text count 0) (items_at v other total 0) (items_at w text count i) (items_at v other total j) items

pub front_done : {w text : List ℕ} {count : ℕ} {v other : List ℕ} {total : ℕ} (r : Front) → FrontInv w text count v other total r.items r.first r.second → r.items ≡ run (items_at w text count 0) (items_at v other total 0)
    → FrontIs w text count v other total r
front_done r h e = record { runs = e; few = h.0; also_few = h.1; within = h.2; also_within = h.3; first_after = h.4.first; second_after = h.4.second }

-- ITEMS COUNTED
pub counted_more : {as' as'' : Items} {a : List Shape} (l n : ℕ) → as' ≡ a ∷ as'' → l ≡ n + length as' → l ≡ n + 1 + length as''
counted_more {as'} {as''} {a} l n e h = let k = ap length e in omega arith

pub counted_all : {as' : Items} (l n : ℕ) → as' ≡ [] → l ≡ n + length as' → l ≡ n
counted_all {as'} l n e h = let k = ap length e in omega arith

-- ITEMS PASSED OVER
pub skip_more : {as' as'' : Items} {a : List Shape} (n k : ℕ) → k < n → as' ≡ a ∷ as'' → drop (n - k) as' ≡ drop (n - (k + 1)) as''
skip_more {as'} {as''} {a} n k h e = let f : n - k ≡ suc (n - (k + 1)) = omega arith in rw (e, f) refl

pub skip_over : {as' : Items} (n : ℕ) → as' ≡ [] → drop n as' ≡ as'
skip_over {as'} n e = rw e (drop-nil n)

pub skip_all : (as' : Items) (n k : ℕ) → n ≤ k → drop (n - k) as' ≡ as'
skip_all as' n k h = let f : n - k ≡ 0 = omega arith in rw f refl

-- THE BACK, counted forward
pub last_first : (n : ℕ) (as' bs : Items) → as' ≡ [] → last_run n as' bs ≡ n
unfolding last_run
last_first n as' bs e = rw e refl

pub last_second : (n : ℕ) (as' bs : Items) → bs ≡ [] → last_run n as' bs ≡ n
unfolding last_run
last_second n as' bs e = rw e (go as')
  where
    go : (l : Items) → last_run n l [] ≡ n
    go [] = refl
    go (a ∷ l) = refl

module _ (n : ℕ) (as' bs : Items) {a b : List Shape} {as'' bs' : Items} (e : as' ≡ a ∷ as'') (f : bs ≡ b ∷ bs') where
  pub last_same : same_item a b ≡ true → last_run n as' bs ≡ last_run (n + 1) as'' bs'
  unfolding last_run
  last_same t = rw (e, f, t, add-one) refl

  pub last_differs : same_item a b ≡ false → last_run n as' bs ≡ last_run 0 as'' bs'
  unfolding last_run
  last_differs t = rw (e, f, t) refl

-- the surplus of either side
pub surplus_first : (A A' B : Items) (m n : ℕ) → length A ≡ m → length B ≡ n → n ≤ m → A' ≡ drop (m - n) A → (length A' ≡ length B) × (run (reverse A') (reverse B) ≡ run (reverse A) (reverse B))
surplus_first A A' B m n e f h g =
    let l : length A' ≡ length B = omega (arith, ap length g, length-drop (m - n) A) in
    let p : length B - n ≡ 0 = omega arith in
    let q : length A - n ≡ m - n = omega arith in
    let r : run (reverse A) (reverse B) ≡ last_run 0 (drop (m - n) A) B = rw (p, q) at (forward_back A B n (omega arith)) in
    (l, forward A' B l ∙ ap (λ x. last_run 0 x B) g ∙ sym r)

pub surplus_second : (A B B' : Items) (m n : ℕ) → length A ≡ m → length B ≡ n → m ≤ n → B' ≡ drop (n - m) B → (length A ≡ length B') × (run (reverse A) (reverse B') ≡ run (reverse A) (reverse B))
surplus_second A B B' m n e f h g =
    let s = surplus_first B B' A n m f e h g in
    (sym s.0, run_other (reverse A) (reverse B') ∙ s.1 ∙ run_other (reverse B) (reverse A))

-- THE LIST
counting_last : (n k : ℕ) → counting n (suc k) ≡ counting n k ++ ((n + k) ∷ [])
unfolding counting
counting_last n zero = rw add-zero refl
counting_last n (suc k) = ap (λ l. n ∷ l) (counting_last (suc n) k ∙ ap (λ j. counting (suc n) k ++ (j ∷ [])) (more n k))
  where
    more : (n k : ℕ) → suc n + k ≡ n + suc k
    more n k = omega arith

pub put_none : (b : List ℕ) (at n : ℕ) → b ≡ over b at (counting n 0)
unfolding counting
put_none b at n = sym (over_nil b at)

pub put_next : (b : List ℕ) (at n k : ℕ) → over (over b at (counting n k)) (at + k) ((n + k) ∷ []) ≡ over b at (counting n (k + 1))
put_next b at n k =
    ap (λ j. over (over b at (counting n k)) (at + j) ((n + k) ∷ [])) (sym (counting_length n k))
    ∙ over_append b at (counting n k) ((n + k) ∷ [])
    ∙ ap (over b at) (sym (counting_last n k) ∙ ap (counting n) (sym (add-one k)))

module _ (list : List ℕ) (x : Comparison) where
  abbrev size : ℕ → ℕ
  size items = items - x.front - x.back

  sizes : length (middles (comparison_of x)) ≡ size x.first + size x.second
  unfolding middles middle
  sizes = let a = counting_length x.front (size x.first) in let b = counting_length x.front (size x.second) in omega (arith, length-append (counting x.front (size x.first)) (counting x.front (size x.second)))

  -- there is no room, and there is
  pub no_room : length list < size x.first + size x.second → {n : ℕ} {list' : List ℕ} → n ≡ min (size x.first + size x.second) 4294967295 → list' ≡ zeros list
      → CallIs (compare_called (compare_roomed (length list) (compares (comparison_of x))) list) list' (Err (Short n))
  unfolding compare_called compare_roomed middles_after
  no_room h e f =
      let t = lt-ltb (length list) (length (middles (comparison_of x))) (rw sizes h) in
      record { answer = rw t (ap short (e ∙ ap (λ k. min k 4294967295) (sym sizes))); left = rw t f }

  wrote : size x.first + size x.second ≤ length list
      → over (over list 0 (counting x.front (size x.first))) (size x.first) (counting x.front (size x.second)) ≡ middles (comparison_of x) ++ drop (length (middles (comparison_of x))) list
  unfolding middles middle
  wrote h =
      let xs = counting x.front (size x.first) in
      let ys = counting x.front (size x.second) in
      let l : 0 + length xs ≡ size x.first = omega (arith, counting_length x.front (size x.first)) in
      ap (λ k. over (over list 0 xs) k ys) (sym l) ∙ over_append list 0 xs ys ∙ over_front list (xs ++ ys) (omega (arith, sizes))

  pub with_room : size x.first + size x.second ≤ length list → {list' list'' : List ℕ}
      → list' ≡ over list 0 (counting x.front (size x.first)) → list'' ≡ over list' (size x.first) (counting x.front (size x.second))
      → CallIs (compare_called (compare_roomed (length list) (compares (comparison_of x))) list) list'' (Ok x)
  unfolding compare_called compare_roomed middles_after
  with_room h {list'} {list''} e f =
      let t = le-ltb (length list) (length (middles (comparison_of x))) (rw sizes h) in
      record { answer = rw t refl; left = rw t (f ∙ ap (λ l. over l (size x.first) (counting x.front (size x.second))) e ∙ wrote h) }

-- A COMPARISON from its front, the items after it on both sides, and how many of these end alike
abbrev pub made : (n more rest b : ℕ) → Comparison
made n more rest b = record { front = n; back = b; first = n + more; second = n + rest }

module _ (A B as' bs : Items) (n more rest b : ℕ) (e : n ≡ run A B) (f : as' ≡ drop n A) (g : bs ≡ drop n B) (l : length as' ≡ more) (m : length bs ≡ rest) (r : b ≡ run (reverse as') (reverse bs)) where
  pub in_both : Within (made n more rest b)
  in_both =
      let h = run_begins (reverse as') (reverse bs) in
      let p = h.in_first in
      let q = h.in_second in
      record { in_first = omega (arith, length-reverse as'); in_second = omega (arith, length-reverse bs) }

  pub compared_is : comparison A B ≡ comparison_of (made n more rest b)
  unfolding comparison front back
  compared_is =
      let h = run_begins A B in
      let p = h.in_first in
      let q = h.in_second in
      let x : length A ≡ n + more = omega (arith, ap length f, length-drop n A) in
      let y : length B ≡ n + rest = omega (arith, ap length g, length-drop n B) in
      let z : run (reverse (drop (run A B) A)) (reverse (drop (run A B) B)) ≡ b = rw (← e, ← f, ← g) (sym r) in
      λ i. record { front = sym e i; back = z i; first = x i; second = y i }
