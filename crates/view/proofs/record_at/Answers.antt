use borrow.Author.Tests.{lt-ltb, le-ltb, le-leb, lt-leb}
use mathlib.Core.Path.{◌≡◌, sym, ap}
use mathlib.Core.List.{List, [], ◌∷◌}
use mathlib.Core.Option.{none, some}
use Prim.Native.Nat.{ℕ, suc, ◌+◌, ◌*◌, ◌≤◌, ◌<◌}
use native.Mathlib.Nat.{add-sub_cancel_left}
use native.Mathlib.Omega.{arith}
use lib.ListN.{length, take, drop, get_or}
use lib.Seq.{drop-cons}
use Rattle.definition.specs.View.{viewed}
use Rattle.view.proofs.record_at.Goals as goal

-- the eight elements from i on, one by one
abbrev eight_at : List ℕ → ℕ → List ℕ
eight_at l i = get_or l i 0 ∷ get_or l (i + 1) 0 ∷ get_or l (i + 2) 0 ∷ get_or l (i + 3) 0 ∷ get_or l (i + 4) 0 ∷ get_or l (i + 5) 0 ∷ get_or l (i + 6) 0 ∷ get_or l (i + 7) 0 ∷ []

drop_one : (l : List ℕ) (i j : ℕ) → j ≡ suc i → j ≤ length l → drop i l ≡ get_or l i 0 ∷ drop j l
drop_one l i j e h = rw e (drop-cons l i 0 (omega arith))

eight : (l : List ℕ) (i : ℕ) → i + 8 ≤ length l → take 8 (drop i l) ≡ eight_at l i
eight l i h =
    rw (drop_one l i (i + 1) (omega arith) (omega arith), drop_one l (i + 1) (i + 2) (omega arith) (omega arith), drop_one l (i + 2) (i + 3) (omega arith) (omega arith), drop_one l (i + 3) (i + 4) (omega arith) (omega arith), drop_one l (i + 4) (i + 5) (omega arith) (omega arith), drop_one l (i + 5) (i + 6) (omega arith) (omega arith), drop_one l (i + 6) (i + 7) (omega arith) (omega arith), drop_one l (i + 7) (i + 8) (omega arith) (omega arith))

-- the three cases
past_count : (words : List ℕ) (count n : ℕ) → count ≤ n → none ≡ viewed words count n
unfolding viewed
past_count words count n h = rw (le-leb count n h)

past_words : (words : List ℕ) (count n : ℕ) → n < count → length words < n * 8 + 8 → none ≡ viewed words count n
unfolding viewed
past_words words count n h k = rw (lt-leb count n h, lt-ltb (length words) (n * 8 + 8) k)

found : (words : List ℕ) (count n at : ℕ) → n < count → n * 8 + 8 ≤ length words → at ≡ n * 8 → some (eight_at words at) ≡ viewed words count n
unfolding viewed
found words count n at h k e = rw (lt-leb count n h, le-ltb (length words) (n * 8 + 8) k, add-sub_cancel_left, e) (ap some (sym (eight words (n * 8) k)))

pub returns-then-count-number : goal.returns-then-count-number
returns-then-count-number c = past_count _ _ _ (omega (arith, c.if-count-number.true))

pub returns-then-words-past : goal.returns-then-words-past
returns-then-words-past c = past_words _ _ _ (omega (arith, c.if-count-number.false)) (omega (arith, c.if-words-past.true))

pub returns : goal.returns
returns c = found _ _ _ _ (omega (arith, c.if-count-number.false)) (omega (arith, c.if-words-past.false)) (omega arith)
