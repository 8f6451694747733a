-- Characters, line and column go with the step, character by character, and stand still from the end on. Assumes nothing.
use mathlib.Core.Path.{◌≡◌, refl, sym, ◌∙◌}
use mathlib.Core.Bool.{◌||◌}
use mathlib.Core.List.{List, [], ◌∷◌, map}
use Prim.Native.Nat.{ℕ, zero, suc, pred, ◌+◌, ◌≤◌, ◌<◌}
use native.Mathlib.Omega.{arith}
use borrow.Author.Tests.{leb-true, leb-false, le-leb, lt-leb}
use lib.Dec.{leb}
use lib.ListN.{length}
use Rattle.definition.specs.Chars.{◌is◌, at_end, table37, following, follow, width, decoded, code, next}
use Rattle.definition.specs.Counts.{Count, nothing, more, count_from, counted}
use Rattle.definition.proofs.Moves.CharLaws.{cases, next_past, next_in}

abbrev numbers : Count → List ℕ
numbers k = k.chars ∷ k.line ∷ k.column ∷ []

-- computed: a, é (two bytes), a line end, b, at each place from 0 to past the end
pub counts_shown : map (λ n. numbers (counted (0x61 ∷ 0xC3 ∷ 0xA9 ∷ 10 ∷ 0x62 ∷ []) n)) (0 ∷ 1 ∷ 2 ∷ 3 ∷ 4 ∷ 5 ∷ 9 ∷ [])
    ≡ (0 ∷ 0 ∷ 0 ∷ [])
    ∷ (1 ∷ 0 ∷ 1 ∷ [])
    ∷ (2 ∷ 0 ∷ 2 ∷ [])
    ∷ (2 ∷ 0 ∷ 2 ∷ [])
    ∷ (3 ∷ 1 ∷ 0 ∷ [])
    ∷ (4 ∷ 1 ∷ 1 ∷ [])
    ∷ (4 ∷ 1 ∷ 1 ∷ [])
    ∷ []
unfolding table37 following follow width decoded code next more count_from counted
counts_shown = refl

-- ONE TURN: it ends at the place and at the end of the text, and else takes a character
count_past : (n : ℕ) (s : List ℕ) (i taken : ℕ) (k : Count) → taken ≤ i → count_from n s i taken k ≡ k
unfolding count_from
count_past zero s i taken k h = refl
count_past (suc n) s i taken k h = rw (le-leb taken i h, count_from)

count_end : (n : ℕ) (s : List ℕ) (i taken : ℕ) (k : Count) → length s ≤ i → count_from n s i taken k ≡ k
unfolding count_from
count_end zero s i taken k h = refl
count_end (suc n) s i taken k h = cases (leb taken i) (λ t. rw (t, count_from)) (λ t. rw (t, le-leb (length s) i h, count_from))

count_on : (n : ℕ) (s : List ℕ) (i taken : ℕ) (k : Count) → 0 < n → i < taken → i < length s → count_from n s i taken k ≡ count_from (pred n) s (next s i) taken (more (code s i) k)
unfolding count_from
count_on zero s i taken k f h l = absurd (omega arith)
count_on (suc n) s i taken k f h l = rw (lt-leb taken i h, lt-leb (length s) i l, count_from)

-- a character is one, in a line or its end
pub more_one : (c : ℕ) (k : Count) → ((more c k).chars ≡ k.chars + 1) × ((more c k).line + (more c k).column ≤ k.line + k.column + 1)
unfolding more
more_one c k = cases (c is "\n") (λ t. rw t (refl, omega arith)) (λ t. rw t (refl, omega arith))

-- the characters before i are counted, k of them, and the count goes on from there
pub record Counting (s : List ℕ) (taken i : ℕ) (k : Count) : Type 0 where
  pub fuel : ℕ
  pub enough : length s ≤ i + fuel
  pub within : i ≤ length s
  pub lines : k.line + k.column ≤ k.chars
  pub small : k.chars ≤ i
  pub same : counted s taken ≡ count_from fuel s i taken k

module _ (s : List ℕ) (taken : ℕ) where
  pub count_begins : Counting s taken 0 nothing
  unfolding counted
  count_begins = record { fuel = length s; enough = omega arith; within = omega arith; lines = omega arith; small = omega arith; same = refl }

  module _ (i : ℕ) (k : Count) (K : Counting s taken i k) where
    pub count_goes : i < taken → i < length s → Counting s taken (next s i) (more (code s i) k)
    count_goes h l =
        let p = next_past s i l in
        record {
          fuel = pred K.fuel;
          enough = omega (arith, K.enough);
          within = next_in s i K.within;
          lines = omega (arith, K.lines, more_one (code s i) k);
          small = omega (arith, K.small, more_one (code s i) k);
          same = K.same ∙ count_on K.fuel s i taken k (omega (arith, K.enough)) h l;
        }

    pub count_stops : taken ≤ i → counted s taken ≡ k
    count_stops h = K.same ∙ count_past K.fuel s i taken k h

    pub count_ends : length s ≤ i → counted s taken ≡ k
    count_ends h = K.same ∙ count_end K.fuel s i taken k h

-- no more lines and columns than characters, and no more of these than bytes
count_small : (n : ℕ) (s : List ℕ) (i taken : ℕ) (k : Count) → k.line + k.column ≤ k.chars
    → ((count_from n s i taken k).line + (count_from n s i taken k).column ≤ (count_from n s i taken k).chars) × ((count_from n s i taken k).chars ≤ k.chars + n)
unfolding count_from
count_small zero s i taken k h = (h, omega arith)
count_small (suc n) s i taken k h =
    cases (leb taken i || at_end s i) (λ t. rw (t, count_from) (h, omega arith))
    (λ t.
    let m = more_one (code s i) k in
    let r = count_small n s (next s i) taken (more (code s i) k) (omega arith) in
    rw (t, count_from) (r.0, omega arith))

pub counted_small : (s : List ℕ) (taken : ℕ) → ((counted s taken).line + (counted s taken).column ≤ (counted s taken).chars) × ((counted s taken).chars ≤ length s)
unfolding counted
counted_small s taken = let r = count_small (length s) s 0 taken nothing (omega arith) in (r.0, omega arith)

-- THE STEP COUNTS: a place that the step reaches
pub data Reached (s : List ℕ) : ℕ → Type 0 where
  start : Reached s 0
  step : {i : ℕ} → Reached s i → i < length s → Reached s (next s i)

pub counted_none : (s : List ℕ) → counted s 0 ≡ nothing
counted_none s = count_stops s 0 0 nothing (count_begins s 0) (omega arith)

-- a place's count goes on at the next one
count_next : (s : List ℕ) (i taken : ℕ) → ((t : ℕ) → i ≤ t → Counting s t i (counted s i)) → i < length s → next s i ≤ taken → Counting s taken (next s i) (counted s (next s i))
count_next s i taken f l h =
    let p = next_past s i l in
    rw (count_stops s (next s i) (next s i) _ (count_goes s (next s i) i _ (f (next s i) (omega arith)) p l) (omega arith))
    (count_goes s taken i _ (f taken (omega arith)) (omega arith) l)

reached_counts : (s : List ℕ) {i : ℕ} → Reached s i → (taken : ℕ) → i ≤ taken → Counting s taken i (counted s i)
reached_counts s start taken h = rw (counted_none s) (count_begins s taken)
reached_counts s (step {i} r l) taken h = count_next s i taken (λ t g. reached_counts s r t g) l h

-- at each place in the character and just after it
pub counted_step : (s : List ℕ) (i j : ℕ) → Reached s i → i < length s → i < j → j ≤ next s i → counted s j ≡ more (code s i) (counted s i)
counted_step s i j r l h g =
    count_stops s j (next s i) _ (count_goes s j i _ (reached_counts s r j (omega arith)) h l) g

-- one character more
pub step_chars : (s : List ℕ) (i : ℕ) → Reached s i → i < length s → (counted s (next s i)).chars ≡ (counted s i).chars + 1
step_chars s i r l = rw (counted_step s i (next s i) r l (next_past s i l) (omega arith)) (more_one (code s i) (counted s i)).0

-- PAST THE END
past_end : (n : ℕ) (s : List ℕ) (i taken : ℕ) (k : Count) → length s ≤ taken → count_from n s i taken k ≡ count_from n s i (length s) k
unfolding count_from
past_end zero s i taken k h = refl
past_end (suc n) s i taken k h =
    cases (at_end s i)
    (λ t. let e = leb-true (length s) i t in count_end (suc n) s i taken k e ∙ sym (count_end (suc n) s i (length s) k e))
    (λ t.
    let e = leb-false (length s) i t in
    count_on (suc n) s i taken k (omega arith) (omega arith) e
    ∙ past_end n s (next s i) taken (more (code s i) k) h
    ∙ sym (count_on (suc n) s i (length s) k (omega arith) e e))

pub counted_end : (s : List ℕ) (taken : ℕ) → length s ≤ taken → counted s taken ≡ counted s (length s)
unfolding counted
counted_end s taken h = past_end (length s) s 0 taken nothing h
