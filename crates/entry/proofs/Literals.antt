-- The literals of flat numbers, one by one: a loop over their indexes goes through the list. Assumes nothing.
use mathlib.Core.Path.{◌≡◌, refl, ap}
use mathlib.Core.Bool.{Bool, true, false}
use mathlib.Core.List.{List, [], ◌∷◌}
use mathlib.Core.Option.{Option, none, some}
use Prim.Native.Nat.{ℕ, zero, suc, ◌+◌, ◌-◌, ◌*◌, ◌%◌, ◌≤◌, ◌<◌}
use native.Mathlib.Nat.{add-zero, add-suc, suc-add, suc-mul}
use native.Mathlib.Numerals.{add-one, add_six}
use native.Mathlib.Omega.{arith}
use lib.ListN.{length, take}
use Rattle.definition.specs.Entry.{Literal, sixes, one_more, body, Refusal, first_bad, total, any_of, first_start}
use Rattle.definition.specs.Counts.{counted}
use Rattle.definition.specs.Reading.{all_chars, last_end}
use Rattle.definition_laws.proofs.Moves.Moves.{part_short}
use Rattle.definition_laws.proofs.Moves.Counted.{counted_small}
use Rattle.entry.specs.Literals.{literal_at, literals}

-- the end before literal i
unfoldable pub end_before : List ℕ → ℕ → ℕ
end_before ns zero = 0
end_before ns (suc i) = (literal_at ns i).end

module _ (ns : List ℕ) (n : ℕ) where
  -- from the end on none is left; before it, one and those after it
  pub none_left : (i : ℕ) → n ≤ i → literals ns i (n - i) ≡ []
  unfolding literals
  none_left i h = let e : n - i ≡ 0 = omega arith in rw e

  pub one_left : (i : ℕ) → i < n → literals ns i (n - i) ≡ literal_at ns i ∷ literals ns (i + 1) (n - (i + 1))
  unfolding literals
  one_left i h = let e : n - i ≡ suc (n - (i + 1)) = omega arith in rw (e, add-one i)

  -- the first bad literal from i on
  module _ (test : ℕ → Literal → Bool) (why : ℕ → Literal → Refusal) where
    abbrev pub bad_from : ℕ → Option Refusal
    bad_from i = first_bad test why (end_before ns i) i (literals ns i (n - i))

    pub bad_turn : (i : ℕ) → i < n → test (end_before ns i) (literal_at ns i) ≡ false → bad_from i ≡ bad_from (i + 1)
    unfolding first_bad end_before
    bad_turn i h t = rw (one_left i h, t, first_bad, add-one i)

    pub bad_found : (i : ℕ) → i < n → test (end_before ns i) (literal_at ns i) ≡ true → bad_from i ≡ some (why i (literal_at ns i))
    unfolding first_bad
    bad_found i h t = rw (one_left i h, t, first_bad)

    pub bad_none : (i : ℕ) → n ≤ i → bad_from i ≡ none
    unfolding first_bad
    bad_none i h = rw (none_left i h)

  -- the bodies' length from i on
  pub total_turn : (i : ℕ) → i < n → total (literals ns i (n - i)) ≡ (literal_at ns i).size + total (literals ns (i + 1) (n - (i + 1)))
  unfolding total
  total_turn i h = rw (one_left i h)

  -- the characters from i on
  module _ (script : List ℕ) where
    pub chars_turn : (i : ℕ) → i < n → let s = body script (literal_at ns i) in all_chars script (literals ns i (n - i)) ≡ (counted s (length s)).chars + all_chars script (literals ns (i + 1) (n - (i + 1)))
    unfolding all_chars
    chars_turn i h = rw (one_left i h)

    pub chars_none : (i : ℕ) → n ≤ i → all_chars script (literals ns i (n - i)) ≡ 0
    unfolding all_chars
    chars_none i h = rw (none_left i h)

  -- any literal from i on
  module _ (test : ℕ → Bool) where
    pub any_turn : (i : ℕ) → i < n → test (literal_at ns i).kind ≡ false → any_of test (literals ns i (n - i)) ≡ any_of test (literals ns (i + 1) (n - (i + 1)))
    unfolding any_of
    any_turn i h t = rw (one_left i h, t)

    pub any_found : (i : ℕ) → i < n → test (literal_at ns i).kind ≡ true → any_of test (literals ns i (n - i)) ≡ true
    unfolding any_of
    any_found i h t = rw (one_left i h, t)

    pub any_none : (i : ℕ) → n ≤ i → any_of test (literals ns i (n - i)) ≡ false
    unfolding any_of
    any_none i h = rw (none_left i h)

-- the first one, and where the last one ends
pub first_is : (ns : List ℕ) (n : ℕ) → 0 < n → literals ns 0 n ≡ literal_at ns 0 ∷ literals ns 1 (n - 1)
unfolding literals
first_is ns zero h = absurd (omega arith)
first_is ns (suc n) h = let e : suc n - 1 ≡ n = omega arith in rw e

-- n more after one from i on
ends : (ns : List ℕ) (end i n : ℕ) → last_end end (literals ns i (suc n)) ≡ (literal_at ns (i + n)).end
unfolding literals last_end
ends ns end i zero = rw add-zero
ends ns end i (suc n) = rw (add-suc i n, ← suc-add i n) (ends ns (literal_at ns i).end (suc i) n)

pub last_end_lem : (ns : List ℕ) (n : ℕ) → 0 < n → last_end 0 (literals ns 0 n) ≡ (literal_at ns (n - 1)).end
last_end_lem ns zero h = absurd (omega arith)
last_end_lem ns (suc n) h = let e : suc n - 1 ≡ 0 + n = omega arith in rw e (ends ns 0 0 n)

-- there are n of n
pub length_literals : (ns : List ℕ) (i n : ℕ) → length (literals ns i n) ≡ n
unfolding literals
length_literals ns i zero = refl
length_literals ns i (suc n) = ap suc (length_literals ns (suc i) n)

-- the first k of them
pub take_literals : (ns : List ℕ) (i k n : ℕ) → k ≤ n → take k (literals ns i n) ≡ literals ns i k
unfolding literals
take_literals ns i zero n h = refl
take_literals ns i (suc k) zero h = absurd (omega arith)
take_literals ns i (suc k) (suc n) h = ap (λ ls. literal_at ns i ∷ ls) (take_literals ns (suc i) k n (omega arith))

pub total_first : (ns : List ℕ) (i k n : ℕ) → k ≤ n → total (literals ns i k) ≤ total (literals ns i n)
unfolding literals total
total_first ns i zero n h = omega arith
total_first ns i (suc k) zero h = absurd (omega arith)
total_first ns i (suc k) (suc n) h = omega (arith, total_first ns (suc i) k n (omega arith))

-- six numbers more in front
module _ (a b c d e f : ℕ) (ns : List ℕ) where
  abbrev more : List ℕ
  more = a ∷ b ∷ c ∷ d ∷ e ∷ f ∷ ns

  at_more : (i : ℕ) → literal_at more (suc i) ≡ literal_at ns i
  unfolding literal_at
  at_more i = simp (suc-mul, add_six, suc-add)

  literals_more : (i n : ℕ) → literals more (suc i) n ≡ literals ns i n
  unfolding literals
  literals_more i zero = refl
  literals_more i (suc n) = rw (at_more i, literals_more (suc i) n)

-- numbers in sixes are the literals of their indexes
pub sixes_some : (ns : List ℕ) (n : ℕ) → length ns ≡ n * 6 → sixes ns ≡ some (literals ns 0 n)
unfolding sixes one_more literals literal_at
sixes_some [] zero h = refl
sixes_some [] (suc n) h = absurd (omega arith)
sixes_some (a ∷ []) n h = absurd (omega arith)
sixes_some (a ∷ b ∷ []) n h = absurd (omega arith)
sixes_some (a ∷ b ∷ c ∷ []) n h = absurd (omega arith)
sixes_some (a ∷ b ∷ c ∷ d ∷ []) n h = absurd (omega arith)
sixes_some (a ∷ b ∷ c ∷ d ∷ e ∷ []) n h = absurd (omega arith)
sixes_some (a ∷ b ∷ c ∷ d ∷ e ∷ f ∷ ns) zero h = absurd (omega arith)
sixes_some (a ∷ b ∷ c ∷ d ∷ e ∷ f ∷ ns) (suc n) h = rw (sixes_some ns n (omega arith), literals_more a b c d e f ns 0 n)

-- other numbers are none
pub sixes_none : (ns : List ℕ) → (length ns % 6 ≡ 0 → ⊥) → sixes ns ≡ none
unfolding sixes one_more
sixes_none [] h = absurd (h refl)
sixes_none (a ∷ []) h = refl
sixes_none (a ∷ b ∷ []) h = refl
sixes_none (a ∷ b ∷ c ∷ []) h = refl
sixes_none (a ∷ b ∷ c ∷ d ∷ []) h = refl
sixes_none (a ∷ b ∷ c ∷ d ∷ e ∷ []) h = refl
sixes_none (a ∷ b ∷ c ∷ d ∷ e ∷ f ∷ ns) h = rw (sixes_none ns (λ q. h (omega arith)))

-- the first start, if there is any literal
pub first_start_lem : (test : ℕ → Bool) (ns : List ℕ) (n : ℕ) → any_of test (literals ns 0 n) ≡ true → first_start (literals ns 0 n) ≡ (literal_at ns 0).start
unfolding literals any_of first_start
first_start_lem test ns zero e = cc
first_start_lem test ns (suc n) e = refl

-- no more characters than bytes
pub chars_most : (script : List ℕ) (ls : List Literal) → all_chars script ls ≤ total ls
unfolding all_chars total body
chars_most script [] = omega arith
chars_most script (l ∷ ls) =
    let s = body script l in
    omega (arith, (counted_small s (length s)).1, part_short script l.offset (l.offset + l.size), chars_most script ls)
