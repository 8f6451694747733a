-- The rules of the byte classes: the table's, by one test over its 256 entries; and each class's bytes after the first.
-- Assumes nothing.
use Rattle.std.specs.Prelude.{if◌then◌else◌}
use mathlib.Core.Path.{◌≡◌, refl, ap}
use mathlib.Core.Bool.{Bool}
use mathlib.Core.List.{List, [], ◌∷◌}
use mathlib.Core.Option.{Option, none, some}
use Prim.Native.Nat.{ℕ, zero, suc, ◌+◌, ◌≤◌, ◌<◌}
use native.Mathlib.Numerals.{add-one}
use native.Mathlib.Omega.{arith}
use lib.Dec.{eqb, leb, eqb→eq, leb→le, lit<}
use lib.ListN.{length, get_or}
use Rattle.definition.specs.Chars.{ascii, byte, Range, inside, table37, following, follow, width}
use Rattle.utf8.specs.Classes.{classes, row_from, class_of, ranges}
use Rattle.definition.proofs.Moves.CharLaws.{cases, Each}
use Rattle.utf8.proofs.Table.{at}

-- the other tables, as the code has them
abbrev pub mores : List ℕ
mores = 0 ∷ 0 ∷ 1 ∷ 2 ∷ 2 ∷ 2 ∷ 2 ∷ 3 ∷ 3 ∷ 3 ∷ []

abbrev pub lows : List ℕ
lows = 0 ∷ 0 ∷ 0x80 ∷ 0xA0 ∷ 0x80 ∷ 0x80 ∷ 0x80 ∷ 0x90 ∷ 0x80 ∷ 0x80 ∷ []

abbrev pub highs : List ℕ
highs = 0 ∷ 0 ∷ 0xBF ∷ 0xBF ∷ 0xBF ∷ 0x9F ∷ 0xBF ∷ 0xBF ∷ 0xBF ∷ 0x8F ∷ []

-- the rule of the classes
pub class_is : (b : ℕ) → b < 256 → get_or classes b 0 ≡ class_of b + 48
unfolding ascii class_of row_from table37
class_is b h = eqb→eq _ _ (at (λ k x. eqb x (class_of k + 48)) classes tt b h)

-- at most three bytes follow
pub more_small : (k : ℕ) → k < 10 → get_or mores k 0 ≤ 3
more_small k h = leb→le _ _ (at (λ j x. leb x 3) mores tt k h)

-- what follows a first byte of a class
abbrev after : ℕ → Option (List Range)
after zero = none
after (suc k) = some (ranges (get_or mores (suc k) 0) (get_or lows (suc k) 0) (get_or highs (suc k) 0))

-- the class of a byte tells what follows it, since each row does
after_rows : (k b : ℕ) (rows : List (Range × List Range)) → Each (λ j row. (some row.1 ≡ after j) × (j < 10)) k rows → (following rows b ≡ after (row_from k rows b)) × (row_from k rows b < 10)
unfolding following row_from
after_rows k b [] e = (refl, omega arith)
after_rows k b (row ∷ rows) e =
    cases (inside row.0 b) (λ t. rw (t, following, row_from) e.0)
    (λ t. rw (t, following, row_from) (after_rows (suc k) b rows e.1))

after_is : (b : ℕ) → (following table37 b ≡ after (class_of b)) × (class_of b < 10)
unfolding table37 class_of ranges
after_is b =
    after_rows 1 b table37
    ((refl, lit< tt), ((refl, lit< tt), ((refl, lit< tt), ((refl, lit< tt), ((refl, lit< tt), ((refl, lit< tt), ((refl, lit< tt), ((refl, lit< tt), ((refl, lit< tt), tt)))))))))

pub class_small : (b : ℕ) → class_of b < 10
class_small b = (after_is b).1

length_ranges : (more low high : ℕ) → length (ranges more low high) ≡ more
unfolding ranges
length_ranges zero low high = refl
length_ranges (suc more) low high = ap suc (length_ranges more 0x80 0xBF)

-- the length of a character by the class of its first byte
pub width_none : (s : List ℕ) (i : ℕ) → class_of (byte s i) ≡ 0 → width s i ≡ 0
unfolding width
width_none s i e = rw ((after_is (byte s i)).0, width) (rw e)

pub width_class : (s : List ℕ) (i k : ℕ) → class_of (byte s i) ≡ k → (k ≡ 0 → ⊥) → (b : Bool) → b ≡ follow (ranges (get_or mores k 0) (get_or lows k 0) (get_or highs k 0)) s (i + 1) → width s i ≡ (if b then get_or mores k 0 + 1 else 0)
unfolding width
width_class s i zero e n b f = absurd (n refl)
width_class s i (suc k) e n b f =
    rw ((after_is (byte s i)).0, width) (rw e (rw (length_ranges (get_or mores (suc k) 0), add-one (get_or mores (suc k) 0), f)))
