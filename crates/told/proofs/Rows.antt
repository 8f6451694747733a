-- Rows that are written, and read back. Assumes nothing.
use Rattle.std.specs.Prelude.{if◌then◌else◌}
use mathlib.Core.Path.{◌≡◌, refl, sym, ◌∙◌, ap, ap₂}
use mathlib.Core.Bool.{Bool, true, false, not, ◌||◌}
use mathlib.Core.List.{List, [], ◌∷◌, ◌++◌, append-nil, append_assoc}
use Prim.Native.Nat.{ℕ, suc, ◌+◌, ◌-◌, ◌*◌, ◌≤◌, ◌<◌, min}
use native.Mathlib.Nat.{zero-add, add-zero, suc-add, sub-zero}
use native.Mathlib.Numerals.{add-one}
use native.Mathlib.Omega.{arith}
use borrow.Author.Tests.{leb-true, leb-false, ltb-false}
use lib.Dec.{eqb, leb, ltb}
use lib.ListN.{length, get_or, length-append}
use Rattle.definition.specs.Numbers.{unknown_prefix, read_otherwise}
use Rattle.definition.specs.Entry as d
use Rattle.definition.specs.Rows.{reason, Row, row_numbers}
use Rattle.definition_scripts.specs.Cut.{cut_part}
use Rattle.definition_scripts.specs.Keywords.{word_start, may_stand}
use Rattle.definition_scripts.specs.Listing.{ListRow, of_field, of_refusal, ten_of, tens, unknown_row, source_end, otherwise, otherwise_row, refusals_in, least}
use Rattle.definition_scripts_laws.proofs.Listing.ListingSteps.{ten}
use Rattle.buffers.specs.Over.{over}
use Rattle.buffers.proofs.Over.{over_nil}
use Rattle.sources.specs.declared.Field.{Field}
use Rattle.sources.specs.Source.{signs_of, row_of, Source, otherwise_of}
use Rattle.sources.proofs.Odds.{otherwise_source}
use Rattle.told.specs.Rows.{Wrote, told_otherwise, row_at, rows_in, refusal}

-- NOTHING, and one row
pub wrote_none : (rows : List ℕ) (count : ℕ) → Wrote [] rows rows count 0
unfolding tens
wrote_none rows count = record { counted = refl; wrote = sym (over_nil rows (count * 10)) }

pub wrote_one : (r : ListRow) (rows rows' : List ℕ) (count : ℕ) → rows' ≡ over rows (count * 10) (ten_of r) → Wrote (r ∷ []) rows rows' count 1
unfolding tens
wrote_one r rows rows' count e = record { counted = refl; wrote = e ∙ ap (over rows (count * 10)) (sym (append-nil (ten_of r))) }

-- a refusal that is told or not
pub told_most : (t : Bool) (w start place number : ℕ) → length (if t then of_refusal w start place number 0 0 0 ∷ [] else []) ≤ 1
told_most true w start place number = omega arith
told_most false w start place number = omega arith

-- a literal's 76
pub wrote_unknown : (s : List ℕ) (w : ℕ) (l : d.Literal) (rows rows' : List ℕ) (count word : ℕ) → may_stand s l.start ≡ false → word ≡ word_start s l.start
    → rows' ≡ over rows (count * 10) (ten_of (of_refusal w l.start word unknown_prefix 0 0 0)) → Wrote (unknown_row s w l) rows rows' count 1
unfolding unknown_row
wrote_unknown s w l rows rows' count word e f g = rw (e, ← f) (wrote_one (of_refusal w l.start word unknown_prefix 0 0 0) rows rows' count g)

pub unknown_most : (s : List ℕ) (w : ℕ) (l : d.Literal) (rows rows' : List ℕ) (count n : ℕ) → Wrote (unknown_row s w l) rows rows' count n → n ≤ 1
unfolding unknown_row
unknown_most s w l rows rows' count n p = let e = p.counted in omega (arith, told_most (not (may_stand s l.start)) w l.start (word_start s l.start) unknown_prefix)

-- a field's 75: of a script that is too long there is none; where the source lies in the script it is the definition's
pub otherwise_short : (s : List ℕ) (f : Field) → otherwise_of s f < length s → length s ≤ 1048576
unfolding otherwise_of
otherwise_short s f h = go (ltb (source_end (signs_of f)) f.place) (ltb (length s) (source_end (signs_of f))) (ltb 1048576 (length s)) refl h
  where
    go : (a b c : Bool) → ltb 1048576 (length s) ≡ c → (if a || b || c then length s else otherwise s (row_of f) (cut_part s f.place (source_end (signs_of f)))) < length s → length s ≤ 1048576
    go true b c e k = absurd (omega arith)
    go false true c e k = absurd (omega arith)
    go false false true e k = absurd (omega arith)
    go false false false e k = ltb-false 1048576 (length s) e

pub otherwise_most : (s : List ℕ) (w : ℕ) (f : Field) (rows rows' : List ℕ) (count n : ℕ) → Wrote (told_otherwise s w f) rows rows' count n → n ≤ 1
unfolding told_otherwise
otherwise_most s w f rows rows' count n p = let e = p.counted in omega (arith, told_most (ltb (otherwise_of s f) (length s)) w f.start (otherwise_of s f) read_otherwise)

pub otherwise_told : (s : List ℕ) (w : ℕ) (f : Field) → Source s f → told_otherwise s w f ≡ otherwise_row s w (row_of f) (cut_part s f.place (source_end (signs_of f)))
unfolding told_otherwise otherwise_row
otherwise_told s w f p = rw (otherwise_source s f p)

-- A ROW READ BACK from where it stands
get_or_behind : (pre xs : List ℕ) (k d : ℕ) → get_or (pre ++ xs) (length pre + k) d ≡ get_or xs k d
get_or_behind [] xs k d = rw zero-add
get_or_behind (x ∷ pre) xs k d = rw (suc-add (length pre) k) (get_or_behind pre xs k d)

reason_low : (r : Row) → eqb (reason r.signs) 5 ≡ false
unfolding reason
reason_low r = go (eqb r.signs.bang 0) (eqb r.signs.equals 0) (eqb r.signs.colon 0)
  where
    go : (a b c : Bool) → eqb (if not a then 1 else if b then 2 else if c then 3 else 4) 5 ≡ false
    go false b c = refl
    go true true c = refl
    go true false true = refl
    go true false false = refl

pub row_back : (pre : List ℕ) (i : ℕ) (r : ListRow) (rest : List ℕ) → length pre ≡ i * 10 → row_at (pre ++ (ten_of r ++ rest)) i ≡ r
unfolding row_at ten_of row_numbers
row_back pre i (of_field w r) rest e =
    let n : (k : ℕ) → get_or (pre ++ (ten_of (of_field w r) ++ rest)) (i * 10 + k) 0 ≡ get_or (ten_of (of_field w r) ++ rest) k 0 = λ k. rw (← e) (get_or_behind pre (ten_of (of_field w r) ++ rest) k 0) in
    let first = rw (add-zero (i * 10)) at (n 0) in
    rw (first, n 1, n 2, n 3, n 4, n 5, n 6, n 7, n 8, n 9, reason_low r)
row_back pre i (of_refusal w start place number a b o) rest e =
    let n : (k : ℕ) → get_or (pre ++ (ten_of (of_refusal w start place number a b o) ++ rest)) (i * 10 + k) 0 ≡ get_or (ten_of (of_refusal w start place number a b o) ++ rest) k 0 = λ k. rw (← e) (get_or_behind pre (ten_of (of_refusal w start place number a b o) ++ rest) k 0) in
    let first = rw (add-zero (i * 10)) at (n 0) in
    rw (first, n 1, n 2, n 3, n 4, n 5, n 6, n 9)

-- and so many rows
pub rows_back : (pre : List ℕ) (i : ℕ) (rs : List ListRow) (rest : List ℕ) → length pre ≡ i * 10 → rows_in (pre ++ (tens rs ++ rest)) i (length rs) ≡ rs
unfolding rows_in tens
rows_back pre i [] rest e = refl
rows_back pre i (r ∷ rs) rest e =
    let j = row_back pre i r (tens rs ++ rest) e in
    let k = rows_back (pre ++ ten_of r) (suc i) rs rest (length-append pre (ten_of r) ∙ omega (arith, ten r)) in
    ap₂ ◌∷◌ (rw (← append_assoc (ten_of r) (tens rs) rest) at j) (rw (append_assoc pre (ten_of r) (tens rs ++ rest), ← append_assoc (ten_of r) (tens rs) rest) at k)

-- REFUSALS AMONG ROWS, one by one
pub refusals_start : (rows : List ℕ) (count : ℕ) → refusals_in (rows_in rows 0 count) ≡ 0 + refusals_in (rows_in rows 0 (count - 0))
refusals_start rows count = rw (sub-zero, zero-add)

pub refusals_next : (rows : List ℕ) (count i n m : ℕ) → i < count → m ≡ refusal (get_or rows (i * 10) 0) → refusals_in (rows_in rows 0 count) ≡ n + refusals_in (rows_in rows i (count - i))
    → refusals_in (rows_in rows 0 count) ≡ n + m + refusals_in (rows_in rows (i + 1) (count - (i + 1)))
unfolding rows_in row_at refusals_in
refusals_next rows count i n m h f e =
    let left : count - i ≡ suc (count - (i + 1)) = omega arith in
    e ∙ rw (left, f, add-one i) (go (eqb (get_or rows (i * 10) 0) 5) refl)
  where
    go : (t : Bool) → eqb (get_or rows (i * 10) 0) 5 ≡ t → n + refusals_in (row_at rows i ∷ rows_in rows (suc i) (count - suc i)) ≡ n + refusal (get_or rows (i * 10) 0) + refusals_in (rows_in rows (suc i) (count - suc i))
    go true q = rw q (omega arith)
    go false q = rw q (omega arith)

pub refusals_done : (rows : List ℕ) (count i n : ℕ) → count ≤ i → refusals_in (rows_in rows 0 count) ≡ n + refusals_in (rows_in rows i (count - i)) → n ≡ refusals_in (rows_in rows 0 count)
unfolding rows_in refusals_in
refusals_done rows count i n h e = let z : count - i ≡ 0 = omega arith in sym (e ∙ rw (z, add-zero))

pub refusals_most : (rs : List ListRow) → refusals_in rs ≤ length rs
unfolding refusals_in
refusals_most [] = omega arith
refusals_most (of_field w r ∷ rs) = omega (arith, refusals_most rs)
refusals_most (of_refusal w start place number a b o ∷ rs) = omega (arith, refusals_most rs)
